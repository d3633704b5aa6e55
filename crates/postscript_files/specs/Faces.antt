-- A face with a `CFF ` table (ISO/IEC 14496-22, 4.5 and 5.1).
use Rattle.std.specs.Prelude.{◌≡◌, ◌⊎◌, ℕ, List, drop}
use Rattle.postscript_sfnt.specs.Choice.{IsChosen, place_at}
use Rattle.postscript_sfnt.specs.Lent.{AreAdvancesOf, HasNoTable, IsFaceOf, IsTableOf}
use Rattle.postscript_sfnt.specs.Maps.{IsMapAt, IsWhole}
use Rattle.postscript_sfnt.specs.Metrics.{HasAdvances}
use Rattle.postscript_sfnt.specs.Refusals.{NoFace}
use Rattle.postscript_sfnt.specs.declared.character_map.CharacterMap.{CharacterMap}
use Rattle.postscript_sfnt.specs.declared.file.FontFile.{FontFile}
use Rattle.postscript_files.specs.declared.error.Error.{Error}
use Rattle.postscript_files.specs.declared.error.Error.TheVariants.{File, MissingTable, NoMap, NoAdvances}
use Rattle.postscript_files.specs.declared.face.Face.{Face}

-- tags of tables
abbrev pub cff_tag : ℕ
cff_tag = 0x43464620

abbrev pub cmap_tag : ℕ
cmap_tag = 0x636d6170

abbrev pub hhea_tag : ℕ
hhea_tag = 0x68686561

abbrev pub hmtx_tag : ℕ
hmtx_tag = 0x686d7478

abbrev pub maxp_tag : ℕ
maxp_tag = 0x6d617870

abbrev pub post_tag : ℕ
post_tag = 0x706f7374

-- the character map of the best record of a `cmap` table
abbrev pub IsBestMap : (cmap : List ℕ) → CharacterMap → Type 0
IsBestMap cmap map = (i : ℕ) × IsChosen cmap i × IsMapAt cmap (place_at cmap i) map

-- that map is truncated or has another format, or there is no such record
abbrev pub HasNoMap : (cmap : List ℕ) → Type 0
HasNoMap cmap = (i : ℕ) → IsChosen cmap i → IsWhole (drop (place_at cmap i) cmap) → ⊥

-- The face of this number, with its own tables, best map and advance widths.
pub record IsFaceIn (bytes : List ℕ) (number : ℕ) (face : Face) : Type 0 where
  pub read : IsFaceOf bytes number face.file
  pub cff : IsTableOf face.file cff_tag face.cff.now
  pub cmap : IsTableOf face.file cmap_tag face.cmap.now
  pub map : IsBestMap face.cmap.now face.map
  pub hhea : IsTableOf face.file hhea_tag face.hhea.now
  pub hmtx : IsTableOf face.file hmtx_tag face.hmtx.now
  pub advances : AreAdvancesOf face.hhea.now face.hmtx.now face.advances
  pub maxp : IsTableOf face.file maxp_tag face.maxp.now

-- one of the five required tables
abbrev pub IsNeeded : (tag : ℕ) → Type 0
IsNeeded tag = (tag ≡ cff_tag) ⊎ ((tag ≡ cmap_tag) ⊎ ((tag ≡ hhea_tag) ⊎ ((tag ≡ hmtx_tag) ⊎ (tag ≡ maxp_tag))))

-- the file has the face, and this is true of it
abbrev pub OfFile : (bytes : List ℕ) → (number : ℕ) → (FontFile → Type 0) → Type 0
OfFile bytes number P = (file : FontFile) × IsFaceOf bytes number file × P file

-- why there is no such face
abbrev pub NoFaceIn : Error → (bytes : List ℕ) → (number : ℕ) → Type 0
NoFaceIn (File e) bytes number = NoFace e bytes number
NoFaceIn (MissingTable tag) bytes number = OfFile bytes number (λ file. IsNeeded tag × HasNoTable file tag)
NoFaceIn NoMap bytes number = OfFile bytes number (λ file. (cmap : List ℕ) × IsTableOf file cmap_tag cmap × HasNoMap cmap)
NoFaceIn NoAdvances bytes number = OfFile bytes number (λ file. (hhea : List ℕ) × (hmtx : List ℕ) × IsTableOf file hhea_tag hhea
    × IsTableOf file hmtx_tag hmtx × ((count : ℕ) → HasAdvances hhea hmtx count → ⊥))
NoFaceIn _ bytes number = ⊥
