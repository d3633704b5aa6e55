-- OpenType files, for C.
use Rattle.std.specs.Prelude.{◌≡◌, ◌⊎◌, ℕ, ◌<◌, ℤ, pos, List, drop}
use Rattle.postscript_sfnt.specs.Choice.{IsChosen, place_at}
use Rattle.postscript_sfnt.specs.Directory.{HasFaces, IsFace, IsDirectory, IsSpan, Names}
use Rattle.postscript_sfnt.specs.Maps.{IsMapAt, IsWhole, Maps}
use Rattle.postscript_sfnt.specs.Refusals.{NoFace, NoFaces}
use Rattle.postscript_sfnt.specs.declared.character_map.CharacterMap.{CharacterMap}
use Rattle.postscript_sfnt.specs.declared.error.Error.{Error}
use Rattle.postscript_sfnt.specs.declared.error.Error.TheVariants.{Cut, UnknownVersion, NoSuchFace}

-- the status of an error of a file
abbrev pub file_code : Error → ℕ
file_code Cut = 33
file_code UnknownVersion = 34
file_code NoSuchFace = 35

-- The number of faces is stored. Otherwise the status says why it is not known, and the output is unchanged.
abbrev pub TellsFaces : List ℕ → (status : ℤ) → (old faces : ℕ) → Type 0
TellsFaces bytes status old faces = ((status ≡ pos 0) × HasFaces bytes faces)
    ⊎ ((e : Error) × (status ≡ pos (file_code e)) × NoFaces e bytes × (faces ≡ old))

-- a face begins at an offset, and its directory has `count` tables
pub record HasDirectory (bytes : List ℕ) (face start count : ℕ) : Type 0 where
  pub begins : IsFace bytes face start
  pub directory : IsDirectory bytes start count

-- the offset and the size of the table with a tag in a face
abbrev pub HasTable : List ℕ → (face tag place size : ℕ) → Type 0
HasTable bytes face tag place size = (start : ℕ) × (count : ℕ) × HasDirectory bytes face start count
    × IsSpan bytes start count tag place size

-- no record of the face has the tag and a table inside the file
abbrev pub LacksTable : List ℕ → (face tag : ℕ) → Type 0
LacksTable bytes face tag = (start : ℕ) × (count : ℕ) × HasDirectory bytes face start count
    × ((i : ℕ) → i < count → Names bytes start tag i → ⊥)

-- the outputs for the offset and the size of a table, at one time
pub record Span : Type 0 where
  pub place : ℕ
  pub size : ℕ

abbrev pub span : (place size : ℕ) → Span
span place size = record { place = place; size = size }

-- The offset and the size of a table are stored. Otherwise there is no such table, or the status says why there is no such face, and both
-- are unchanged.
abbrev pub TellsTable : List ℕ → (face tag : ℕ) → (status : ℤ) → (old new : Span) → Type 0
TellsTable bytes face tag status old new =
    ((status ≡ pos 0) × HasTable bytes face tag new.place new.size)
    ⊎ (((status ≡ pos 36) × LacksTable bytes face tag × (new ≡ old))
    ⊎ ((e : Error) × (status ≡ pos (file_code e)) × NoFace e bytes face × (new ≡ old)))

-- the map of the best record of the table
abbrev pub HasMap : (cmap : List ℕ) → CharacterMap → Type 0
HasMap cmap map = (i : ℕ) × IsChosen cmap i × IsMapAt cmap (place_at cmap i) map

abbrev pub LacksMap : (cmap : List ℕ) → Type 0
LacksMap cmap = (i : ℕ) → IsChosen cmap i → IsWhole (drop (place_at cmap i) cmap) → ⊥

-- The glyph of a character is stored, or 0 if it has none. Otherwise there is no map (37), and the output is unchanged.
abbrev pub TellsGlyph : (cmap : List ℕ) → (character : ℕ) → (status : ℤ) → (old glyph : ℕ) → Type 0
TellsGlyph cmap character status old glyph =
    ((status ≡ pos 0) × (map : CharacterMap) × HasMap cmap map × Maps map character glyph)
    ⊎ ((status ≡ pos 37) × LacksMap cmap × (glyph ≡ old))
