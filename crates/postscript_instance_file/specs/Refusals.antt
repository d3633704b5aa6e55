-- Why a variable font is not opened, and why it has no location or no static font.
use Rattle.std.specs.Prelude.{◌≡◌, ◌⊎◌, ◌<◌, ℕ, List, Bool, true, false, codes, length, Option, Some, None}
use Rattle.std.specs.List.Sorted.{IsPermutation}
use denote.Ref.{Bor}
use Rattle.postscript_cff2.specs.Causes.{NoFont}
use Rattle.postscript_cff2.specs.declared.error.Error.{Error as FontError}
use Rattle.postscript_cff2.specs.declared.font.Font.{Font}
use Rattle.postscript_instance.specs.Glyphs.{NoRoundedTable, NoTable}
use Rattle.postscript_instance.specs.declared.advances.AdvancesAt.{AdvancesAt}
use Rattle.postscript_instance.specs.declared.error.Error.{Error as CauseOfTable}
use Rattle.postscript_instance.specs.declared.naming.Naming.{Naming}
use Rattle.postscript_instance_file.specs.Faces.{IsAt, IsFoundFace, IsTableOrNone, IsVariableFace, avar_tag, cff2_tag, fvar_tag, hhea_tag, hmtx_tag, hvar_tag, maxp_tag, mvar_tag}
use Rattle.postscript_instance_file.specs.Glyphs.{HasNoWidths, NamesUndrawn, NamesUnwritten}
use Rattle.postscript_instance_file.specs.Instances.{AreAdvancesAt, HaveFont, IsFontAt, cff_tag}
use Rattle.postscript_instance_file.specs.Names.{HasLongNames}
use Rattle.postscript_instance_file.specs.declared.error.Error.{Error}
use Rattle.postscript_instance_file.specs.declared.error.Error.TheVariants as errors
use Rattle.postscript_instance_file.specs.declared.face.VariableFace.{VariableFace}
use Rattle.postscript_instance_file.specs.declared.location.Location.{Location}
use Rattle.postscript_instance_file.specs.declared.made.Unmade.{Unmade}
use Rattle.postscript_instance_file.specs.declared.made.Unmade.TheVariants as reasons
use Rattle.postscript_instance_file.specs.Weights.{IsHeavy}
use Rattle.postscript_sfnt.specs.Lent.{HasNoTable, IsFaceOf, IsTableOf}
use Rattle.postscript_sfnt.specs.Metrics.{HasAdvances, IsGlyphs}
use Rattle.postscript_sfnt.specs.Refusals.{NoFace}
use Rattle.postscript_sfnt.specs.declared.error.Error.{Error as FileError}
use Rattle.postscript_sfnt.specs.declared.file.FontFile.{FontFile}
use Rattle.postscript_sfnt_write.specs.Files.{Refuses}
use Rattle.postscript_sfnt_write.specs.declared.error.Error.{Error as CauseOfFile}
use Rattle.postscript_sfnt_write.specs.declared.error.Error.TheVariants as writing
use Rattle.postscript_sfnt_write.specs.declared.file.Table.{Table}
use Rattle.postscript_variable_font.specs.Places.{NoPlace}
use Rattle.postscript_variable_font.specs.declared.error.Error.{Error as PlaceError}
use Rattle.postscript_variation.specs.Refusals.{NoAdvances, NoAxes, NoMaps, NoMetrics}
use Rattle.postscript_variation.specs.declared.coordinates.Setting.{Setting}
use Rattle.postscript_variation.specs.declared.error.Error.{Error as TableError}
use Rattle.postscript_variation.specs.declared.store.Store.{Store}

-- the face has a table with this tag, which the relation rejects
abbrev pub HasBad : FontFile → (tag : ℕ) → (IsBad : List ℕ → Type 0) → Type 0
HasBad file tag IsBad = (table : List ℕ) × IsTableOf file tag table × IsBad table

-- the `hhea` and `hmtx` tables have no advance widths
abbrev pub HasBadAdvances : FontFile → Type 0
HasBadAdvances file = (hhea : List ℕ) × (hmtx : List ℕ) × IsTableOf file hhea_tag hhea × IsTableOf file hmtx_tag hmtx
    × ((count : ℕ) → HasAdvances hhea hmtx count → ⊥)

-- the `maxp` table has no number of glyphs
abbrev pub HasBadCount : FontFile → Type 0
HasBadCount file = HasBad file maxp_tag (λ maxp. (count : ℕ) → IsGlyphs maxp count → ⊥)

-- one of the required tables has this name and this tag
pub data IsNeeded : (name : List ℕ) → (tag : ℕ) → Type 0 where
  of_hhea : IsNeeded (codes "hhea") hhea_tag
  of_hmtx : IsNeeded (codes "hmtx") hmtx_tag
  of_maxp : IsNeeded (codes "maxp") maxp_tag

-- why a face with a `CFF2` table is not opened
pub data IsUnopened (file : FontFile) (e : Error) : Type 0 where
  no_table : (name : Bor (List ℕ)) (tag : ℕ) → IsNeeded name.now tag → HasNoTable file tag → e ≡ errors.NoTable name → IsUnopened file e
  cut_advances : (name : Bor (List ℕ)) → e ≡ errors.Cut name → name.now ≡ codes "hmtx" → HasBadAdvances file → IsUnopened file e
  cut_count : (name : Bor (List ℕ)) → e ≡ errors.Cut name → name.now ≡ codes "maxp" → HasBadCount file → IsUnopened file e
  bad_axes : (name : Bor (List ℕ)) (cause : TableError) → e ≡ errors.Variations name cause → name.now ≡ codes "fvar" →
      HasBad file fvar_tag (NoAxes cause) → IsUnopened file e
  bad_maps : (name : Bor (List ℕ)) (cause : TableError) → e ≡ errors.Variations name cause → name.now ≡ codes "avar" →
      HasBad file avar_tag (NoMaps cause) → IsUnopened file e
  bad_variations : (name : Bor (List ℕ)) (cause : TableError) → e ≡ errors.Variations name cause → name.now ≡ codes "HVAR" →
      HasBad file hvar_tag (NoAdvances cause) → IsUnopened file e
  bad_font : (cause : FontError) → HasBad file cff2_tag (NoFont cause) → e ≡ errors.Font cause → IsUnopened file e
  heavy : (name : Bor (List ℕ)) (face : VariableFace) → IsVariableFace file face → IsHeavy face name.now → e ≡ errors.Heavy name → IsUnopened file e

-- the face has no `CFF2` table, or it has a `CFF ` table too
abbrev pub IsNotVariable : FontFile → Type 0
IsNotVariable file = HasNoTable file cff2_tag ⊎ ((cff : List ℕ) × IsTableOf file cff_tag cff)

-- why the face of a file with this number is not opened
pub data IsUnread (bytes : List ℕ) (number : ℕ) (e : Error) : Type 0 where
  no_face : (cause : FileError) → NoFace cause bytes number → e ≡ errors.File cause → IsUnread bytes number e
  not_variable : (file : FontFile) → IsFaceOf bytes number file → IsNotVariable file → e ≡ errors.NotVariable → IsUnread bytes number e
  unopened : (file : FontFile) → IsFaceOf bytes number file → IsUnopened file e → IsUnread bytes number e

-- the item variation store of a font has no scalars, or memory runs out
abbrev pub NoPlaceIn : Option Store → PlaceError → Type 0
NoPlaceIn None e = ⊥
NoPlaceIn (Some store) e = NoPlace store e

-- why a face has no location
pub data IsUnplaced (face : VariableFace) (e : Error) : Type 0 where
  no_memory : e ≡ errors.Memory → IsUnplaced face e
  no_place : (cause : PlaceError) → NoPlaceIn face.font.store cause → e ≡ errors.Place cause → IsUnplaced face e

-- why there is no `CFF ` table of a face at a location; if it is rounded, each point is a whole number of units
abbrev pub LacksTableBy : (rounded : Bool) → Font → Naming → AdvancesAt → CauseOfTable → Type 0
LacksTableBy true font naming advances e = NoRoundedTable font naming advances e
LacksTableBy false font naming advances e = NoTable font naming advances e

-- the `MVAR` table is rejected
pub record HasBadMetrics (file : FontFile) (e : Error) : Type 0 where
  pub name : Bor (List ℕ)
  pub cause : TableError
  pub named : name.now ≡ codes "MVAR"
  pub bad : HasBad file mvar_tag (NoMetrics cause)
  pub is : e ≡ errors.Variations name cause

-- why there is no file of these tables, sorted by their tags
pub data NoFileOf (tables : List Table) (e : Error) : Type 0 where
  out_of_memory : e ≡ errors.Memory → NoFileOf tables e
  refused : (sorted : List Table) (cause : CauseOfFile) → IsPermutation tables sorted → Refuses cause sorted → e ≡ errors.Write cause →
      NoFileOf tables e

-- why there is no file of tables with this `CFF ` table
pub data NoFileWith (font : List ℕ) (e : Error) : Type 0 where
  no_tables : e ≡ errors.Memory → NoFileWith font e
  no_file_of : (tables : List Table) → HaveFont tables font → NoFileOf tables e → NoFileWith font e

-- the face has no table with this tag, or one with fewer bytes
abbrev pub HasShort : FontFile → (tag size : ℕ) → Type 0
HasShort file tag size = (table : List ℕ) × IsTableOrNone file tag table × (length table < size)

-- why a table is not made: memory runs out, the names are too long, or the `hhea` table is truncated
abbrev pub IsUnmadeBy : VariableFace → Unmade → Type 0
IsUnmadeBy face reasons.Memory = Unit {0}
IsUnmadeBy face reasons.Names = HasLongNames face
IsUnmadeBy face reasons.Cut = HasShort face.file hhea_tag 36

-- the reason that an error of a table that is written is converted to
abbrev pub unmade_by : CauseOfFile → Unmade
unmade_by writing.Memory = reasons.Memory
unmade_by e = reasons.Cut

-- why the tables other than `CFF ` are not made
pub data NoTables (face : VariableFace) (e : Error) : Type 0 where
  no_room : e ≡ errors.Memory → NoTables face e
  bad_metrics : HasBadMetrics face.file e → NoTables face e
  long_names : HasLongNames face → e ≡ errors.Names → NoTables face e
  short_metrics : HasShort face.file hhea_tag 36 → e ≡ errors.Write writing.Cut → NoTables face e

-- why the glyphs of a face are not all drawn and measured at a location, within a limit for each glyph and what is left for all glyphs
pub data AreUndrawn (limit left : ℕ) (face : VariableFace) (location : Location) (e : Error) : Type 0 where
  no_memory_left : e ≡ errors.Memory → AreUndrawn limit left face location e
  no_widths : HasNoWidths face location e → AreUndrawn limit left face location e
  undrawn : NamesUndrawn face location limit left e → AreUndrawn limit left face location e

-- why a static font is not written with glyphs that are all drawn
pub data IsUnwritten (rounded : Bool) (face : VariableFace) (location : Location) (e : Error) : Type 0 where
  memory : e ≡ errors.Memory → IsUnwritten rounded face location e
  no_glyph : NamesUnwritten rounded face location e → IsUnwritten rounded face location e
  no_font : (naming : Naming) (advances : AdvancesAt) (cause : CauseOfTable) → AreAdvancesAt face location.coordinates.items advances →
      LacksTableBy rounded face.font naming advances cause → e ≡ errors.Table cause → IsUnwritten rounded face location e
  no_other_tables : (font : List ℕ) → IsFontAt rounded face location font → NoTables face e → IsUnwritten rounded face location e
  no_file : (font : List ℕ) → IsFontAt rounded face location font → NoFileWith font e → IsUnwritten rounded face location e

-- why a face has no static font at a location
abbrev pub IsUnmade : (rounded : Bool) → (limit left : ℕ) → VariableFace → Location → Error → Type 0
IsUnmade rounded limit left face location e = AreUndrawn limit left face location e ⊎ IsUnwritten rounded face location e

-- why there is no static font of a face of a file, at the location of some settings
pub data NoInstanceFileWithin (limit left : ℕ) (rounded : Bool) (bytes : List ℕ) (number : ℕ) (settings : List Setting) (e : Error) : Type 0 where
  unread : IsUnread bytes number e → NoInstanceFileWithin limit left rounded bytes number settings e
  unplaced : (face : VariableFace) → IsFoundFace bytes number face → IsUnplaced face e →
      NoInstanceFileWithin limit left rounded bytes number settings e
  unmade : (face : VariableFace) (location : Location) → IsFoundFace bytes number face → IsAt face settings location →
      IsUnmade rounded limit left face location e → NoInstanceFileWithin limit left rounded bytes number settings e

-- the same within some limits
abbrev pub NoInstanceFile : (rounded : Bool) → (bytes : List ℕ) → (number : ℕ) → (settings : List Setting) → Error → Type 0
NoInstanceFile rounded bytes number settings e = (limit : ℕ) × (left : ℕ) × NoInstanceFileWithin limit left rounded bytes number settings e
