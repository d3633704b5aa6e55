-- The new numbers of glyphs. The origin of a new glyph is the old glyph that it is made of.
use Rattle.std.specs.Prelude.{◌≡◌, ◌≢◌, ◌⊎◌, ◌↔◌, ℕ, ◌<◌, Bool, true, false, List, Option, length, slice_index_or}
use Rattle.std.specs.List.{Contains, range_with_len}
use Rattle.postscript_base.specs.declared.error.Error as causes
use Rattle.postscript_base.specs.declared.error.Error.TheVariants as reasons
use Rattle.postscript_drawing.specs.Components.{glyphs_of as glyphs_in}
use Rattle.postscript_sfnt_write.specs.declared.mapping.Mapping.{Mapping}
use Rattle.postscript_view.specs.declared.font.FontView.{FontView}
use Rattle.postscript_write.specs.Components.{AreKept, IsOpened}
use Rattle.postscript_write.specs.Costs.{KeepsWithin, StopsIn}
use Rattle.postscript_write.specs.Refusals.{IsRefusedAs, IsSubsetRefusedBy, NeedsNoName}
use Rattle.postscript_write.specs.Sources.{choice_by}
use Rattle.postscript_write.specs.declared.error.Error.{Error as Refusal}
use Rattle.postscript_write.specs.declared.error.Error.TheVariants as refusals
use Rattle.postscript_files.specs.Choices.{AreKeptPairs, IsKept, glyphs_of, named_of}
use Rattle.postscript_files.specs.declared.choice.Choice.{Choice}
use Rattle.postscript_files.specs.declared.error.Error.{Error}
use Rattle.postscript_files.specs.declared.error.Error.TheVariants.{Font, Memory}
use Rattle.postscript_files.specs.declared.error.Error.TheVariants as errors
use Rattle.postscript_files.specs.declared.face.Face.{Face}

-- a new glyph of this number has this origin
pub record IsOrigin (origins : List ℕ) (i glyph : ℕ) : Type 0 where
  pub there : i < length origins
  pub is : slice_index_or origins i 0 ≡ glyph

-- Glyphs that keep their numbers are their own origins. Otherwise the origins are the kept glyphs, in order.
abbrev pub AreOrigins : (retain : Bool) → (named cff origins : List ℕ) → Type 0
AreOrigins true named cff origins = (font : FontView) × IsOpened cff font × (origins ≡ range_with_len 0 (glyphs_in font))
AreOrigins false named cff origins = AreKept named cff origins

-- a glyph is chosen, or it is that of a kept character
abbrev pub IsNamed : Choice → Face → (glyph : ℕ) → Type 0
IsNamed choice face glyph = Contains (glyphs_of choice) glyph ⊎ ((char : ℕ) × IsKept choice face.map char glyph)

-- these are the chosen glyphs and those of kept characters
abbrev pub AreAllNamed : Choice → Face → (named : List ℕ) → Type 0
AreAllNamed choice face named = (glyph : ℕ) → Contains named glyph ↔ IsNamed choice face glyph

-- each number is below 65,536
abbrev pub AreSmall : (numbers : List ℕ) → Type 0
AreSmall numbers = (k : ℕ) → k < length numbers → slice_index_or numbers k 0 < 65536

-- fewer than 65,536 numbers, each of them below 65,536
abbrev pub AreFew : (numbers : List ℕ) → Type 0
AreFew numbers = (length numbers < 65536) × AreSmall numbers

-- these are the origins of the glyphs of a subset
abbrev pub AreOriginsOf : Choice → Face → (origins : List ℕ) → Type 0
AreOriginsOf choice face origins = (pairs : List Mapping) × AreKeptPairs choice face.map pairs
    × AreOrigins choice.retain_gids (named_of (glyphs_of choice) pairs) face.cff.now origins

-- a subset keeps the glyph: it is named, or .notdef, or a component of a kept `seac` glyph
abbrev pub IsKeptGlyph : Choice → Face → (glyph : ℕ) → Type 0
IsKeptGlyph choice face glyph = (pairs : List Mapping) × (kept : List ℕ) × AreKeptPairs choice face.map pairs
    × AreKept (named_of (glyphs_of choice) pairs) face.cff.now kept × Contains kept glyph

-- if there is a limit, the runs of the kept glyphs share it
abbrev pub KeepsToLimit : Choice → Face → Type 0
KeepsToLimit choice face = (pairs : List Mapping) × AreKeptPairs choice face.map pairs
    × KeepsWithin choice.limit (named_of (glyphs_of choice) pairs) face.cff.now

-- the number of glyphs in the `CFF ` table
abbrev pub HasGlyphs : Face → (count : ℕ) → Type 0
HasGlyphs face count = (font : FontView) × IsOpened face.cff.now font × (count ≡ glyphs_in font)

-- Why a font with only these glyphs is not written, as `subset` says, or `subset_keeping` if glyphs keep their numbers. Or the limit is used
-- up, or a kept glyph fails.
pub record IsCutRefusedBy (limit : Option ℕ) (retain : Bool) (named cff : List ℕ) (e : Refusal) : Type 0 where
  pub why : IsSubsetRefusedBy named (choice_by retain) cff e ⊎ StopsIn cff named limit e
  pub names : retain ≡ true → NeedsNoName e

-- why a font is not opened
abbrev pub IsUnopened : (cff : List ℕ) → Error → Type 0
IsUnopened cff e = (e ≡ errors.Memory)
    ⊎ ((cause : causes.Error) × (e ≡ errors.Font (refusals.Refused cause)) × (cause ≢ reasons.Memory → IsRefusedAs cff cause))

-- why there are no origins
abbrev pub NoOriginsOf : Choice → Face → Error → Type 0
NoOriginsOf choice face Memory = Unit {0}
NoOriginsOf choice face (Font e) = (pairs : List Mapping) × AreKeptPairs choice face.map pairs
    × IsCutRefusedBy choice.limit choice.retain_gids (named_of (glyphs_of choice) pairs) face.cff.now e
NoOriginsOf choice face _ = ⊥
