-- The glyphs that substitutions can make of the glyphs of a choice.
use Rattle.std.specs.Prelude.{◌≡◌, ◌⊎◌, ℕ, ◌<◌, ◌++◌, List, [], ◌∷◌, nat_lt}
use Rattle.std.specs.List.{Contains, filter}
use Rattle.postscript_files.specs.Origins.{AreAllNamed, HasGlyphs, IsNamed, IsUnopened}
use Rattle.postscript_files.specs.Subsets.{AreSequenceGlyphs}
use Rattle.postscript_files.specs.declared.choice.Choice.{Choice}
use Rattle.postscript_files.specs.declared.error.Error.{Error as Cause}
use Rattle.postscript_files.specs.declared.face.Face.{Face}
use Rattle.postscript_layout_write.specs.Reached.{AreReached}
use Rattle.postscript_sfnt.specs.Lent.{HasNoTable, IsTableOf}
use Rattle.postscript_sfnt.specs.declared.file.FontFile.{FontFile}
use Rattle.postscript_subset.specs.Lookups.{AreNamedBy}
use Rattle.postscript_subset.specs.Refusals.{IsSearched}
use Rattle.postscript_subset.specs.declared.error.Error.{Error}
use Rattle.postscript_subset.specs.declared.error.Error.TheVariants as errors
use Rattle.postscript_subset.specs.declared.features.Features.{Features}

-- the table with a tag, or no bytes if the face has none
abbrev pub IsTableOrNone : FontFile → (tag : ℕ) → List ℕ → Type 0
IsTableOrNone file tag table = IsTableOf file tag table ⊎ (HasNoTable file tag × (table ≡ []))

-- these glyphs and .notdef, or none if there are none
abbrev pub with_notdef : (named : List ℕ) → List ℕ
with_notdef [] = []
with_notdef (glyph ∷ glyphs) = glyph ∷ glyphs ++ 0 ∷ []

-- The lookups are those of the features, and those that their contexts call. The glyphs are the named ones, those of variation sequences of kept
-- characters, .notdef, and all that these lookups can make of them. There are none if none is named.
pub record AreClosed (choice : Choice) (features : Features) (face : Face) (gsub lookups glyphs : List ℕ) : Type 0 where
  pub chosen : List ℕ
  pub of_features : AreNamedBy features gsub chosen
  pub named : List ℕ
  pub are : AreAllNamed choice face named
  pub varied : List ℕ
  pub of_sequences : AreSequenceGlyphs choice face varied
  pub reached : AreReached gsub chosen (with_notdef (named ++ varied)) lookups glyphs

-- a glyph of a text is named, or that of a variation sequence
abbrev pub IsOfText : Choice → Face → (varied : List ℕ) → (glyph : ℕ) → Type 0
IsOfText choice face varied glyph = IsNamed choice face glyph ⊎ Contains varied glyph

-- the glyphs below a number
abbrev pub below : (count : ℕ) → List ℕ → List ℕ
below count glyphs = filter (λ glyph. nat_lt glyph count) glyphs

-- these glyphs, and those of a list that the face has
abbrev pub AreExtended : Face → (unmapped glyphs all : List ℕ) → Type 0
AreExtended face unmapped glyphs all = (count : ℕ) × HasGlyphs face count × (all ≡ unmapped ++ below count glyphs)

-- a named glyph has a number above 65,535
abbrev pub IsLargeGlyph : Choice → Face → Error → Type 0
IsLargeGlyph choice face e = (glyph : ℕ) × (e ≡ errors.LargeGlyph glyph) × IsNamed choice face glyph × (65535 < glyph)

abbrev pub IsClosingError : Choice → Face → (left : ℕ) → Error → Type 0
IsClosingError choice face left e = IsSearched left e ⊎ IsLargeGlyph choice face e

-- the `CFF ` table is not opened
abbrev pub IsUnopenedFace : Face → Error → Type 0
IsUnopenedFace face e = (cause : Cause) × (e ≡ errors.File cause) × IsUnopened face.cff.now cause
