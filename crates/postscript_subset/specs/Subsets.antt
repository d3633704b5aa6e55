-- A file with only some characters of a face, with layout tables under the new glyph numbers (ISO/IEC 14496-22, 6).
use Rattle.std.specs.Prelude.{◌≡◌, ◌⊎◌, ℕ, ◌<◌, ◌++◌, Bool, true, false, List, [], ◌∷◌, Some, map, slice_get}
use Rattle.std.specs.List.{All, Contains}
use Rattle.postscript_files.specs.Copies.{HasCopy}
use Rattle.postscript_files.specs.Faces.{IsFaceIn, NoFaceIn}
use Rattle.postscript_files.specs.Origins.{AreOriginsOf, HasGlyphs, IsNamed, IsUnopened}
use Rattle.postscript_files.specs.Subsets.{IsSame, IsSubsetOf, NoSubsetFrom}
use Rattle.postscript_files.specs.declared.choice.Choice.{Choice}
use Rattle.postscript_files.specs.declared.choice.Given.{Given}
use Rattle.postscript_files.specs.declared.error.Error.{Error as Cause}
use Rattle.postscript_files.specs.declared.face.Face.{Face}
use Rattle.postscript_layout_write.specs.Leaving.{left_by}
use Rattle.postscript_layout_write.specs.Pairs.{lookups_of}
use Rattle.postscript_layout_write.specs.Texts.{MayBecome}
use Rattle.postscript_sfnt.specs.Lent.{IsTableOf}
use Rattle.postscript_subset.specs.Closing.{AreClosed, IsOfText, IsTableOrNone, below}
use Rattle.postscript_subset.specs.Layers.{IsCopiedAs, IsGdef, IsGpos, IsGsub, IsKern, all_tables, gdef_tag, gpos_tag, gsub_tag, have_marks}
use Rattle.postscript_subset.specs.Vertical.{AreVertical}
use Rattle.postscript_subset.specs.declared.error.Error.{Error}
use Rattle.postscript_subset.specs.declared.error.Error.TheVariants.{File, LargeGlyph, TooLong}
use Rattle.postscript_subset.specs.declared.features.Features.{Features}
use Rattle.postscript_subset.specs.declared.features.Features.TheVariants.{All as AllFeatures}
use Rattle.postscript_subset.specs.declared.layers.Outcome.{Outcome}
use Rattle.postscript_subset.specs.declared.layers.Outcome.TheVariants.{Kept, NotChosen}
use Rattle.postscript_subset.specs.declared.subset.Subset.{Subset}

-- the tag and the bytes of a table
abbrev pub shown : Given → ℕ × List ℕ
shown table = (table.tag, table.bytes.items)

-- If glyphs keep their numbers, all features count, and the layout tables are copied.
abbrev pub features_by : (retain : Bool) → Features → Features
features_by true features = AllFeatures
features_by false features = features

abbrev pub copied_by : (retain : Bool) → List ℕ
copied_by true = gdef_tag ∷ gpos_tag ∷ gsub_tag ∷ []
copied_by false = []

-- This is the caller's choice, with further glyphs and further tables.
pub record IsWidened (choice by : Choice) (added : List ℕ) (tables : List (ℕ × List ℕ)) : Type 0 where
  pub chars : by.chars.now ≡ choice.chars.now
  pub glyphs : by.glyphs.now ≡ choice.glyphs.now
  pub unmapped : by.unmapped.now ≡ choice.unmapped.now ++ added
  pub lenient : by.lenient ≡ choice.lenient
  pub retain_gids : by.retain_gids ≡ choice.retain_gids
  pub limit : by.limit ≡ choice.limit
  pub copied : by.copied.now ≡ choice.copied.now ++ copied_by choice.retain_gids
  pub given : map shown by.given.now ≡ map shown choice.given.now ++ tables

-- The glyphs of a face that the lookups of the features can make of the named ones and those of variation sequences, with these and .notdef.
pub record AreMade (choice : Choice) (features : Features) (old : Face) (glyphs : List ℕ) : Type 0 where
  pub gsub : List ℕ
  pub is : IsTableOrNone old.file gsub_tag gsub
  pub lookups : List ℕ
  pub closed : List ℕ
  pub are : AreClosed choice (features_by choice.retain_gids features) old gsub lookups closed
  pub count : ℕ
  pub counted : HasGlyphs old count
  pub kept : glyphs ≡ below count closed

-- The choice that a file is made by: the further glyphs are those of variation sequences, and those that the
-- lookups of the features can make of these and of the named ones.
pub record IsBy (choice : Choice) (features : Features) (old : Face) (tables : List (ℕ × List ℕ)) (by : Choice) : Type 0 where
  pub further : List ℕ
  pub made : AreMade choice features old further
  pub widened : IsWidened choice by further tables

-- A text of named glyphs and of those of variation sequences, after any substitutions by the lookups and by those that contexts call, has only these
-- glyphs, apart from glyphs that the face lacks.
abbrev pub TextStaysIn : Choice → Face → (count : ℕ) → (varied gsub lookups origins : List ℕ) → Type 0
TextStaysIn choice old count varied gsub lookups origins = (first used had last : List ℕ) → All (IsOfText choice old varied) first →
    MayBecome gsub lookups first used had last → (glyph : ℕ) → Contains last glyph → glyph < count → Contains origins glyph

-- the chosen lookups that a table does not keep
abbrev pub left_in : Outcome → (marks : Bool) → (gsub lookups : List ℕ) → List ℕ
left_in Kept marks gsub lookups = left_by marks gsub lookups (lookups_of gsub)
left_in _ marks gsub lookups = []

-- The file is a subset of the face. Glyph i of the new face is old glyph origins[i]. The layout tables and the tables for vertical text are made for the
-- origins.
pub record IsCutWithLayout (choice : Choice) (features : Features) (bytes : List ℕ) (number left : ℕ) (subset : Subset) : Type 0 where
  pub by : Choice
  pub cut : IsSubsetOf by bytes number subset.file.items
  pub gdef : List ℕ
  pub gsub : List ℕ
  pub gpos : List ℕ
  pub kern : List ℕ
  pub vertical : List (ℕ × List ℕ)
  pub is : IsBy choice features cut.old (all_tables subset.gdef subset.gsub subset.gpos subset.kern gdef gsub gpos kern vertical) by
  pub origins : List ℕ
  pub are : AreOriginsOf by cut.old origins
  pub classes : IsGdef subset.gdef cut.old.file origins left gdef
  pub substitutions : IsGsub subset.gsub cut.old.file features is.made.lookups origins subset.gdef left gsub
  pub positions : IsGpos subset.gpos cut.old.file features origins subset.gdef left gpos
  pub pairs : IsKern subset.kern cut.old.file features origins subset.gpos gpos left kern
  pub upright : AreVertical cut.old.file origins vertical
  pub there : (i : ℕ) (table : ℕ × List ℕ) → slice_get (all_tables subset.gdef subset.gsub subset.gpos subset.kern gdef gsub gpos kern vertical) i ≡ Some table →
      (new : Face) → IsFaceIn subset.file.items 0 new → HasCopy new.file table.0 table.1
  pub stays : TextStaysIn choice cut.old is.made.count is.made.are.varied is.made.gsub is.made.are.chosen origins
  pub left_out : subset.left_out.items ≡ left_in subset.gsub (have_marks origins subset.gdef) is.made.gsub is.made.lookups

-- A text of named glyphs and of those of variation sequences, after any substitutions by the lookups and by those that contexts call, has only glyphs
-- that are the same in the new face, apart from glyphs that the face lacks.
abbrev pub TextStaysSame : Choice → (old : Face) → (count : ℕ) → (varied gsub lookups file : List ℕ) → Type 0
TextStaysSame choice old count varied gsub lookups file = (first used had last : List ℕ) → All (IsOfText choice old varied) first →
    MayBecome gsub lookups first used had last → (glyph : ℕ) → Contains last glyph → glyph < count → (new : Face) → IsFaceIn file 0 new → IsSame old new glyph glyph

-- The file is a subset of the face in which glyphs keep their numbers, and it has copies of the layout tables.
pub record IsCutInPlace (choice : Choice) (features : Features) (bytes : List ℕ) (number : ℕ) (subset : Subset) : Type 0 where
  pub by : Choice
  pub cut : IsSubsetOf by bytes number subset.file.items
  pub is : IsBy choice features cut.old [] by
  pub gdef : IsCopiedAs subset.gdef cut.old.file gdef_tag
  pub gsub : IsCopiedAs subset.gsub cut.old.file gsub_tag
  pub gpos : IsCopiedAs subset.gpos cut.old.file gpos_tag
  pub kern : subset.kern ≡ NotChosen
  pub copied : (tag : ℕ) (table : List ℕ) → Contains (copied_by true) tag → IsTableOf cut.old.file tag table →
      (new : Face) → IsFaceIn subset.file.items 0 new → HasCopy new.file tag table
  pub stays : TextStaysSame choice cut.old is.made.count is.made.are.varied is.made.gsub is.made.are.chosen subset.file.items
  pub left_out : subset.left_out.items ≡ []

-- why no file of the face is written
abbrev pub NoFileFrom : Choice → Features → (old : Face) → Cause → Type 0
NoFileFrom choice features old e = IsUnopened old.cff.now e ⊎ ((by : Choice) × (gdef : Outcome) × (gsub : Outcome) × (gpos : Outcome)
    × (kern : Outcome) × (a : List ℕ) × (b : List ℕ) × (c : List ℕ) × (d : List ℕ) × (vertical : List (ℕ × List ℕ))
    × IsBy choice features old (all_tables gdef gsub gpos kern a b c d vertical) by × NoSubsetFrom by old e)

-- Why no file is written. Running out of memory may be the error at any time.
abbrev pub NoCutWithLayout : Choice → Features → (bytes : List ℕ) → (number left : ℕ) → Error → Type 0
NoCutWithLayout choice features bytes number left TooLong = left ≡ 0
NoCutWithLayout choice features bytes number left (LargeGlyph glyph) =
    (old : Face) × IsFaceIn bytes number old × IsNamed choice old glyph × (65535 < glyph)
NoCutWithLayout choice features bytes number left (File e) = NoFaceIn e bytes number
    ⊎ ((old : Face) × IsFaceIn bytes number old × NoFileFrom choice features old e)

-- Why the glyphs are not found. Running out of memory may be the error at any time.
abbrev pub NoneAreMade : Choice → Face → (left : ℕ) → Error → Type 0
NoneAreMade choice old left TooLong = left ≡ 0
NoneAreMade choice old left (LargeGlyph glyph) = IsNamed choice old glyph × (65535 < glyph)
NoneAreMade choice old left (File e) = IsUnopened old.cff.now e
