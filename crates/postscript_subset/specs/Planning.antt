-- The steps to a file with layout tables. Only private contracts and proofs use these definitions.
use Rattle.std.specs.Prelude.{◌≡◌, ◌⊎◌, ℕ, ◌<◌, ◌++◌, List, [], map}
use Rattle.postscript_files.specs.Origins.{AreOriginsOf, IsNamed, NoOriginsOf}
use Rattle.postscript_files.specs.Subsets.{IsSubsetFile, NoSubsetBy}
use Rattle.postscript_files.specs.declared.choice.Choice.{Choice}
use Rattle.postscript_files.specs.declared.error.Error.{Error as Cause}
use Rattle.postscript_files.specs.declared.error.Error.TheVariants as causes
use Rattle.postscript_files.specs.declared.face.Face.{Face}
use Rattle.postscript_subset.specs.Layering.{tables_of}
use Rattle.postscript_subset.specs.Layers.{IsCopiedAs, IsGdef, IsGpos, IsGsub, IsKern, all_tables, gdef_tag, gpos_tag, gsub_tag, have_marks}
use Rattle.postscript_subset.specs.Subsets.{IsBy, NoFileFrom, TextStaysIn, TextStaysSame, left_in, shown}
use Rattle.postscript_subset.specs.Vertical.{AreVertical}
use Rattle.postscript_subset.specs.declared.error.Error.{Error}
use Rattle.postscript_subset.specs.declared.error.Error.TheVariants as errors
use Rattle.postscript_subset.specs.declared.features.Features.{Features}
use Rattle.postscript_subset.specs.declared.layers.Layers.{Layers}
use Rattle.postscript_subset.specs.declared.layers.Outcome.{Outcome}
use Rattle.postscript_subset.specs.declared.layers.Outcome.TheVariants.{NotChosen}
use Rattle.postscript_subset.specs.declared.subset.Subset.{Subset}

-- there are no origins, or memory runs out
abbrev pub NoOriginsBy : Choice → Face → Error → Type 0
NoOriginsBy by face e = (cause : Cause) × (e ≡ errors.File cause) × NoOriginsOf by face cause

-- a choice with further tables
pub record HasTables (by : Choice) (tables : List (ℕ × List ℕ)) (with : Choice) : Type 0 where
  pub chars : with.chars.now ≡ by.chars.now
  pub glyphs : with.glyphs.now ≡ by.glyphs.now
  pub unmapped : with.unmapped.now ≡ by.unmapped.now
  pub lenient : with.lenient ≡ by.lenient
  pub retain_gids : with.retain_gids ≡ by.retain_gids
  pub limit : with.limit ≡ by.limit
  pub copied : with.copied.now ≡ by.copied.now
  pub given : map shown with.given.now ≡ map shown by.given.now ++ tables

-- the file of a choice with these layout tables
abbrev pub IsFinished : Choice → Face → Layers → (file : List ℕ) → Type 0
IsFinished by face layers file = (with : Choice) × HasTables by (tables_of layers) with × IsSubsetFile with face file

-- memory runs out, or there is no such file
abbrev pub IsUnfinished : Choice → Face → Layers → Error → Type 0
IsUnfinished by face layers e = (cause : Cause) × (e ≡ errors.File cause)
    × ((cause ≡ causes.Memory) ⊎ ((with : Choice) × HasTables by (tables_of layers) with × NoSubsetBy with face cause))

-- the file of a choice, with layout tables for its glyphs
pub record IsCutBy (by : Choice) (features : Features) (face : Face) (was lookups : List ℕ) (left : ℕ) (subset : Subset) : Type 0 where
  pub with : Choice
  pub gdef : List ℕ
  pub gsub : List ℕ
  pub gpos : List ℕ
  pub kern : List ℕ
  pub vertical : List (ℕ × List ℕ)
  pub has : HasTables by (all_tables subset.gdef subset.gsub subset.gpos subset.kern gdef gsub gpos kern vertical) with
  pub file : IsSubsetFile with face subset.file.items
  pub origins : List ℕ
  pub are : AreOriginsOf by face origins
  pub classes : IsGdef subset.gdef face.file origins left gdef
  pub substitutions : IsGsub subset.gsub face.file features lookups origins subset.gdef left gsub
  pub positions : IsGpos subset.gpos face.file features origins subset.gdef left gpos
  pub pairs : IsKern subset.kern face.file features origins subset.gpos gpos left kern
  pub upright : AreVertical face.file origins vertical
  pub left_out : subset.left_out.items ≡ left_in subset.gsub (have_marks origins subset.gdef) was lookups

abbrev pub NoCutBy : Choice → Face → Error → Type 0
NoCutBy by face e = (cause : Cause) × (e ≡ errors.File cause) × (NoOriginsOf by face cause ⊎ ((cause ≡ causes.Memory)
    ⊎ ((with : Choice) × (gdef : Outcome) × (gsub : Outcome) × (gpos : Outcome) × (kern : Outcome)
    × (a : List ℕ) × (b : List ℕ) × (c : List ℕ) × (d : List ℕ) × (vertical : List (ℕ × List ℕ))
    × HasTables by (all_tables gdef gsub gpos kern a b c d vertical) with × NoSubsetBy with face cause)))

-- the file of a face
pub record IsCutFace (choice : Choice) (features : Features) (face : Face) (left : ℕ) (subset : Subset) : Type 0 where
  pub by : Choice
  pub gdef : List ℕ
  pub gsub : List ℕ
  pub gpos : List ℕ
  pub kern : List ℕ
  pub vertical : List (ℕ × List ℕ)
  pub file : IsSubsetFile by face subset.file.items
  pub is : IsBy choice features face (all_tables subset.gdef subset.gsub subset.gpos subset.kern gdef gsub gpos kern vertical) by
  pub origins : List ℕ
  pub are : AreOriginsOf by face origins
  pub classes : IsGdef subset.gdef face.file origins left gdef
  pub substitutions : IsGsub subset.gsub face.file features is.made.lookups origins subset.gdef left gsub
  pub positions : IsGpos subset.gpos face.file features origins subset.gdef left gpos
  pub pairs : IsKern subset.kern face.file features origins subset.gpos gpos left kern
  pub upright : AreVertical face.file origins vertical
  pub stays : TextStaysIn choice face is.made.count is.made.are.varied is.made.gsub is.made.are.chosen origins
  pub left_out : subset.left_out.items ≡ left_in subset.gsub (have_marks origins subset.gdef) is.made.gsub is.made.lookups

-- the file of a face whose glyphs keep their numbers
pub record IsPlaced (choice : Choice) (features : Features) (face : Face) (subset : Subset) : Type 0 where
  pub by : Choice
  pub file : IsSubsetFile by face subset.file.items
  pub is : IsBy choice features face [] by
  pub gdef : IsCopiedAs subset.gdef face.file gdef_tag
  pub gsub : IsCopiedAs subset.gsub face.file gsub_tag
  pub gpos : IsCopiedAs subset.gpos face.file gpos_tag
  pub kern : subset.kern ≡ NotChosen
  pub stays : TextStaysSame choice face is.made.count is.made.are.varied is.made.gsub is.made.are.chosen subset.file.items
  pub left_out : subset.left_out.items ≡ []

-- why there is no such file
abbrev pub NoCutFace : Choice → Features → Face → (left : ℕ) → Error → Type 0
NoCutFace choice features face left errors.TooLong = left ≡ 0
NoCutFace choice features face left (errors.LargeGlyph glyph) = IsNamed choice face glyph × (65535 < glyph)
NoCutFace choice features face left (errors.File e) = NoFileFrom choice features face e
