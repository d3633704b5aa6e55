-- The result of a call that writes a font file with layout tables.
use Rattle.std.specs.Prelude.{◌≡◌, ◌≢◌, ◌⊎◌, ◌≤◌, ℕ, ℤ, pos, List, length, true, false, Result, Ok, Err, IfOk, IfErr}
use Rattle.postscript_c.specs.ShortNames.{AreNames, NeedsNames}
use Rattle.postscript_c.specs.Texts.{HandsOver, Lent}
use Rattle.postscript_c.specs.WholeFiles.{IsChoice, whole_code, whole_refusal}
use Rattle.postscript_c.specs.Written.{refusal}
use Rattle.postscript_c.specs.declared.layouts.PsfLayout.{PsfLayout}
use Rattle.postscript_c.specs.declared.written.PsfRefusal.{PsfRefusal}
use Rattle.postscript_files.specs.declared.choice.Choice.{Choice}
use Rattle.postscript_files.specs.declared.choice.Given.{Given}
use Rattle.postscript_files.specs.declared.error.Error.TheVariants.{Memory}
use Rattle.postscript_layout_write.specs.declared.error.Error.TheVariants as faults
use Rattle.postscript_subset.specs.Subsets.{IsCutInPlace, IsCutWithLayout, NoCutWithLayout}
use Rattle.postscript_subset.specs.TextChars.{AreTextChars, NoTextChars}
use Rattle.postscript_subset.specs.declared.error.Error.{Error}
use Rattle.postscript_subset.specs.declared.error.Error.TheVariants.{File, LargeGlyph, TooLong}
use Rattle.postscript_subset.specs.declared.features.Features.{Features}
use Rattle.postscript_subset.specs.declared.features.Features.TheVariants.{All, These}
use Rattle.postscript_subset.specs.declared.layers.Outcome.{Outcome}
use Rattle.postscript_subset.specs.declared.layers.Outcome.TheVariants.{Absent, Kept, Lost, NotChosen}
use Rattle.postscript_subset.specs.declared.subset.Subset.{Subset}

-- the number of an outcome for a table: 0 to 2, or the status of the reason why it is lost
abbrev pub outcome_code : Outcome → ℕ
outcome_code Absent = 0
outcome_code Kept = 1
outcome_code NotChosen = 2
outcome_code (Lost faults.Memory) = 3
outcome_code (Lost faults.TooLong) = 46
outcome_code (Lost faults.TooLarge) = 45
outcome_code (Lost faults.ListsTooLong) = 73

-- the outcomes, and how many chosen lookups of `GSUB` are not kept
abbrev pub outcomes_of : Subset → PsfLayout
outcomes_of subset = record {
  gsub = pos (outcome_code subset.gsub);
  gpos = pos (outcome_code subset.gpos);
  gdef = pos (outcome_code subset.gdef);
  kern = pos (outcome_code subset.kern);
  left_out = length subset.left_out.items;
}

-- the status of an error
abbrev pub laid_code : Error → ℕ
laid_code TooLong = 46
laid_code (LargeGlyph glyph) = 31
laid_code (File e) = whole_code e

-- the details of an error
abbrev pub laid_refusal : Error → PsfRefusal
laid_refusal TooLong = refusal 0 (pos 0)
laid_refusal (LargeGlyph glyph) = refusal glyph (pos 0)
laid_refusal (File e) = whole_refusal e

-- On 0 the file is stored, and on 32 only its size. In both cases the outcomes are set. An error sets the details. The other outputs are unchanged.
abbrev pub TellsLaidOut : Result Subset Error → (status : ℤ) → (old new : Lent ℕ) → (before layout : PsfLayout) → (was told : PsfRefusal) → Type 0
TellsLaidOut (Ok subset) status old new before layout was told =
    HandsOver subset.file.items status old new × (layout ≡ outcomes_of subset) × (told ≡ was)
TellsLaidOut (Err e) status old new before layout was told =
    (status ≡ pos (laid_code e)) × (told ≡ laid_refusal e) × (new ≡ old) × (layout ≡ before)

-- all features, or those with these tags
abbrev pub IsFeatures : (tags : List ℕ) → (all : ℕ) → Features → Type 0
IsFeatures tags all All = all ≢ 0
IsFeatures tags all (These those) = (all ≡ 0) × (those.now ≡ tags)

-- the file of a choice with layout tables, within a limit, or why there is none
pub record IsLaidOutBy (choice : Choice) (tags : List ℕ) (all limit : ℕ) (bytes : List ℕ) (face : ℕ) (answer : Result Subset Error) : Type 0 where
  pub features : Features
  pub are : IsFeatures tags all features
  pub left : ℕ
  pub spends : left ≤ limit
  pub subset : choice.retain_gids ≡ false → IfOk answer (λ subset. IsCutWithLayout choice features bytes face left subset)
  pub in_place : choice.retain_gids ≡ true → IfOk answer (λ subset. IsCutInPlace choice features bytes face subset)
  pub refused : IfErr answer (λ e. NoCutWithLayout choice features bytes face left e)

-- the given characters, and unless `exact` is set those that a shaper may use for them
abbrev pub AreCharsOf : (exact : ℕ) (bytes : List ℕ) (face : ℕ) (chars used : List ℕ) → Type 0
AreCharsOf exact bytes face chars used = ((exact ≢ 0) × (used ≡ chars)) ⊎ ((exact ≡ 0) × AreTextChars bytes face chars used)

-- The file with these characters and glyphs, and with the `name` table that is asked for. There is none if the face is not opened, or if
-- memory runs out for that table.
pub data IsLaidOutFile (chars glyphs copied : List ℕ) (lenient keeps names exact : ℕ) (tags : List ℕ) (all limit : ℕ) (bytes : List ℕ)
    (face : ℕ) (answer : Result Subset Error) : Type 0 where
  chosen : (used : List ℕ) → AreCharsOf exact bytes face chars used → (given : List Given) → AreNames names bytes face given →
      (choice : Choice) → IsChoice used glyphs copied given lenient keeps limit choice →
      IsLaidOutBy choice tags all limit bytes face answer →
      IsLaidOutFile chars glyphs copied lenient keeps names exact tags all limit bytes face answer
  no_chars : (e : Error) → answer ≡ Err e → NoTextChars bytes face e →
      IsLaidOutFile chars glyphs copied lenient keeps names exact tags all limit bytes face answer
  no_memory : NeedsNames names bytes face → answer ≡ Err (File Memory) →
      IsLaidOutFile chars glyphs copied lenient keeps names exact tags all limit bytes face answer

-- the result satisfies `IsAnswer`
abbrev pub TellsLaidOutOf : (status : ℤ) (IsAnswer : Result Subset Error → Type 0) (old new : Lent ℕ) (before layout : PsfLayout)
    (was told : PsfRefusal) → Type 0
TellsLaidOutOf status IsAnswer old new before layout was told =
    (answer : Result Subset Error) × IsAnswer answer × TellsLaidOut answer status old new before layout was told
