-- The result of a call that writes a font file.
use Rattle.std.specs.Prelude.{◌≡◌, ◌≢◌, ◌⊎◌, ℕ, ℤ, pos, List, [], Result, Ok, Err, Some, IfOk, IfErr, Vec}
use Rattle.std.specs.declared.alloc.Global.{Global}
use Rattle.postscript_c.specs.Files.{file_code}
use Rattle.postscript_c.specs.Fitting.{FirstFits, TellsFits}
use Rattle.postscript_c.specs.ShortNames.{AreNames, NeedsNames}
use Rattle.postscript_c.specs.Texts.{HandsOver, Lent}
use Rattle.postscript_c.specs.Written.{IsSet, refusal, refusal_of, written_code}
use Rattle.postscript_c.specs.declared.written.PsfRefusal.{PsfRefusal}
use Rattle.postscript_files.specs.Faces.{cff_tag}
use Rattle.postscript_files.specs.Flats.{IsFlatOf, NoFlatOf}
use Rattle.postscript_files.specs.Subsets.{IsSubsetOf, NoSubsetOf}
use Rattle.postscript_files.specs.declared.choice.Choice.{Choice}
use Rattle.postscript_files.specs.declared.choice.Given.{Given}
use Rattle.postscript_files.specs.declared.error.Error.{Error}
use Rattle.postscript_files.specs.declared.error.Error.TheVariants.{Cut, File, Font, Memory, MissingCharacter, MissingTable, NoAdvances, NoMap, Overlap, SameTag, TooLarge}
use Rattle.postscript_sfnt.specs.Lent.{HasNoTable, IsFaceOf, IsTableOf}
use Rattle.postscript_sfnt.specs.Refusals.{NoFace}
use Rattle.postscript_sfnt.specs.declared.error.Error.{Error as FileError}
use Rattle.postscript_sfnt.specs.declared.file.FontFile.{FontFile}

-- the status of an error
abbrev pub whole_code : Error → ℕ
whole_code Memory = 3
whole_code (File e) = file_code e
whole_code (MissingTable tag) = 36
whole_code NoMap = 37
whole_code NoAdvances = 60
whole_code (MissingCharacter char) = 70
whole_code (Font e) = written_code e
whole_code Overlap = 71
whole_code (SameTag tag) = 72
whole_code Cut = 73
whole_code TooLarge = 45

-- the glyph, the character or the tag of an error, and the error of a glyph
abbrev pub whole_refusal : Error → PsfRefusal
whole_refusal (Font e) = refusal_of e
whole_refusal (MissingCharacter char) = refusal char (pos 0)
whole_refusal (MissingTable tag) = refusal tag (pos 0)
whole_refusal (SameTag tag) = refusal tag (pos 0)
whole_refusal Memory = refusal 0 (pos 0)
whole_refusal (File e) = refusal 0 (pos 0)
whole_refusal NoMap = refusal 0 (pos 0)
whole_refusal NoAdvances = refusal 0 (pos 0)
whole_refusal Overlap = refusal 0 (pos 0)
whole_refusal Cut = refusal 0 (pos 0)
whole_refusal TooLarge = refusal 0 (pos 0)

-- On 0 the file is stored, and on 32 only its size. An error sets the details. The other outputs are unchanged.
abbrev pub TellsFile : Result (Vec ℕ Global) Error → (status : ℤ) → (old new : Lent ℕ) → (was told : PsfRefusal) → Type 0
TellsFile (Ok file) status old new was told = HandsOver file.items status old new × (told ≡ was)
TellsFile (Err e) status old new was told = (status ≡ pos (whole_code e)) × (told ≡ whole_refusal e) × (new ≡ old)

-- The runs of all glyphs of a face share a limit and end within it. A file without the face, and a face without a `CFF ` table, have none.
pub data RunsEnd (bytes : List ℕ) (face limit : ℕ) : Type 0 where
  fit : (file : FontFile) (cff : List ℕ) → IsFaceOf bytes face file → IsTableOf file cff_tag cff → FirstFits cff limit →
      RunsEnd bytes face limit
  no_table : (file : FontFile) → IsFaceOf bytes face file → HasNoTable file cff_tag → RunsEnd bytes face limit
  no_face : (e : FileError) → NoFace e bytes face → RunsEnd bytes face limit

-- why the runs do not end within the limit: it is too small, memory runs out, or the font is malformed
pub record IsBeyond (bytes : List ℕ) (face limit : ℕ) (status : ℤ) : Type 0 where
  pub file : FontFile
  pub cff : List ℕ
  pub is : IsFaceOf bytes face file
  pub has : IsTableOf file cff_tag cff
  pub left : ℕ
  pub told : TellsFits cff limit status left
  pub failed : status ≢ pos 0

-- the result satisfies `IsAnswer`
abbrev pub TellsFileOf : (status : ℤ) (IsAnswer : Result (Vec ℕ Global) Error → Type 0) (old new : Lent ℕ) (was told : PsfRefusal) → Type 0
TellsFileOf status IsAnswer old new was told =
    (answer : Result (Vec ℕ Global) Error) × IsAnswer answer × TellsFile answer status old new was told

-- If the runs end within the limit, the result satisfies `IsAnswer`. Otherwise nothing is written, and the details are 0.
abbrev pub TellsFileWithin : (bytes : List ℕ) (face limit : ℕ) (status : ℤ) (IsAnswer : Result (Vec ℕ Global) Error → Type 0)
    (old new : Lent ℕ) (was told : PsfRefusal) → Type 0
TellsFileWithin bytes face limit status IsAnswer old new was told =
    (RunsEnd bytes face limit × TellsFileOf status IsAnswer old new was told)
    ⊎ (IsBeyond bytes face limit status × (told ≡ refusal 0 (pos 0)) × (new ≡ old))

-- the file without subroutines, or why there is none
pub record IsFlatFile (bytes : List ℕ) (face : ℕ) (answer : Result (Vec ℕ Global) Error) : Type 0 where
  pub flat : IfOk answer (λ file. IsFlatOf bytes face file.items)
  pub refused : IfErr answer (λ e. NoFlatOf bytes face e)

-- the choice of characters and glyphs that a caller makes, with the tables that are given
pub record IsChoice (chars glyphs copied : List ℕ) (given : List Given) (lenient keeps limit : ℕ) (choice : Choice) : Type 0 where
  pub chars_are : choice.chars.now ≡ chars
  pub glyphs_are : choice.glyphs.now ≡ glyphs
  pub none_unmapped : choice.unmapped.now ≡ []
  pub copied_are : choice.copied.now ≡ copied
  pub leaves_out : IsSet lenient choice.lenient
  pub retains : IsSet keeps choice.retain_gids
  pub given_are : choice.given.now ≡ given
  pub within : choice.limit ≡ Some limit

-- the file with a choice of characters and glyphs, or why there is none
pub record IsSubsetBy (choice : Choice) (bytes : List ℕ) (face : ℕ) (answer : Result (Vec ℕ Global) Error) : Type 0 where
  pub subset : IfOk answer (λ file. IsSubsetOf choice bytes face file.items)
  pub refused : IfErr answer (λ e. NoSubsetOf choice bytes face e)

-- The file with these characters and glyphs, and with the `name` table that is asked for, or why there is none. Memory may run out for that
-- table.
pub data IsSubsetFile (chars glyphs copied : List ℕ) (lenient keeps names limit : ℕ) (bytes : List ℕ) (face : ℕ)
    (answer : Result (Vec ℕ Global) Error) : Type 0 where
  chosen : (given : List Given) → AreNames names bytes face given → (choice : Choice) →
      IsChoice chars glyphs copied given lenient keeps limit choice → IsSubsetBy choice bytes face answer →
      IsSubsetFile chars glyphs copied lenient keeps names limit bytes face answer
  no_memory : NeedsNames names bytes face → answer ≡ Err Memory →
      IsSubsetFile chars glyphs copied lenient keeps names limit bytes face answer
