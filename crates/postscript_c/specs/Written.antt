-- Written fonts, for C.
use Rattle.std.specs.Prelude.{◌≡◌, ◌≢◌, ◌⊎◌, ℕ, ◌<◌, ℤ, pos, List, [], length, Bool, true, false, Some, Result, Ok, Err, IfOk, IfErr, OnOk, Vec}
use Rattle.std.specs.declared.alloc.Global.{Global}
use Rattle.postscript_base.specs.Error.{code}
use Rattle.postscript_c.specs.Fitting.{FirstFits, TellsFits}
use Rattle.postscript_c.specs.Texts.{HandsOver, Lent}
use Rattle.postscript_c.specs.declared.written.PsfRefusal.{PsfRefusal}
use Rattle.postscript_view.specs.Contents.{View}
use Rattle.postscript_base.specs.Tape.Outcome.{Got}
use Rattle.postscript_view.specs.Layout.{IsLaidOut}
use Rattle.postscript_view.specs.Order.{fonts}
use Rattle.postscript_write.specs.Components.{IsSubset as IsSubsetFont}
use Rattle.postscript_write.specs.Costs.{KeepsWithin, StopsIn}
use Rattle.postscript_write.specs.Drawings.{DrawsKept, KeepsDrawings}
use Rattle.postscript_write.specs.Kept.{HasAllBy}
use Rattle.postscript_write.specs.Making.{IsFontBy, IsKeptFont}
use Rattle.postscript_write.specs.Once.{BeginsWithRos, TellsOnce}
use Rattle.postscript_write.specs.Readings.{HasLenientFont}
use Rattle.postscript_write.specs.Refusals.{HasOtherFonts, IsRefusedBy, IsSubsetRefusedBy, NeedsNoName}
use Rattle.postscript_write.specs.SameGlyphs.{GlyphsKept, KeepsGlyphs}
use Rattle.postscript_write.specs.Selected.{SelectsParts}
use Rattle.postscript_write.specs.Sizes.{HasShortCodes, IsSmall}
use Rattle.postscript_write.specs.Sources.{AreThere, IsWritten, choice_by, every}
use Rattle.postscript_write.specs.Whole.{IsWholeFont}
use Rattle.postscript_write.specs.declared.error.Error.{Error}
use Rattle.postscript_write.specs.declared.error.Error.TheVariants.{Refused, Glyph, SeveralFonts, MissingGlyph, MissingPart, MissingName, LongGlyph, NoGlyphs, TooLarge, TooLong}

-- the status of an error; if the font is rejected, it is the status of the cause
abbrev pub written_code : Error → ℕ
written_code (Refused cause) = code cause
written_code (Glyph glyph cause) = 40
written_code SeveralFonts = 41
written_code (MissingGlyph glyph) = 31
written_code (MissingPart glyph) = 42
written_code (MissingName glyph) = 38
written_code (LongGlyph glyph) = 45
written_code NoGlyphs = 43
written_code TooLarge = 45
written_code TooLong = 46

abbrev pub refusal : (glyph : ℕ) → (cause : ℤ) → PsfRefusal
refusal glyph cause = record { glyph = glyph; cause = cause }

-- the glyph of an error, and the status of the error of its run
abbrev pub refusal_of : Error → PsfRefusal
refusal_of (Glyph glyph cause) = refusal glyph (pos (code cause))
refusal_of (MissingGlyph glyph) = refusal glyph (pos 0)
refusal_of (MissingPart glyph) = refusal glyph (pos 0)
refusal_of (MissingName glyph) = refusal glyph (pos 0)
refusal_of (LongGlyph glyph) = refusal glyph (pos 0)
refusal_of (Refused cause) = refusal 0 (pos 0)
refusal_of SeveralFonts = refusal 0 (pos 0)
refusal_of NoGlyphs = refusal 0 (pos 0)
refusal_of TooLarge = refusal 0 (pos 0)
refusal_of TooLong = refusal 0 (pos 0)

-- On 0 the font is stored, and on 32 only its size. Otherwise the status is an error's, and the glyph and the cause of the error are
-- stored. The other outputs are unchanged.
abbrev pub TellsWritten : Result (Vec ℕ Global) Error → (status : ℤ) → (old new : Lent ℕ) → (was told : PsfRefusal) → Type 0
TellsWritten (Ok flat) status old new was told = HandsOver flat.items status old new × (told ≡ was)
TellsWritten (Err e) status old new was told = (status ≡ pos (written_code e)) × (told ≡ refusal_of e) × (new ≡ old)

-- If the runs of all glyphs of the font end within the limit, the result satisfies `IsAnswer`. Otherwise the status says why there is none,
-- the glyph and the cause are 0, and the other outputs are unchanged.
abbrev pub TellsWithin : (bytes : List ℕ) (limit : ℕ) (status : ℤ) (IsAnswer : Result (Vec ℕ Global) Error →
    Type 0) (old new : Lent ℕ) (was told : PsfRefusal) → Type 0
TellsWithin bytes limit status IsAnswer old new was told =
    (FirstFits bytes limit × ((answer : Result (Vec ℕ Global) Error) × IsAnswer answer × TellsWritten answer status old new was told))
    ⊎ (((left : ℕ) × TellsFits bytes limit status left) × (status ≢ pos 0) × (told ≡ refusal 0 (pos 0)) × (new ≡ old))

-- A written font has no bytes outside its parts. No operator occurs twice in its Top DICT or in a Font DICT, and ROS is first. FDSelect
-- gives each glyph one of its Font DICTs, and no charstring has more than 65,535 bytes. The font is not too large, and is read leniently if
-- its source is. The source has exactly one font.
pub record IsSound (bytes flat : List ℕ) : Type 0 where
  pub whole : IsWholeFont flat
  pub once : TellsOnce flat
  pub ros : BeginsWithRos flat
  pub selects : SelectsParts flat
  pub short : HasShortCodes flat
  pub small : IsSmall bytes flat
  pub lenient : HasLenientFont bytes → HasLenientFont flat
  pub one : fonts bytes 0 ≡ Got 1 0

-- The font with all glyphs, or why there is none. The error is not that a glyph has no name. If the font set does not have exactly one font,
-- the error says so.
pub record IsFlat (bytes : List ℕ) (answer : Result (Vec ℕ Global) Error) : Type 0 where
  pub drawn : IfOk answer (λ flat. KeepsDrawings every bytes flat.items)
  pub same : IfOk answer (λ flat. KeepsGlyphs every bytes flat.items)
  pub written : IfOk answer (λ flat. IsWritten IsKeptFont every bytes flat.items)
  pub sound : IfOk answer (λ flat. IsSound bytes flat.items)
  pub refused : IfErr answer (λ e. IsRefusedBy every bytes e)
  pub names : IfErr answer NeedsNoName
  pub several : HasOtherFonts bytes → answer ≡ Err SeveralFonts

-- the number is not 0 exactly if the value is `true`
abbrev pub IsSet : (number : ℕ) → Bool → Type 0
IsSet number true = number ≢ 0
IsSet number false = number ≡ 0

-- The font with the named glyphs and their components, or why there is none. Glyphs keep their numbers if `keeps` is not 0. If it is written, the
-- old font has the named glyphs, each glyph in the list of `kept_glyphs` is in the new one, and the runs of these glyphs share the limit.
-- Naming no glyph is an error.
pub record IsSubset (keeps limit : ℕ) (bytes named : List ℕ) (answer : Result (Vec ℕ Global) Error) : Type 0 where
  pub retain : Bool
  pub retains : IsSet keeps retain
  pub written : IfOk answer (λ flat. IsSubsetFont (IsFontBy retain) (choice_by retain) named bytes flat.items)
  pub drawn : IfOk answer (λ flat. DrawsKept (choice_by retain) named bytes flat.items)
  pub same : IfOk answer (λ flat. GlyphsKept (choice_by retain) named bytes flat.items)
  pub kept : IfOk answer (λ flat. HasAllBy retain named bytes flat.items)
  pub sound : IfOk answer (λ flat. IsSound bytes flat.items)
  pub within : OnOk answer (KeepsWithin (Some limit) named bytes)
  pub refused : IfErr answer (λ e. IsSubsetRefusedBy named (choice_by retain) bytes e ⊎ StopsIn bytes named (Some limit) e)
  pub several : 0 < length named → HasOtherFonts bytes → answer ≡ Err SeveralFonts
  pub there : OnOk answer ((font : View) → IsLaidOut bytes 0 font → AreThere named (length font.char_strings))
  pub some : named ≡ [] → answer ≡ Err NoGlyphs

-- the result of a call that writes a subset
abbrev pub TellsSubset : (keeps limit : ℕ) (bytes named : List ℕ) (status : ℤ) (old new : Lent ℕ) (was told : PsfRefusal) → Type 0
TellsSubset keeps limit bytes named status old new was told =
    (answer : Result (Vec ℕ Global) Error) × IsSubset keeps limit bytes named answer × TellsWritten answer status old new was told
