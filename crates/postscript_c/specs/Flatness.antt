-- Flat (desubroutinized) code, for C.
use Rattle.std.specs.Prelude.{◌≡◌, ◌⊎◌, ℕ, ℤ, pos, List, Option, Some, None, option_map, Result, Ok, Err}
use Rattle.postscript_base.specs.Error.{code}
use Rattle.postscript_base.specs.declared.error.Error.{Error}
use Rattle.postscript_base.specs.Tape.Outcome.{Answers}
use Rattle.postscript_c.specs.Flats.{flat_at}
use Rattle.postscript_c.specs.Fitting.{KeepsToLimit, TellsTooLong}
use Rattle.postscript_c.specs.Parts.{TellsByPart}
use Rattle.postscript_c.specs.Texts.{HandsOver, Lent}
use Rattle.postscript_c.specs.declared.flat.Flat.{Flat}
use Rattle.postscript_c.specs.declared.font.PsfFont.{PsfFont}
use Rattle.postscript_c.specs.declared.part.PsfPart.{PsfPart}

abbrev pub flat_shown : Flat → List ℕ
flat_shown flat = flat.code.items

-- On 0 the flat code is stored, and on 32 only its length. Otherwise there is no such glyph (31), or the status is an error's, and all
-- outputs are unchanged.
abbrev pub TellsFlat : Result (Option Flat) Error → (status : ℤ) → (old new : Lent ℕ) → Type 0
TellsFlat (Ok (Some flat)) status old new = HandsOver (flat_shown flat) status old new
TellsFlat (Ok None) status old new = (status ≡ pos 31) × (new ≡ old)
TellsFlat (Err e) status old new = (status ≡ pos (code e)) × (new ≡ old)

-- The status and the outputs for the flat code of a glyph with a part. Its run is too long, or this is the code of a run within the limit.
abbrev pub TellsFlatBy : (bytes : List ℕ) (font : PsfFont) (part : PsfPart) (glyph : ℕ) (status : ℤ) (old new : Lent ℕ) → Type 0
TellsFlatBy bytes font part glyph status old new =
    TellsTooLong bytes font part glyph status (new ≡ old)
    ⊎ ((answer : Result (Option Flat) Error) × KeepsToLimit bytes font part glyph answer
    × Answers (option_map flat_shown) answer 0 (flat_at font part glyph bytes 0) × TellsFlat answer status old new)

abbrev pub TellsFlatOf : (bytes : List ℕ) (font : PsfFont) (glyph : ℕ) (status : ℤ) (old new : Lent ℕ) → Type 0
TellsFlatOf bytes font glyph status old new =
    TellsByPart bytes font glyph status (λ part. TellsFlatBy bytes font part glyph status old new) (new ≡ old)
