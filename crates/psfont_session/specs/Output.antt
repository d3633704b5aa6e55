-- The results of a run, of flattened code, and of reading a font.
use Rattle.std.specs.Prelude.{◌≡◌, ◌⊎◌, ℕ, List, Option, Some, None, Result, MatchResult, codes}
use Rattle.std.specs.Io.KnownBytes.{Appends}
use Rattle.hex.specs.Hex.{decode_of}
use Rattle.postscript.specs.FontSet.Value.{font_shown}
use Rattle.postscript.specs.RefusalOf.{refusal_of}
use Rattle.postscript.specs.Tape.Outcome.{Answers as Answered}
use Rattle.postscript.specs.Program.Evaluation.{run_of}
use Rattle.postscript.specs.Program.Flat.{flat_text}
use Rattle.postscript.specs.Program.Runs.{Run, fault_of}
use Rattle.postscript.specs.Program.RunAnswers.{Tells}
use Rattle.postscript_base.specs.declared.error.Error.{Error}
use Rattle.postscript_base.specs.declared.error.Error.TheVariants as errors
use Rattle.postscript_type2.specs.declared.program.Answers.{Answers}
use Rattle.postscript_compact1.specs.declared.font_set.FontSet.{FontSet}
use Rattle.psfont_session.specs.declared.command.Manner.{Manner}
use Rattle.psfont_session.specs.Loaded.{Loaded, lists_of}
use Rattle.psfont_session.specs.Manner.{reading_of}
use Rattle.psfont_session.specs.Summary.{font_told}
use Rattle.psfont_session.specs.Texts.{answers_text, flat_line, fault_line}

-- the run of the loaded code
abbrev pub run_loaded : Loaded → Run
run_loaded loaded = run_of (lists_of loaded) loaded.code

-- all results of the run are written, or that memory runs out
abbrev pub RunTold : Loaded → Option (List ℕ) → Option (List ℕ) → Type 0
RunTold loaded old new = ((answers : Answers) × Tells answers (run_loaded loaded) × Appends old new (answers_text answers))
    ⊎ Appends old new (fault_line errors.Memory)

-- If the run has no fault, its code without calls is written. Otherwise the fault of the run is, or that memory runs out.
abbrev pub FlatTold : Loaded → Option (List ℕ) → Option (List ℕ) → Type 0
FlatTold loaded old new = ((fault_of (run_loaded loaded).end ≡ None) × Appends old new (flat_line (flat_text (run_loaded loaded).trace)))
    ⊎ ((e : Error) × ((e ≡ errors.Memory) ⊎ (fault_of (run_loaded loaded).end ≡ Some (refusal_of e))) × Appends old new (fault_line e))

-- the summary of the font in the bytes is written, or the error of reading it
abbrev pub ReadingTold : Manner → List ℕ → Option (List ℕ) → Option (List ℕ) → Type 0
ReadingTold manner bytes old new = (outcome : Result FontSet Error)
    × ((next : ℕ) × Answered font_shown outcome next (reading_of manner bytes 0))
    × Appends old new (font_told outcome)

-- the same for the font in hex digits, or the reply that the digits are malformed
abbrev pub FontTold : Manner → List ℕ → Option (List ℕ) → Option (List ℕ) → Type 0
FontTold manner digits old new = MatchResult (decode_of digits) (λ bytes. ReadingTold manner bytes old new)
    (λ _. Appends old new (codes "bad hex\n"))
