-- Reading from a slice at an offset.
use Rattle.std.specs.Prelude.{◌≡◌, ℕ, Result, Ok, Err}
use Rattle.postscript_type2.specs.declared.refused.Refused.{Refused}
use Rattle.postscript_type2.specs.Refused.{reason}
use Rattle.postscript_base.specs.Tape.Outcome.{Outcome, Got, Fault}

-- the value and the next offset are those in the outcome, or the error is
abbrev pub ReadsAt : {A : Type 0} → Outcome A → Result (A × ℕ) Refused → Type 0
ReadsAt outcome (Ok read) = outcome ≡ Got read.0 read.1
ReadsAt outcome (Err e) = outcome ≡ Fault (reason e)
