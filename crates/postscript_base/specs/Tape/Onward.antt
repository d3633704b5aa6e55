-- Readings that advance.
use Rattle.std.specs.Prelude.{ℕ, ◌<◌, ◌≤◌, List, length}
use Rattle.postscript_base.specs.Tape.Outcome.{Outcome, Got, Fault, Past, Reading}

-- the next offset is greater than this one and within the bytes, and the reading does not seek past the end
abbrev pub MovesOn : {A : Type 0} → ℕ → ℕ → Outcome A → Type 0
MovesOn place size (Got value next) = (place < next) × (next ≤ size)
MovesOn place size (Fault refusal) = Unit {0}
MovesOn place size Past = ⊥

-- A reading that succeeds takes at least one byte, and only bytes that are there. It never seeks past the end.
abbrev pub TakesBytes : {A : Type 0} → Reading A → Type 0
TakesBytes reading = (bytes : List ℕ) (place : ℕ) → MovesOn place (length bytes) (reading bytes place)
