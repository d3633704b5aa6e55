-- A cursor as a tape: its bytes and its position. It is honest if the bytes are known.
use Rattle.std.specs.Prelude.{ℕ, List, Option, Some, None, true}
use Rattle.std.specs.declared.io.impls.Cursor.{Cursor}
use Rattle.std.specs.Io.Cursor.{cursor_position, cursor_inner}
use Rattle.postscript_base.specs.Tape.{TapeState, untold}

abbrev pub tape_at : Option (List ℕ) → ℕ → TapeState
tape_at (Some bytes) place = record { bytes = bytes; place = place; honest = true }
tape_at None place = untold

abbrev pub cursor_state : {T : Type 0} → (T → Option (List ℕ)) → Cursor T → TapeState
cursor_state bytes cursor = tape_at (bytes (cursor_inner cursor)) (cursor_position cursor)
