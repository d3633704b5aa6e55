-- The widths of the dictionary that is read are those that C is told.
use Rattle.std.proofs.Common.{◌≡◌, ℕ, List}
use Rattle.std.specs.Prelude.{IfOk, Result, Ok, Err}
use Rattle.postscript_base.specs.Compact1.Dictionary.{Dictionary}
use Rattle.postscript_base.specs.Tape.Outcome.{Got}
use Rattle.postscript_base.specs.declared.error.Error.{Error}
use Rattle.postscript_c.specs.FontWidths.{HaveWidths, TellsWidths}
use Rattle.postscript_c.specs.Keyed.{IsKeyedBy}
use Rattle.postscript_c.specs.Places.{tables}
use Rattle.postscript_c.specs.declared.font.PsfFont.{PsfFont}
use Rattle.postscript_view.specs.Order.{aside, header_size}

pub told : (bytes : List ℕ) (answer : Result PsfFont Error) (size : ℕ) (map : Dictionary) (global : ℕ) →
    header_size bytes 0 ≡ Got size 0 → aside size tables bytes 0 ≡ Got (map, global) 0
    → IfOk answer (λ font. HaveWidths bytes map font.part) → IfOk answer (λ font. IsKeyedBy map font) → IfOk answer
    (λ font. TellsWidths bytes font)
told bytes (Ok font) size map global header stands have keyed =
    record { size = size; map = map; global = global; header = header; stands = stands; have = have; keyed = keyed }
told bytes (Err refusal) size map global header stands have keyed = tt
