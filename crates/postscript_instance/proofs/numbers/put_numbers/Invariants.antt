use Rattle.std.proofs.Common.{◌≡◌, ◌++◌, drop}
use Rattle.postscript_variable.specs.Defaults.{AreHeld}
use Rattle.postscript_instance.specs.Numbers.{numbers_text}
use Rattle.postscript_instance.proofs.numbers.put_numbers.Given as goal

-- what was written, and what is written of the rest, is all that is to be written
abbrev pub invariant-loop-number : goal.invariant-loop-number
invariant-loop-number l = record {
  text : l.out.items ++ numbers_text (drop l.number-index l.numbers) ≡ l.fn.out.items ++ numbers_text l.fn.numbers;
  held : AreHeld (drop l.number-index l.numbers) → AreHeld l.fn.numbers;
}
