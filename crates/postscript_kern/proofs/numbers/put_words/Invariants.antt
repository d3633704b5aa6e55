use Rattle.std.proofs.Common.{◌≡◌, ◌++◌, drop, flat_map}
use Rattle.postscript_kern.specs.Numbers.{uint16}
use Rattle.postscript_kern.proofs.numbers.put_words.Given as goal

-- what is still to be written completes the numbers
abbrev pub invariant-loop-number : goal.invariant-loop-number
invariant-loop-number l = l.out.items ++ flat_map uint16 (drop l.number-index l.numbers) ≡ l.fn.out.items ++ flat_map uint16 l.numbers
