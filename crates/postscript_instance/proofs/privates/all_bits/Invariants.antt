use Rattle.std.proofs.Common.{◌≡◌, ◌++◌, drop, length}
use Rattle.std.specs.Prelude.{option_map}
use Rattle.postscript_instance.specs.Hints.{all_bits}
use Rattle.postscript_instance.proofs.privates.all_bits.Given as goal

-- the numbers so far, and those of the rest, are all
abbrev pub invariant-loop-number : goal.invariant-loop-number
invariant-loop-number l = record {
  bits : option_map (λ more. l.all.items ++ more) (all_bits (drop l.number-index l.numbers)) ≡ all_bits l.numbers;
  counted : length l.all.items ≡ l.number-index;
}
