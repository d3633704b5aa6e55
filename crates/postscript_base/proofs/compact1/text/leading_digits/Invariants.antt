use Rattle.std.proofs.Common.{◌≡◌, ◌+◌, ◌-◌, ◌≤◌, length, drop}
use Rattle.std.specs.List.{prefix_len}
use Rattle.postscript_base.specs.Compact1.Reals.{is_digit}
use Rattle.postscript_base.proofs.compact1.text.leading_digits.Given as goal

abbrev pub invariant-loop-count : goal.invariant-loop-count
invariant-loop-count l =
    record { inside : l.count ≤ length l.text; front : prefix_len is_digit l.text ≡ l.count + prefix_len is_digit (drop l.count l.text) }

abbrev pub decreases-loop-count : goal.decreases-loop-count
decreases-loop-count l = length l.text - l.count
