use Rattle.std.proofs.Common.{◌≡◌, ℕ, ◌<◌, Some}
use Rattle.postscript_compact1.specs.StandardStrings.{standard_string}
use Rattle.postscript_instance.proofs.naming.standard.Given as goal

abbrev pub invariant-loop-number : goal.invariant-loop-number
invariant-loop-number l = (number : ℕ) → number < l.number → standard_string number ≡ Some l.name → ⊥
