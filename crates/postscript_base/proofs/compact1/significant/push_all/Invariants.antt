use Rattle.std.proofs.Common.{ℕ, ◌+◌, ◌≤◌, List, ◌++◌, take}
use Rattle.postscript_base.specs.Compact1.Decimal.{digits_number}
use Rattle.postscript_base.specs.Private.Significant.{Keeps}
use Rattle.postscript_base.proofs.compact1.significant.push_all.Given as goal

abbrev pub invariant-loop-digit : goal.invariant-loop-digit
invariant-loop-digit l = record {
  keeps : (front : List ℕ) → Keeps l.initial.kept.is_long l.initial.kept.mantissa l.initial.kept.zeros (digits_number front) →
      Keeps l.kept.is_long l.kept.mantissa l.kept.zeros (digits_number (front ++ take l.digit-index l.digits));
  zeros : l.kept.zeros ≤ l.initial.kept.zeros + l.digit-index;
}
