use Rattle.std.proofs.Common.{◌≡◌, ◌+◌, ◌*◌, ◌^◌, ◌≤◌, ◌+ℤ◌, unsigned_abs, drop}
use Rattle.postscript_variable.specs.Blending.{sum_of}
use Rattle.postscript_instance.proofs.blending.total.Given as goal

-- what is added so far, and what is left
abbrev pub invariant-loop-i : goal.invariant-loop-i
invariant-loop-i l = record {
  sum : l.sum +ℤ sum_of (drop l.i l.deltas) (drop l.i l.scalars) ≡ l.fn.default +ℤ sum_of l.deltas l.scalars;
  room : unsigned_abs l.sum ≤ 2 ^ 31 + l.i * 2 ^ 48;
}
