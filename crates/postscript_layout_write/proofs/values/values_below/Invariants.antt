use Rattle.std.proofs.Common.{◌≡◌, ◌/◌, ◌^◌, ◌≤◌}
use Rattle.postscript_layout_write.specs.Values.{values_below}
use Rattle.postscript_layout_write.proofs.values.values_below.Given as goal

abbrev pub invariant-loop-i : goal.invariant-loop-i
invariant-loop-i l = record {
  count : l.count ≡ values_below l.format l._i;
  rest : l.rest ≡ l.format / 2 ^ l._i;
  few : l.count ≤ l._i;
}
