use Rattle.std.proofs.Common.{◌≡◌, ◌+◌, ◌*◌, ◌≤◌}
use Rattle.postscript_kern.specs.Pairs.{subtable_at}
use Rattle.postscript_kern.specs.Units.{subtable_units, total}
use Rattle.postscript_kern.proofs.Listing.{AreSoFar}
use Rattle.postscript_kern.proofs.kerning.put_subtables.Given as goal

-- the subtables so far
abbrev pub invariant-loop-i : goal.invariant-loop-i
invariant-loop-i l = record {
  here : l.at ≡ subtable_at l.table l._i;
  near : l.at ≤ 4 + l._i * 65535;
  so_far : AreSoFar l.table l.kept l._i l.count l.out.items;
  few : l.count ≤ l._i;
  spends : l.limit ≤ l.fn.limit;
  paid : l.fn.limit ≡ l.limit + total (subtable_units l.table) l._i;
}
