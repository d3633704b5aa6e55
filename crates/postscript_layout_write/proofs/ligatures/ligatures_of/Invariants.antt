use Rattle.std.proofs.Common.{◌≤◌}
use Rattle.postscript_layout_write.specs.Attaching.{AreLigatures}
use Rattle.postscript_layout_write.proofs.ligatures.ligatures_of.Given as goal

abbrev pub invariant-loop-k : goal.invariant-loop-k
invariant-loop-k l = record {
  are : AreLigatures l.gpos l.subtable l.kept l.k l.ligatures.firsts.items l.ligatures.offsets.items l.ligatures.bytes.items;
  spent : l.limit ≤ l.fn.limit;
}
