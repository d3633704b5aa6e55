use Rattle.std.proofs.Common.{◌≤◌}
use Rattle.postscript_layout_write.specs.CaretLists.{AreCarets, kept_carets}
use Rattle.postscript_layout_write.proofs.carets.tables_of.Given as goal

abbrev pub invariant-loop-k : goal.invariant-loop-k
invariant-loop-k l = record {
  are : AreCarets (kept_carets l.gdef l.kept) l.k l.carets.firsts.items l.carets.offsets.items l.carets.bytes.items;
  spent : l.limit ≤ l.fn.limit;
}
