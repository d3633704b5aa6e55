use Rattle.std.proofs.Common.{◌≤◌}
use Rattle.postscript_layout_write.specs.Contexts.{sets_at}
use Rattle.postscript_layout_write.specs.Coverages.{IsPart}
use Rattle.postscript_layout_write.specs.RuleSets.{Begins}
use Rattle.postscript_layout_write.proofs.contexts.part_of.Given as goal

abbrev pub invariant-loop-p : goal.invariant-loop-p
invariant-loop-p l = record {
  part : IsPart (sets_at l.source.gsub.now l.source.kept.now l.subtable l.array l.p) l.part l.tables.bytes.items;
  more : Begins l.fn.tables.bytes.items l.tables.bytes.items;
  spent : l.limit ≤ l.fn.limit;
}
