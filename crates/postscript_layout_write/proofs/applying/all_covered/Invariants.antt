use Rattle.std.proofs.Common.{◌≡◌, ◌≤◌}
use Rattle.postscript_layout_write.specs.Contexts.{sets_at}
use Rattle.postscript_layout_write.specs.Sequences.{all_some}
use Rattle.postscript_layout_write.proofs.applying.all_covered.Given as goal

abbrev pub invariant-loop-p : goal.invariant-loop-p
invariant-loop-p l = record {
  exact : l.all ≡ all_some (sets_at l.source.gsub.now l.source.kept.now l.subtable l.array l.p);
  spent : l.limit ≤ l.fn.limit;
}
