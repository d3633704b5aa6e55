use Rattle.std.proofs.Common.{◌≤◌}
use Rattle.postscript_layout_write.specs.Reaching.{IsFollowed}
use Rattle.postscript_layout_write.proofs.called.Lookups.follow_all.Given as goal

abbrev pub invariant-loop-k : goal.invariant-loop-k
invariant-loop-k l = record {
  followed : IsFollowed l.source.gsub.now l.source.kept.now l.fn.self.lookups.items l.k l.self.lookups.items;
  spent : l.limit ≤ l.fn.limit;
}

abbrev pub decreases-loop-k : goal.decreases-loop-k
decreases-loop-k l = l.limit
