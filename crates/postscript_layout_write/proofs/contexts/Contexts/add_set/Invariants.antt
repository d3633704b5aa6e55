use Rattle.std.proofs.Common.{◌≤◌, false}
use Rattle.postscript_layout_write.specs.Coverages.{AddsContexts}
use Rattle.postscript_layout_write.specs.Labels.{listed_below}
use Rattle.postscript_layout_write.proofs.contexts.Contexts.add_set.Given as goal

abbrev pub invariant-loop-r : goal.invariant-loop-r
invariant-loop-r l = record {
  added : AddsContexts false (listed_below l.gsub l.kind l.labels l.start l.set l.r) l.fn.self l.self;
  spent : l.limit ≤ l.fn.limit;
}
