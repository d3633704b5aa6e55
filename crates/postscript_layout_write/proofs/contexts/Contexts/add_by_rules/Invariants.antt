use Rattle.std.proofs.Common.{◌≤◌, false}
use Rattle.postscript_layout_write.specs.ContextRules.{sets_below}
use Rattle.postscript_layout_write.specs.Coverages.{AddsContexts}
use Rattle.postscript_layout_write.proofs.contexts.Contexts.add_by_rules.Given as goal

abbrev pub invariant-loop-i : goal.invariant-loop-i
invariant-loop-i l = record {
  added : AddsContexts false (sets_below l.source.gsub.now l.source.kept.now l.kind l.subtable l.i) l.fn.self l.self;
  spent : l.limit ≤ l.fn.limit;
}
