use Rattle.std.proofs.Common.{◌≤◌, false}
use Rattle.postscript_layout_write.specs.Contexts.{contexts_below}
use Rattle.postscript_layout_write.specs.Coverages.{HaveContexts}
use Rattle.postscript_layout_write.specs.Flags.{set_of}
use Rattle.postscript_layout_write.specs.Holds.{Holds}
use Rattle.postscript_layout_write.specs.Scopes.{mark_set_text}
use Rattle.postscript_layout_write.proofs.contexts.contexts_of.Given as goal

abbrev pub invariant-loop-j : goal.invariant-loop-j
invariant-loop-j l = record {
  have : HaveContexts false (contexts_below l.source.gsub.now l.source.kept.now l.lookup l.kind l.j) l.contexts.offsets.items l.contexts.bytes.items;
  begins : Holds (mark_set_text l.flag (set_of l.source.gsub.now l.lookup)) l.contexts.bytes.items 0;
  spent : l.limit ≤ l.fn.limit;
}
