use Rattle.std.proofs.Common.{◌≤◌, true}
use Rattle.postscript_layout_write.specs.Coverages.{HaveContexts}
use Rattle.postscript_layout_write.specs.First.{all_below}
use Rattle.postscript_layout_write.specs.Flags.{set_of}
use Rattle.postscript_layout_write.specs.Holds.{Holds}
use Rattle.postscript_layout_write.specs.Reverses.{reverses_in}
use Rattle.postscript_layout_write.specs.Rules.{part_at}
use Rattle.postscript_layout_write.specs.Scopes.{mark_set_text}
use Rattle.postscript_layout_write.proofs.reverses.reverses_of.Given as goal

abbrev pub invariant-loop-j : goal.invariant-loop-j
invariant-loop-j l = record {
  have : HaveContexts true (all_below (λ j. reverses_in l.source.gsub.now l.source.kept.now (part_at l.source.gsub.now l.lookup 8 j)) l.j)
      l.contexts.offsets.items l.contexts.bytes.items;
  begins : Holds (mark_set_text l.flag (set_of l.source.gsub.now l.lookup)) l.contexts.bytes.items 0;
  spent : l.limit ≤ l.fn.limit;
}
