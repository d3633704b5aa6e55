use Rattle.std.proofs.Common.{◌≡◌, ◌+◌, ◌*◌, ◌≤◌}
use Rattle.postscript_layout.specs.Numbers.{word}
use Rattle.postscript_layout_write.specs.CaretLists.{AreWords, values_of}
use Rattle.postscript_layout_write.specs.Carets.{caret_at}
use Rattle.postscript_layout_write.specs.First.{all_below}
use Rattle.postscript_layout_write.proofs.carets.values_in.Given as goal

abbrev pub invariant-loop-i : goal.invariant-loop-i
invariant-loop-i l = record {
  exact : l.values.items ≡ values_of (all_below (λ i. caret_at l.gdef (l.ligature + word l.gdef (l.ligature + 2 + i * 2))) l.i);
  small : AreWords l.values.items;
  spent : l.limit ≤ l.fn.limit;
}
