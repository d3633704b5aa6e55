use Rattle.postscript_view.specs.Select.{AreInOrder}
use Rattle.postscript_view.proofs.select.are_in_order.Given as goal

abbrev pub invariant-loop-r : goal.invariant-loop-r
invariant-loop-r l = AreInOrder l.bytes l.start l.r
