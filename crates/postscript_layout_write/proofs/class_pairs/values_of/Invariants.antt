use Rattle.postscript_layout_write.specs.ClassPairs.{AreValues}
use Rattle.postscript_layout_write.proofs.class_pairs.values_of.Given as goal

abbrev pub invariant-loop-r : goal.invariant-loop-r
invariant-loop-r l = AreValues l.columns l.r l.values.items
