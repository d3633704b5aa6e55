use Rattle.postscript_layout_write.specs.ClassPairs.{AreFirsts}
use Rattle.postscript_layout_write.proofs.class_pairs.firsts_of.Given as goal

abbrev pub invariant-loop-x : goal.invariant-loop-x
invariant-loop-x l = AreFirsts l.classes l.x l.firsts.items
