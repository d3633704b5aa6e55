use Rattle.postscript_layout_write.specs.ClassPairs.{AreColumnsIfOpen}
use Rattle.postscript_layout_write.proofs.class_pairs.columns_of.Given as goal

abbrev pub invariant-loop-y : goal.invariant-loop-y
invariant-loop-y l = AreColumnsIfOpen l.rows l.y l.columns
