use Rattle.postscript_layout_write.specs.ClassPairs.{PutsValues}
use Rattle.postscript_layout_write.proofs.class_pairs.put_values.Given as goal

abbrev pub invariant-loop-class : goal.invariant-loop-class
invariant-loop-class l = PutsValues l.columns l.r l.class l.fn.values.items l.values.items
