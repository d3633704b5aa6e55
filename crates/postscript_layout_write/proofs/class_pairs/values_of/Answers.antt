use Rattle.postscript_layout_write.proofs.ClassCollecting.{values-more}
use Rattle.postscript_layout_write.proofs.class_pairs.values_of.Goals as goal

pub loop-r-preserved : goal.loop-r-preserved
loop-r-preserved c = values-more c.args.columns.now c.loop-r.r c.loop-r.values.items c.put_values.new.values.items c.loop-r.invariant c.in_ok-put_values.ensures.put
