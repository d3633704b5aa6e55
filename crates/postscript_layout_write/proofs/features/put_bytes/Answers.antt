use Rattle.postscript_layout_write.proofs.FeatureReading.{bytes-more}
use Rattle.postscript_layout_write.proofs.features.put_bytes.Goals as goal

pub loop-k-preserved : goal.loop-k-preserved
loop-k-preserved c = bytes-more c.args.table.now c.args.offset c.loop-k.k c.byte.result c.args.out.now.items c.loop-k.out.items c.push.new.self.items
    c.loop-k.invariant c.byte.ensures c.in_ok-push.ensures.items
