use Rattle.std.proofs.Common.{arith, length, ◌-◌, ◌+◌}
use Rattle.postscript_write.proofs.Ranges.{among, at_first, one_more, last_range}
use Rattle.postscript_write.proofs.spans.ranges_len.Goals as goal

pub loop-r-init : goal.loop-r-init
loop-r-init c = at_first c.args.ranges.now c.args.size c.args.glyphs (omega (arith, c.if-glyphs-eq0.false))

pub loop-r-preserved : goal.loop-r-preserved
loop-r-preserved c =
    let left = c.if-left-more.false in
    one_more c.args.ranges.now c.args.size c.args.glyphs c.loop-r.r c.loop-r.left c.number_at-more.result
    (c.loop-r.left - (c.number_at-more.result + 1))
    c.number_at-more.ensures.value (omega (arith, left)) (omega (arith, left)) c.loop-r.invariant

pub returns-then-left-more : goal.returns-then-left-more
returns-then-left-more c = record {
  len = last_range c.args.ranges.now c.args.size c.args.glyphs c.loop-r.r c.loop-r.left c.number_at-more.result
      c.number_at-more.ensures.value (omega (arith, c.if-left-more.true)) c.loop-r.invariant;
  within = among (2 + c.args.size) (c.loop-r.r + 1) (length c.args.ranges.now) (omega arith) (omega arith);
}
