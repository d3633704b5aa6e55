use Rattle.std.proofs.Common.{◌∙◌, length, arith}
use Rattle.std.proofs.lemmas.List.{drop_more}
use Rattle.postscript_instance.proofs.Hinting.{each-step, each-count}
use Rattle.postscript_instance.proofs.privates.blended_each.Goals as goal

pub loop-default-preserved : goal.loop-default-preserved
loop-default-preserved c =
    let i = c.loop-default.default-index in
    let ds = c.args.defaults.now in
    let rest = c.loop-default.rest.now in
    let less = c.loop-default-test.true in
    let step = each-step c.loop-default.numbers.items ds i _ c.in_ok-blend_number.field-0 rest c.split_at.result.0.now
    c.split_at.result.1.now c.args.scalars.now c.in_ok-blend_number.ensures.number (drop_more ds i _ less) c.split_at.ensures.front
    c.split_at.ensures.back in
    record {
      are = rw c.in_ok-push.ensures.items (step ∙ c.loop-default.invariant.are);
      many = each-count ds i rest c.split_at.result.1.now (length c.args.scalars.now) less c.loop-default.invariant.many (omega arith);
    }
