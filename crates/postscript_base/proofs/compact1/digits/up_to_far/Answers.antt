use Rattle.std.proofs.Common.{◌+◌, ◌*◌, get_or, arith, ap, ◌∙◌, inl, inr}
use Rattle.std.proofs.lemmas.List.Sums.{fold_more}
use Rattle.postscript_base.proofs.RealValues.{limited_more}
use Rattle.postscript_base.proofs.compact1.digits.up_to_far.Goals as goal
use Rattle.postscript_base.proofs.compact1.digits.up_to_far.Goals.{then-size-lt-FAR, else-size-lt-FAR}

pub loop-digit-preserved : goal.loop-digit-preserved
loop-digit-preserved c =
    let i = c.loop-digit.digit-index in
    let d = get_or c.args.digits.now i 0 in
    let small = c.requires i c.loop-digit-test.true in
    let more = fold_more (λ n x. 10 * n + x) 0 c.args.digits.now i 0 c.loop-digit-test.true in
    elim c.if-size-lt-FAR.branch [
      | then-size-lt-FAR w ↦ record {
        near = let e = w.size-is in let t = w.if-size-lt-FAR.true in let f = w.from.ensures in omega arith;
        value = limited_more c.loop-digit.size _ c.if-size-lt-FAR.size _ d c.loop-digit.invariant.value more
            (inl (w.if-size-lt-FAR.true, w.size-is ∙ ap (λ n. 10 * c.loop-digit.size + n) w.from.ensures));
      }
      | else-size-lt-FAR w ↦ record {
        near = let e = w.size-is in omega arith;
        value = limited_more c.loop-digit.size _ c.if-size-lt-FAR.size _ d c.loop-digit.invariant.value more
            (inr (w.if-size-lt-FAR.false, w.size-is));
      }
    ]
