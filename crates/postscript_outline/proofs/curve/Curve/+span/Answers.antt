use Rattle.std.proofs.Common.{◌<◌, ◌-◌, ◌*◌, ◌^◌, arith, subst, sym}
use Rattle.postscript_outline.specs.Halves.{IsCurveWithin, IsBent, Spans}
use Rattle.postscript_outline.proofs.curve.Curve.+span.Goals as goal
use Rattle.postscript_outline.proofs.Halving.{bent-back, bent-front, few-parts, joined-spans, more-parts, within-back, within-front}

pub span-front-requires : goal.span-front-requires
span-front-requires t c =
    let unit = c.args.unit in
    let h = c.args.halvings in
    let some : 0 < h = omega arith in (
      omega arith,
      (
        more-parts unit h some c.requires.parts,
        (
          subst (IsCurveWithin (2 ^ 32 * (8 * unit))) (sym c.front.ensures) (within-front c.args.self unit c.requires.room),
          subst (IsBent (2 ^ (h - 1)) (2 ^ 50)) (sym c.front.ensures) (bent-front c.args.self h (2 ^ 50) some c.requires.bent),
        ),
      ),
    )

pub back-requires : goal.back-requires
back-requires t c =
    let small = few-parts c.args.unit c.args.halvings c.requires.parts in
    record { from = omega arith; first = omega arith; second = omega arith; to = omega arith }

pub overflow_mul-unit-2 : goal.overflow_mul-unit-2
overflow_mul-unit-2 t c = let small = few-parts c.args.unit c.args.halvings c.requires.parts in record { fits = omega arith }

pub span-back-requires : goal.span-back-requires
span-back-requires t c =
    let unit = c.args.unit in
    let h = c.args.halvings in
    let some : 0 < h = omega arith in (
      omega arith,
      (
        more-parts unit h some c.requires.parts,
        (
          subst (IsCurveWithin (2 ^ 32 * (8 * unit))) (sym c.back.ensures) (within-back c.args.self unit c.requires.room),
          subst (IsBent (2 ^ (h - 1)) (2 ^ 50)) (sym c.back.ensures) (bent-back c.args.self h (2 ^ 50) some c.requires.bent),
        ),
      ),
    )

pub returns : goal.returns
returns t c =
    let unit = c.args.unit in
    let first = subst (Spans c.span-front.result (8 * unit)) c.front.ensures c.span-front.ensures in
    let second = subst (Spans c.span-back.result (8 * unit)) c.back.ensures c.span-back.ensures in
    subst (λ s. Spans s unit c.args.self) (sym c.with_span.ensures)
    (joined-spans c.args.self c.span-front.result c.span-back.result unit first second)
