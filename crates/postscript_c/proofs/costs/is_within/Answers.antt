use Rattle.std.proofs.Common.{◌≡◌, ap, ◌∙◌, ◌+◌, ◌*◌, ◌<◌, arith}
use Rattle.postscript_c.specs.Costs.{nothing, one_more}
use Rattle.postscript_c.proofs.Costing.{before}
use Rattle.postscript_c.proofs.costs.is_within.Goals as goal
use Rattle.postscript_variation.specs.Lent.{axes_of, delta_count, regions_of}

pub loop-number-init : goal.loop-number-init
loop-number-init c = (0, nothing, omega arith)

pub returns-in_default-clause-before : goal.returns-in_default-clause-before
returns-in_default-clause-before c = before c.args.store.now c.loop-number.number c.loop-number.invariant.0 c.loop-number.invariant.1

pub returns-then-left-cost-clause-found : goal.returns-then-left-cost-clause-found
returns-then-left-cost-clause-found c =
    let so_far = c.loop-number.invariant in
    let each : c.len.result * (c.axes.result + 1) ≡ delta_count c.in-Some.table * (axes_of (regions_of c.args.store.now) + 1) =
    ap (λ n. n * (c.axes.result + 1)) c.len.ensures
    ∙ ap (λ n. delta_count c.in-Some.table * (n + 1)) (c.axes.ensures ∙ ap axes_of c.regions.ensures) in
    let price = delta_count c.in-Some.table * (axes_of (regions_of c.args.store.now) + 1) in
    let more : c.args.limit < so_far.0 + price = omega (arith, each, c.if-left-cost.true, so_far.2) in
    (c.loop-number.number + 1, so_far.0 + price, one_more c.loop-number.number so_far.0 c.in-Some.table so_far.1 c.in-Some.ensures, more)

pub loop-number-preserved : goal.loop-number-preserved
loop-number-preserved c =
    let so_far = c.loop-number.invariant in
    let each : c.len.result * (c.axes.result + 1) ≡ delta_count c.in-Some.table * (axes_of (regions_of c.args.store.now) + 1) =
    ap (λ n. n * (c.axes.result + 1)) c.len.ensures
    ∙ ap (λ n. delta_count c.in-Some.table * (n + 1)) (c.axes.ensures ∙ ap axes_of c.regions.ensures) in
    let price = delta_count c.in-Some.table * (axes_of (regions_of c.args.store.now) + 1) in (
      so_far.0 + price,
      one_more c.loop-number.number so_far.0 c.in-Some.table so_far.1 c.in-Some.ensures,
      omega (arith, each, c.if-left-cost.false, so_far.2),
    )
