use Rattle.std.proofs.Common.{arith, ◌+◌, ◌*◌, ◌<◌, ◌≤◌, sym, subst, div-mul-le_self}
use Rattle.std.proofs.Math.Nat.{lt-div-mul-add}
use Rattle.std.proofs.lemmas.Grind.{div_ceil_times}
use Rattle.postscript_outline.proofs.curve.Curve.hull.Goals as goal
use Rattle.postscript_outline.proofs.Halving.{hull-spans}

pub returns : goal.returns
returns c =
    let unit = c.args.unit in
    let most = c.max-high.result in
    let ceil = div_ceil_times most unit c.requires.some in
    hull-spans c.args.self _ unit c.min-low.result most c.requires.some c.requires.near
    (omega arith) (omega arith) (div-mul-le_self c.min-low.result unit) (lt-div-mul-add c.requires.some)
    (subst (λ v. most ≤ v * unit) (sym c.div_ceil.ensures) ceil.0) (subst (λ v. v * unit < most + unit) (sym c.div_ceil.ensures) ceil.1)
