use Rattle.std.proofs.Common.{◌*◌, ◌<◌, below_more, arith}
use Rattle.postscript_instance_file.specs.declared.weight.TheConstants.{STEPS}
use Rattle.postscript_instance_file.proofs.weight.has_wide_data.Goals as goal

pub loop-number-preserved : goal.loop-number-preserved
loop-number-preserved c =
    let small : STEPS < c.regions_in.result * c.args.sums → ⊥ =
    λ h. let yes = c.exceeds.ensures.1 h in let off = c.if-exceeds.false in absurd (cc) in
    below_more _ _ c.loop-number.invariant (c.regions_in.result, c.regions_in.ensures, omega (arith, small))
