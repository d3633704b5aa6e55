use Rattle.std.proofs.Common.{refl, arith}
use Rattle.postscript_instance_file.specs.Weights.{none, one_more}
use Rattle.postscript_instance_file.proofs.weight.all_regions.Goals as goal

pub loop-number-init : goal.loop-number-init
loop-number-init c = (0, none, refl)

pub loop-number-preserved : goal.loop-number-preserved
loop-number-preserved c =
    let so_far = c.loop-number.invariant in
    (_, one_more _ _ c.regions_in.result so_far.1 c.regions_in.ensures, omega (arith, so_far.2, c.saturating_add-sum.ensures))
