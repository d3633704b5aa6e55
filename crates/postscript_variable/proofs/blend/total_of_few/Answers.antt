use Rattle.std.proofs.Common.{arith, rules, ◌≡◌, get_or, length, w32, FitsSigned}
use Rattle.std.proofs.lemmas.Int.{ints, to_z-of_z}
use Rattle.postscript_variable.specs.Blending.{scaled}
use Rattle.postscript_variable.proofs.Deltas.{sum-step}
use Rattle.postscript_variable.proofs.blend.total_of_few.Goals as goal

pub loop-i-preserved : goal.loop-i-preserved
loop-i-preserved c =
    let as_many : length c.args.deltas.now ≡ length c.args.scalars.now = c.requires.deltas in
    let fits : FitsSigned w32 c.bits-in-loop-i.result = search rules in
    let product : c.scale_delta-sum.result ≡ scaled c.bits-in-loop-i.result
    (get_or c.args.scalars.now c.loop-i.i 0) = simp to_z-of_z at c.scale_delta-sum.ensures.value in
    let delta : c.bits-in-loop-i.result ≡ get_or c.args.deltas.now c.loop-i.i c.bits-in-loop-i.result = rw c.bits-in-loop-i.ensures
    c.index-deltas-i.is in
    let step = sum-step c.args.deltas.now c.args.scalars.now c.loop-i.i c.bits-in-loop-i.result c.scale_delta-sum.result _ _
    (omega arith) c.loop-i-test.true delta product c.loop-i.invariant.sum in
    record { sum = omega (arith, ints, step); room = omega (arith, ints) }
