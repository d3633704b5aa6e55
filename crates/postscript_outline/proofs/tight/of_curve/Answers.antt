use Rattle.std.proofs.Common.{◌≡◌, rules, to_z, of_z, w32}
use Rattle.postscript_outline.proofs.tight.of_curve.Goals as goal
use Rattle.postscript_outline.proofs.Tightening.{surrounds}
use Rattle.postscript_outline.specs.Arcs.{Reaches}
use Rattle.postscript_outline.specs.Tight.{arc}

pub returns : goal.returns
returns c =
    let left : to_z w32 (of_z w32 c.extent-left.result.0) ≡ c.extent-left.result.0 = search rules in
    let right : to_z w32 (of_z w32 c.extent-left.result.1) ≡ c.extent-left.result.1 = search rules in
    let bottom : to_z w32 (of_z w32 c.extent-bottom.result.0) ≡ c.extent-bottom.result.0 = search rules in
    let top : to_z w32 (of_z w32 c.extent-bottom.result.1) ≡ c.extent-bottom.result.1 = search rules in
    let across : Reaches c.extent-left.result.0 c.extent-left.result.1 c.args.from.x c.args.first.x c.args.second.x c.args.to.x = search
    rules in
    let upwards : Reaches c.extent-bottom.result.0 c.extent-bottom.result.1 c.args.from.y c.args.first.y c.args.second.y
    c.args.to.y = search rules in
    surrounds _ _ _ _ _ _ _ _ (arc c.args.from c.args.first c.args.second c.args.to) left right bottom top across upwards
