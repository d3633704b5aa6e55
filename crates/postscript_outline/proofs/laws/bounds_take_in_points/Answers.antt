use Rattle.std.proofs.Common.{refl, [], None}
use Rattle.postscript_outline.proofs.Bounding.{taken-in}
use Rattle.postscript_outline.proofs.laws.bounds_take_in_points.Goals as goal

pub returns : goal.returns
returns c = λ segments new is. taken-in segments None new [] refl is
