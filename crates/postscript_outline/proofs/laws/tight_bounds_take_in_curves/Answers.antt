use Rattle.std.proofs.Common.{refl, []}
use Rattle.postscript_outline.proofs.Tightening.{tight-taken}
use Rattle.postscript_outline.specs.Tight.{no_bounds}
use Rattle.postscript_outline.proofs.laws.tight_bounds_take_in_curves.Goals as goal

pub returns : goal.returns
returns c = λ segments new is. tight-taken segments no_bounds new [] refl is
