use Rattle.postscript_drawing.proofs.Fronts.{curves-front}
use Rattle.postscript_drawing.proofs.operands.curve.Goals as goal

pub returns : goal.returns
returns c = curves-front _ _ _ _ _ _ _ c.in_ok-a.ensures c.in_ok-b.ensures c.in_ok-c.ensures
