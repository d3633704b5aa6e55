use Rattle.postscript_instance.proofs.RoundedDrawing as drawing
use Rattle.postscript_instance.proofs.laws.rounded_outlines.Goals as goal

pub returns : goal.returns
returns c = drawing.outlines
