use Rattle.postscript_instance.proofs.RoundedDrawing as drawing
use Rattle.postscript_instance.proofs.laws.nearest_is_nearest.Goals as goal

pub returns : goal.returns
returns c = drawing.nearest-law
