use Rattle.postscript_drawing.proofs.ContourLaws.{glyph-contours}
use Rattle.postscript_drawing.proofs.laws.drawings_are_contours.Goals as goal

pub returns : goal.returns
returns c = glyph-contours
