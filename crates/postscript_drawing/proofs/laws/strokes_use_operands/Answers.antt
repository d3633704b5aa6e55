use Rattle.postscript_drawing.proofs.UsingLaws.{strokes-use-operands}
use Rattle.postscript_drawing.proofs.laws.strokes_use_operands.Goals as goal

pub returns : goal.returns
returns c = strokes-use-operands
