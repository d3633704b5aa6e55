use Rattle.std.proofs.Common.{rules}
use Rattle.postscript_drawing.proofs.flex.vector_back.Goals as goal

pub returns : goal.returns
returns c = search rules steps 1000000
