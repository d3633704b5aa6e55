use Rattle.std.proofs.Common.{rules}
use Rattle.postscript_drawing.proofs.flex.back.Goals as goal

pub returns-then-unsigned_abs : goal.returns-then-unsigned_abs
returns-then-unsigned_abs c = search rules steps 1000000
