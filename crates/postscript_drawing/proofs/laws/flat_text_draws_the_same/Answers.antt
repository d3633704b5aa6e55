use Rattle.postscript_drawing.proofs.FlatLaws.{flat-draws-the-same}
use Rattle.postscript_drawing.proofs.laws.flat_text_draws_the_same.Goals as goal

pub returns : goal.returns
returns c = flat-draws-the-same c.flat_text_keeps_meaning.ensures.law
