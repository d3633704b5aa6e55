use Rattle.postscript_drawing.proofs.FlatLaws.{inlined-draws-the-same}
use Rattle.postscript_drawing.proofs.laws.inlined_text_draws_the_same.Goals as goal

pub returns : goal.returns
returns c = inlined-draws-the-same c.inlined_text_keeps_meaning.ensures.law
