use Rattle.postscript_view.proofs.font.Glyph.program.Goals as goal

pub returns : goal.returns
returns c = rw c.indexes-subroutines.ensures at c.program.ensures.value
