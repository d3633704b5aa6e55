use Rattle.postscript_c.proofs.glyph.program_over.Goals as goal

pub returns : goal.returns
returns c = rw c.indexes-subroutines.ensures at c.program.ensures.value
