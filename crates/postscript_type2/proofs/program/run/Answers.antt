use Rattle.postscript_type2.proofs.program.run.Goals as goal

pub returns-clause-tells : goal.returns-clause-tells
returns-clause-tells c = rw c.lists-subroutines.ensures at c.run.ensures.tells
