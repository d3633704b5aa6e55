use Rattle.postscript_type2.proofs.program.Program.flat_len.Goals as goal

pub returns-clause-faultless : goal.returns-clause-faultless
returns-clause-faultless c = rw c.lists-subroutines.ensures at c.flat_len.ensures.faultless

pub returns-clause-measures : goal.returns-clause-measures
returns-clause-measures c = rw c.lists-subroutines.ensures at c.flat_len.ensures.measures

pub returns-clause-refused : goal.returns-clause-refused
returns-clause-refused c = rw c.lists-subroutines.ensures at c.flat_len.ensures.refused
