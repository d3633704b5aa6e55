use Rattle.postscript_type2.proofs.program.Program.inlined.Goals as goal

pub returns-clause-faultless : goal.returns-clause-faultless
returns-clause-faultless c = rw c.lists-subroutines.ensures at c.inlined.ensures.faultless

pub returns-clause-text : goal.returns-clause-text
returns-clause-text c = rw c.lists-subroutines.ensures at c.inlined.ensures.text

pub returns-clause-keeps : goal.returns-clause-keeps
returns-clause-keeps c = rw c.lists-subroutines.ensures at c.inlined.ensures.keeps

pub returns-clause-adds_none : goal.returns-clause-adds_none
returns-clause-adds_none c = rw c.lists-subroutines.ensures at c.inlined.ensures.adds_none

pub returns-clause-no_longer : goal.returns-clause-no_longer
returns-clause-no_longer c = rw c.lists-subroutines.ensures at c.inlined.ensures.no_longer

pub returns-clause-refused : goal.returns-clause-refused
returns-clause-refused c = rw c.lists-subroutines.ensures at c.inlined.ensures.refused

pub returns-clause-measured : goal.returns-clause-measured
returns-clause-measured c = rw c.lists-subroutines.ensures at c.inlined.ensures.measured
