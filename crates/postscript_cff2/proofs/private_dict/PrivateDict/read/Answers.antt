use Rattle.postscript_cff2.proofs.Parting.{no_subroutines, no_index}
use Rattle.postscript_cff2.proofs.private_dict.PrivateDict.read.Goals as goal

pub returns-in_default-clause-none : goal.returns-in_default-clause-none
returns-in_default-clause-none c = λ part h. c.in_default.ensures.none h.place part.private_dictionary h.named

pub returns-in_default-subroutines_of-clause-none : goal.returns-in_default-subroutines_of-clause-none
returns-in_default-subroutines_of-clause-none c =
    no_subroutines c.args.bytes.now c.args.dictionary.now.bytes.now c.in-Some.place c.in-Some.private_dictionary.bytes.now
    c.in-Some.ensures.found c.in_default-subroutines_of.ensures.none

pub returns-in_default-index_of-clause-none : goal.returns-in_default-index_of-clause-none
returns-in_default-index_of-clause-none c =
    no_index c.args.bytes.now c.args.dictionary.now.bytes.now c.in-Some.place c.in-Some.private_dictionary.bytes.now
    c.in-Some.ensures.found c.in_default-index_of.ensures.none
