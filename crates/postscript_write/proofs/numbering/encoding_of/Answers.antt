use Rattle.postscript_write.proofs.numbering.encoding_of.Goals as goal

pub returns-in-Err-clause-memory : goal.returns-in-Err-clause-memory
returns-in-Err-clause-memory c = absurd (c.in-Err.ensures.refused c.requires.0 c.requires.1)
