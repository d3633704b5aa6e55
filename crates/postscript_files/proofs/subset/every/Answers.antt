use Rattle.std.proofs.Common.{[], inr, refl}
use Rattle.postscript_files.proofs.Same.{if-every}
use Rattle.postscript_files.proofs.Refusing.{if-memory}
use Rattle.postscript_files.proofs.subset.every.Goals as goal

pub returns-in-Ok-clause-all : goal.returns-in-Ok-clause-all
returns-in-Ok-clause-all c =
    if-every c.up_to.result c.args.cff.now [] c.in-Ok.font c.len.result (record { laid = c.in-Ok.ensures.found; there = c.in-Ok.ensures.bytes })
    c.len.ensures c.up_to.ensures.all

pub returns-in-Ok-clause-refused : goal.returns-in-Ok-clause-refused
returns-in-Ok-clause-refused c = if-memory c.up_to.result c.args.cff.now c.up_to.ensures.memory

pub returns-in-Err-clause-refused : goal.returns-in-Err-clause-refused
returns-in-Err-clause-refused c = inr (c.in-Err.error, refl, λ other. inr (c.in-Err.ensures.exact other))
