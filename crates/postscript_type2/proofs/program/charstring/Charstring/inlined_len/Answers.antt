use Rattle.std.proofs.Common.{◌≡◌, subst, IfOk}
use Rattle.postscript_type2.specs.Program.Inlined.{inlined_len}
use Rattle.postscript_type2.specs.Private.Machines.{still_of}
use Rattle.postscript_type2.specs.Program.Runs.{Run}
use Rattle.postscript_type2.specs.Program.Charstrings.{lists_of}
use Rattle.postscript_type2.proofs.EndingLaws.{machine-ends, flatten-listed}
use Rattle.postscript_type2.proofs.Telling.{of-meant}
use Rattle.postscript_type2.proofs.program.charstring.Charstring.inlined_len.Goals as goal

pub returns-clause-listed : goal.returns-clause-listed
returns-clause-listed c =
    flatten-listed c.inlined_measured.result (still_of c.over.result).end (machine-ends c.over.result) c.inlined_measured.ensures.refused

pub returns-clause-meant : goal.returns-clause-meant
returns-clause-meant c = of-meant (λ len. len) inlined_len (lists_of c.args.self.subroutines) c.args.self.code.now c.inlined_measured.result
    (subst (λ (run : Run). IfOk c.inlined_measured.result (λ len. len ≡ inlined_len run.trace)) c.over.ensures.run
    c.inlined_measured.ensures.len)
