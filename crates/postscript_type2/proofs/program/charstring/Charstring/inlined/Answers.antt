use Rattle.postscript_type2.proofs.InlinedLaws.{no-longer, adds-result}
use Rattle.std.proofs.Common.{arith, ◌≡◌, subst, IfOk, OnOk, None}
use Rattle.postscript_type2.specs.Program.Inlined.{inlined_text}
use Rattle.postscript_type2.specs.Private.Machines.{still_of}
use Rattle.postscript_type2.specs.Program.Runs.{Run, fault_of}
use Rattle.postscript_type2.specs.Program.Charstrings.{lists_of}
use Rattle.postscript_type2.proofs.EndingLaws.{machine-ends, flatten-listed}
use Rattle.postscript_type2.proofs.InlinedMeaning.{keeps-result}
use Rattle.postscript_type2.proofs.Telling.{of-meant}
use Rattle.postscript_type2.proofs.program.charstring.Charstring.inlined.Goals as goal

pub returns-clause-keeps : goal.returns-clause-keeps
returns-clause-keeps c = keeps-result (λ v. v.items) (lists_of c.args.self.subroutines) c.args.self.code.now c.inlined_code.result
    (subst (λ (run : Run). OnOk c.inlined_code.result (fault_of run.end ≡ None)) c.over.ensures.run c.inlined_code.ensures.faultless)
    (subst (λ (run : Run). IfOk c.inlined_code.result (λ flat. flat.items ≡ inlined_text run.trace)) c.over.ensures.run
    c.inlined_code.ensures.text)

pub returns-clause-adds_none : goal.returns-clause-adds_none
returns-clause-adds_none c = adds-result (λ v. v.items) (lists_of c.args.self.subroutines) c.args.self.code.now c.inlined_code.result
    (subst (λ (run : Run). OnOk c.inlined_code.result (fault_of run.end ≡ None)) c.over.ensures.run c.inlined_code.ensures.faultless)
    (subst (λ (run : Run). IfOk c.inlined_code.result (λ flat. flat.items ≡ inlined_text run.trace)) c.over.ensures.run
    c.inlined_code.ensures.text)

pub returns-clause-no_longer : goal.returns-clause-no_longer
returns-clause-no_longer c = grind (arith, no-longer)

pub returns-clause-listed : goal.returns-clause-listed
returns-clause-listed c =
    flatten-listed c.inlined_code.result (still_of c.over.result).end (machine-ends c.over.result) c.inlined_code.ensures.refused

pub returns-clause-meant : goal.returns-clause-meant
returns-clause-meant c = of-meant (λ v. v.items) inlined_text (lists_of c.args.self.subroutines) c.args.self.code.now c.inlined_code.result
    (subst (λ (run : Run). IfOk c.inlined_code.result (λ flat. flat.items ≡ inlined_text run.trace)) c.over.ensures.run
    c.inlined_code.ensures.text)
