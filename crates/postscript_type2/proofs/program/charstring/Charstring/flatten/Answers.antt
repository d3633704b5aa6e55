use Rattle.std.proofs.Common.{◌≡◌, subst, IfOk, OnOk, None}
use Rattle.postscript_type2.specs.Program.Flat.{flat_text}
use Rattle.postscript_type2.specs.Private.Machines.{still_of}
use Rattle.postscript_type2.specs.Program.Runs.{Run, fault_of}
use Rattle.postscript_type2.specs.Program.Charstrings.{lists_of}
use Rattle.postscript_type2.proofs.EndingLaws.{machine-ends, flatten-listed}
use Rattle.postscript_type2.proofs.Inlining.{law, keeps-result}
use Rattle.postscript_type2.proofs.Telling.{of-meant}
use Rattle.postscript_type2.proofs.program.charstring.Charstring.flatten.Goals as goal

pub returns-clause-keeps : goal.returns-clause-keeps
returns-clause-keeps c = keeps-result (λ v. v.items) (lists_of c.args.self.subroutines) c.args.self.code.now c.flat_code.result
    (subst (λ (run : Run). OnOk c.flat_code.result (fault_of run.end ≡ None)) c.over.ensures.run c.flat_code.ensures.faultless)
    (subst (λ (run : Run). IfOk c.flat_code.result (λ flat. flat.items ≡ flat_text run.trace)) c.over.ensures.run c.flat_code.ensures.text)

pub returns-in_err-len-clause-law : goal.returns-in_err-len-clause-law
returns-in_err-len-clause-law c = law

pub returns-clause-law : goal.returns-clause-law
returns-clause-law c = law

pub returns-clause-listed : goal.returns-clause-listed
returns-clause-listed c =
    flatten-listed c.flat_code.result (still_of c.over.result).end (machine-ends c.over.result) c.flat_code.ensures.refused

pub returns-clause-meant : goal.returns-clause-meant
returns-clause-meant c = of-meant (λ v. v.items) flat_text (lists_of c.args.self.subroutines) c.args.self.code.now c.flat_code.result
    (subst (λ (run : Run). IfOk c.flat_code.result (λ flat. flat.items ≡ flat_text run.trace)) c.over.ensures.run c.flat_code.ensures.text)
