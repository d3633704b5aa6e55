use Rattle.std.proofs.Common.{◌≡◌, subst, IfOk, IfSome, None}
use Rattle.postscript_type2.specs.Program.Flat.{flat_text}
use Rattle.postscript_type2.specs.Program.Runs.{Run, fault_of}
use Rattle.postscript_type2.specs.Program.Charstrings.{lists_of}
use Rattle.postscript_type2.specs.Program.Within.{AnswersWithin}
use Rattle.postscript_type2.specs.Private.Machines.{still_of}
use Rattle.postscript_type2.proofs.EndingLaws.{machine-ends, flatten-listed}
use Rattle.postscript_type2.proofs.Inlining.{keeps-told}
use Rattle.postscript_type2.proofs.Limit.{no-pause}
use Rattle.postscript_type2.proofs.Telling.{told-meant}
use Rattle.postscript_type2.proofs.program.charstring.Charstring.flatten_within.Goals as goal

pub returns-clause-suffices : goal.returns-clause-suffices
returns-clause-suffices c = λ less is.
    no-pause (subst (λ answer. AnswersWithin (still_of c.over.result).trace c.args.limit.now answer c.flat_code_within.new.limit) is
    c.flat_code_within.ensures.fits) (rw c.over.ensures.run less)

pub returns-clause-meant : goal.returns-clause-meant
returns-clause-meant c =
    told-meant (λ v. v.items) flat_text (lists_of c.args.self.subroutines) c.args.self.code.now c.flat_code_within.result
    (subst (λ (run : Run). IfOk c.flat_code_within.result (λ told. IfSome told (λ flat. flat.items ≡ flat_text run.trace)))
    c.over.ensures.run c.flat_code_within.ensures.text)

pub returns-clause-keeps : goal.returns-clause-keeps
returns-clause-keeps c = keeps-told (λ v. v.items) (lists_of c.args.self.subroutines) c.args.self.code.now c.flat_code_within.result
    (subst (λ (run : Run). IfOk c.flat_code_within.result (λ told. IfSome told (λ _. fault_of run.end ≡ None))) c.over.ensures.run
    c.flat_code_within.ensures.faultless)
    (subst (λ (run : Run). IfOk c.flat_code_within.result (λ told. IfSome told (λ flat. flat.items ≡ flat_text run.trace)))
    c.over.ensures.run c.flat_code_within.ensures.text)

pub returns-clause-listed : goal.returns-clause-listed
returns-clause-listed c =
    flatten-listed c.flat_code_within.result (still_of c.over.result).end (machine-ends c.over.result) c.flat_code_within.ensures.refused
