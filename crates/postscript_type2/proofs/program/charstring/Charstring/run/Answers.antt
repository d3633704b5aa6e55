use Rattle.std.proofs.Common.{arith, ◌≡◌, MatchResult}
use Rattle.postscript_base.specs.declared.error.Error.TheVariants.{Memory}
use Rattle.postscript_type2.specs.Program.Evaluation.{run_of}
use Rattle.postscript_type2.specs.Program.RunAnswers.{Tells}
use Rattle.postscript_type2.specs.Program.Charstrings.{lists_of}
use Rattle.postscript_type2.proofs.Telling.{tells-meant, tells-listed}
use Rattle.postscript_type2.proofs.program.charstring.Charstring.run.Goals.{After-drop-program-2}
use Rattle.postscript_type2.proofs.program.charstring.Charstring.run.Goals as goal

-- what the run of the code tells
told : (c : After-drop-program-2) →
    MatchResult c.all_answers.result (λ told. Tells told (run_of (lists_of c.args.self.subroutines) c.args.self.code.now))
    (λ e. e ≡ Memory)
told c = grind arith

pub returns-clause-listed : goal.returns-clause-listed
returns-clause-listed c = tells-listed (lists_of c.args.self.subroutines) c.args.self.code.now c.all_answers.result (told c)

pub returns-clause-meant : goal.returns-clause-meant
returns-clause-meant c = tells-meant (lists_of c.args.self.subroutines) c.args.self.code.now c.all_answers.result (told c)

pub returns-clause-tells : goal.returns-clause-tells
returns-clause-tells c = told c
