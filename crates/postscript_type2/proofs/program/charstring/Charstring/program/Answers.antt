use Rattle.std.proofs.Common.{arith}
use Rattle.std.proofs.lemmas.Grind.{common_steps}
use Rattle.postscript_type2.specs.Program.States.{start}
use Rattle.postscript_type2.specs.Program.Evaluation.{run_of}
use Rattle.postscript_type2.specs.Program.Routines.{Lists}
use Rattle.postscript_type2.specs.Program.Charstrings.{lists_of}
use Rattle.postscript_type2.proofs.MeaningLaws.{complete}
use Rattle.postscript_type2.proofs.program.charstring.Charstring.program.Goals as goal

pub returns-clause-meant : goal.returns-clause-meant
returns-clause-meant c =
    let lists : Lists = lists_of c.args.self.subroutines in
    (run_of lists c.args.self.code.now, complete lists 10 0 (omega arith) c.args.self.code.now start, grind (arith, common_steps))
