use Rattle.std.proofs.Common.{arith}
use Rattle.std.proofs.lemmas.Bool.Decides.{nat_tests}
use Rattle.postscript_files.proofs.LookingUp.{chosen-alone}
use Rattle.postscript_files.proofs.choice.kept_pairs.Goals as goal

pub returns-then-choice-le-FEW-clause-kept : goal.returns-then-choice-le-FEW-clause-kept
returns-then-choice-le-FEW-clause-kept c =
    chosen-alone c.looked_up.result c.args.choice.now c.args.map.now (grind (arith, nat_tests, c.is_empty.ensures, c.if-is_empty.true))
    c.looked_up.ensures.found
