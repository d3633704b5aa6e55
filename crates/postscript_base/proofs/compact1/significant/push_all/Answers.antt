use Rattle.std.proofs.Common.{arith}
use Rattle.std.proofs.lemmas.List.Sums.{fold_more, fold-append}
use Rattle.postscript_base.proofs.compact1.significant.push_all.Goals as goal

pub loop-digit-preserved : goal.loop-digit-preserved
loop-digit-preserved c = grind (arith, fold-append, fold_more)
