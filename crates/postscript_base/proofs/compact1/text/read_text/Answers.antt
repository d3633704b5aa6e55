use Rattle.std.proofs.Common.{arith}
use Rattle.std.proofs.Common.{refl}
use Rattle.std.proofs.lemmas.Result.{err_from_is_err_and}
use Rattle.postscript_base.proofs.Nibbles.{ends, goes_on, refused, text_is}
use Rattle.postscript_base.proofs.compact1.text.read_text.Goals as goal

pub returns-in_err-step-clause-exact : goal.returns-in_err-step-clause-exact
returns-in_err-step-clause-exact g c = grind (arith, err_from_is_err_and, refused)

pub loop-text-init : goal.loop-text-init
loop-text-init g c = λ honest. ((honest, refl), text_is _ _ _ c.new-text.ensures.items)

pub loop-text-preserved : goal.loop-text-preserved
loop-text-preserved g c = grind (arith, goes_on)

pub returns-clause-exact : goal.returns-clause-exact
returns-clause-exact g c = grind (arith, ends)
