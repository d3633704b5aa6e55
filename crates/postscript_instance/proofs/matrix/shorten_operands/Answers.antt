use Rattle.std.proofs.Common.{[], subst}
use Rattle.std.proofs.lemmas.List.{append-nil}
use Rattle.postscript_instance.specs.Whole as whole
use Rattle.postscript_instance.specs.Whole.{AreShortened}
use Rattle.postscript_instance.proofs.matrix.shorten_operands.Goals as goal

pub returns-clause-are : goal.returns-clause-are
returns-clause-are c =
    subst (AreShortened c.args.operands.now 0) (append-nil c.loop-place.out.items)
    (c.loop-place.invariant [] (whole.none_left c.loop-place.place c.loop-place-test.false))
