use Rattle.std.proofs.Common.{arith, subst, sym}
use Rattle.postscript_vertical.specs.Origins.{AreAscending}
use Rattle.postscript_vertical.proofs.origins.read.Goals as goal

pub returns-then-not-is_ascending-clause-why : goal.returns-then-not-is_ascending-clause-why
returns-then-not-is_ascending-clause-why c = (
  omega arith,
  λ are.
      let yes = c.is_ascending.ensures.1 (subst (AreAscending c.args.vorg.now) (sym c.word-count.ensures.exact) are) in
      let no = c.if-not-is_ascending.true in
      absurd (cc),
)
