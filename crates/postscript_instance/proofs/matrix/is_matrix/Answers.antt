use Rattle.std.proofs.Common.{◌∷◌, [], ap, subst}
use Rattle.postscript_base.specs.declared.compact1.operator.Operator.TheVariants.{FontMatrix}
use Rattle.postscript_instance.specs.Whole.{IsDict}
use Rattle.postscript_instance.proofs.Hinting.{same-some}
use Rattle.postscript_instance.proofs.Matrices.{is-one, one-of}
use Rattle.postscript_instance.proofs.matrix.is_matrix.Goals as goal

pub returns-in-Some-clause-is : goal.returns-in-Some-clause-is
returns-in-Some-clause-is c = (
  λ h.
      let found = rw c.in-Some.is at c.in_ok-operator.ensures.found in
      let same = is-one FontMatrix c.in-Some.operator (c.is_among.ensures.0 h) in
      (c.in-Some._operands.items, subst (λ q. IsDict c.args.text.now ((q, c.in-Some._operands.items) ∷ [])) same found),
  λ has.
      let read = rw c.in-Some.is at (c.in_ok-operator.ensures.is (FontMatrix, has.0) has.1) in
      let same = same-some _ _ read in
      c.is_among.ensures.1 (one-of FontMatrix c.in-Some.operator (ap (λ o. o.0) same)),
)

pub returns-in-None-clause-is : goal.returns-in-None-clause-is
returns-in-None-clause-is c = (
  λ never. absurd (cc),
  λ has. (let read = rw c.in-None.is at (c.in_ok-operator.ensures.is (FontMatrix, has.0) has.1) in absurd (cc)),
)
