use Rattle.std.proofs.Common.{ap, subst, sym}
use Rattle.std.specs.List.{Contains}
use Rattle.postscript_instance.specs.Whole.{hint_operators}
use Rattle.postscript_instance.proofs.Hinting.{same-some}
use Rattle.postscript_instance.proofs.privates.is_hint_operation.Goals as goal

pub returns-in-Some-clause-is : goal.returns-in-Some-clause-is
returns-in-Some-clause-is c = (
  λ h.
      let found = rw c.in-Some.is at c.in_ok-operator.ensures.found in
      ((c.in-Some.operator, c.in-Some._operands.items), c.is_among.ensures.0 h, found),
  λ has.
      let read = rw c.in-Some.is at (c.in_ok-operator.ensures.is has.0 has.2) in
      let same = same-some _ _ read in
      c.is_among.ensures.1 (subst (λ o. Contains hint_operators o) (sym (ap (λ o. o.0) same)) has.1),
)

pub returns-in-None-clause-is : goal.returns-in-None-clause-is
returns-in-None-clause-is c = (
  λ never. absurd (cc),
  λ has. (let read = rw c.in-None.is at (c.in_ok-operator.ensures.is has.0 has.2) in absurd (cc)),
)
