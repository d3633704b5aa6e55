use Rattle.std.proofs.Common.{refl, ◌≡◌, rules, sym, ◌∙◌, get_or, arith, below_more}
use Rattle.std.proofs.lemmas.List.{get_or_default}
use denote.Enum.Bare.{same_true, same_false}
use Rattle.postscript_base.specs.contracts.compact1.operator.Operator.{the_type}
use Rattle.postscript_base.specs.declared.compact1.operator.Operator.TheVariants.{Version}
use Rattle.postscript_instance.proofs.privates.is_among.Goals as goal

pub returns-then-eq : goal.returns-then-eq
returns-then-eq c =
    let operators = c.args.operators.now in
    let is : get_or operators c.loop-i.i Version ≡ c.args.operator = same_true the_type (search rules) _ _
    (sym c.eq.ensures ∙ c.if-eq.true) in
    (λ _. (c.loop-i.i, search rules, sym (get_or_default operators c.loop-i.i Version c.args.operator c.loop-i-test.true) ∙ is), λ _. refl)

pub loop-i-preserved : goal.loop-i-preserved
loop-i-preserved c =
    below_more (λ k. get_or c.args.operators.now k Version ≡ c.args.operator → ⊥) c.loop-i.i c.loop-i.invariant
    (same_false the_type _ _ (sym c.eq.ensures ∙ c.if-eq.false))

pub returns : goal.returns
returns c = (
  λ never. absurd (cc),
  λ has. let less = has.1 in
      absurd (c.loop-i.invariant has.0 (omega arith) (get_or_default c.args.operators.now has.0 Version c.args.operator less ∙ has.2)),
)
