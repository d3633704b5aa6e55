use Rattle.std.proofs.Common.{◌<◌, ◌++◌, ◌∷◌, [], ◌∙◌, ℕ, List, ap, inl, inr, length, arith, rules}
use Rattle.postscript_layout_write.specs.RuleSets.{some_rules}
use Rattle.postscript_layout_write.proofs.RuleWriting.{length-lists}
use Rattle.postscript_layout_write.proofs.subtables.Sets.add_rules.Goals as goal

pub place_rules-requires-clause-rules : goal.place_rules-requires-clause-rules
place_rules-requires-clause-rules c =
    let some : 0 < length c.args.rules.now = search rules in
    elim c.requires [
      | inl none ↦ (let same = ap length none in let many = length-lists c.args.rules.now in absurd (omega (arith, same, many, some)))
      | inr are ↦ are
    ]

pub returns-clause-done : goal.returns-clause-done
returns-clause-done c =
    let more = c.in_ok-number.ensures.more in
    let fits = c.ranges.first.fits in
    some_rules c.in_ok-number.number more.more (omega (arith, fits))
    (c.in_ok-push.ensures.items ∙ ap (λ (xs : List ℕ). xs ++ c.args.first ∷ []) c.in_ok-number.ensures.firsts)
    (c.in_ok-push-2.ensures.items ∙ ap (λ (xs : List ℕ). xs ++ c.in_ok-number.number ∷ []) c.in_ok-number.ensures.offsets)
    more.is c.in_ok-number.ensures.placed
