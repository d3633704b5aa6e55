use Rattle.std.proofs.Common.{◌+◌, ◌<◌, ◌≤◌, ◌++◌, ◌∙◌, ap, sym, subst, drop, length, List, ℕ, append-nil, arith}
use Rattle.std.proofs.lemmas.List.{append_assoc}
use Rattle.postscript_layout_write.specs.RuleSets.{IsLigature, IsShort, ligature_text, ligatures_text, lists}
use Rattle.postscript_layout_write.proofs.RuleWriting.{at-item, ligatures-text-done, ligatures-text-more}
use Rattle.postscript_layout_write.proofs.rule_sets.put_each.Goals as goal

pub put_ligature-requires-clause-some : goal.put_ligature-requires-clause-some
put_ligature-requires-clause-some c =
    let less : c.loop-rule.rule-index < length c.args.rules.now = omega arith in
    subst (λ (xs : List ℕ). 0 < length xs) (sym c.deref.ensures.value)
    (at-item IsLigature c.args.rules.now c.loop-rule.rule-index c.rule-item.result less c.rule-item.is c.requires.rules).0

pub put_ligature-requires-clause-short : goal.put_ligature-requires-clause-short
put_ligature-requires-clause-short c =
    let less : c.loop-rule.rule-index < length c.args.rules.now = omega arith in
    subst (λ (xs : List ℕ). length xs < 65536) (sym c.deref.ensures.value)
    (at-item IsShort c.args.rules.now c.loop-rule.rule-index c.rule-item.result less c.rule-item.is c.requires.short)

pub loop-rule-preserved : goal.loop-rule-preserved
loop-rule-preserved c =
    let rules = c.args.rules.now in
    let i = c.loop-rule.rule-index in
    let less : i < length rules = omega arith in
    ap (λ xs. xs ++ ligatures_text (lists (drop (i + 1) rules))) c.in_ok-put_ligature.ensures.text
    ∙ append_assoc c.loop-rule.out.items _ _
    ∙ ap (λ xs. c.loop-rule.out.items ++ (ligature_text xs ++ ligatures_text (lists (drop (i + 1) rules)))) c.deref.ensures.value
    ∙ ap (λ xs. c.loop-rule.out.items ++ xs) (sym (ligatures-text-more rules i c.rule-item.result less c.rule-item.is))
    ∙ c.loop-rule.invariant

pub returns-clause-text : goal.returns-clause-text
returns-clause-text c =
    let past : length c.args.rules.now ≤ c.loop-rule.rule-index = omega arith in
    sym (append-nil c.loop-rule.out.items)
    ∙ ap (λ xs. c.loop-rule.out.items ++ xs) (sym (ligatures-text-done c.args.rules.now c.loop-rule.rule-index past))
    ∙ c.loop-rule.invariant
