use Rattle.std.proofs.Common.{◌≡◌, ◌+◌, ◌*◌, ◌<◌, ◌≤◌, ◌++◌, ◌∙◌, ap, sym, subst, drop, length, append-nil, arith}
use Rattle.std.proofs.lemmas.List.{append_assoc}
use Rattle.postscript_layout_write.specs.RuleSets.{IsShort, PlacesFit, lists, places_text}
use Rattle.postscript_layout_write.specs.Text.{uint16}
use Rattle.postscript_layout_write.proofs.RuleWriting.{at-item, fit-more, places-done, places-more}
use Rattle.postscript_layout_write.proofs.rule_sets.put_places.Goals as goal

pub overflow_add-at : goal.overflow_add-at
overflow_add-at c =
    let less : c.loop-rule.rule-index < length c.args.rules.now = omega arith in
    let short = at-item IsShort c.args.rules.now c.loop-rule.rule-index c.rule-item.result less c.rule-item.is c.requires.short in
    let long = c.len.ensures in
    omega (arith, short, long)

pub overflow_add-at-in-loop-rule : goal.overflow_add-at-in-loop-rule
overflow_add-at-in-loop-rule c =
    let less : c.loop-rule.rule-index < length c.args.rules.now = omega arith in
    let short = at-item IsShort c.args.rules.now c.loop-rule.rule-index c.rule-item.result less c.rule-item.is c.requires.short in
    let long = c.len.ensures in
    let low = c.if-at-gt65535.false in
    omega (arith, short, long, low)

pub loop-rule-preserved : goal.loop-rule-preserved
loop-rule-preserved c =
    let rules = c.args.rules.now in
    let i = c.loop-rule.rule-index in
    let at = c.loop-rule.at in
    let rule = c.rule-item.result in
    let less : i < length rules = omega arith in
    let long = c.len.ensures in
    let low = c.if-at-gt65535.false in
    let next : at + 2 + length rule.items * 2 ≡ at + (2 + c.len.result * 2) = omega (arith, long) in
    record {
      text = ap (λ xs. xs ++ places_text (at + (2 + c.len.result * 2)) (lists (drop (i + 1) rules))) c.in_ok-put_uint16.ensures
          ∙ append_assoc c.loop-rule.out.items _ _
          ∙ ap (λ xs. c.loop-rule.out.items ++ xs) (sym (places-more at rules i rule less c.rule-item.is
          ∙ ap (λ n. uint16 at ++ places_text n (lists (drop (i + 1) rules))) next))
          ∙ c.loop-rule.invariant.text;
      fit = λ rest. c.loop-rule.invariant.fit (fit-more at rules i rule less c.rule-item.is (omega (arith, low))
          (subst (λ n. PlacesFit n (lists (drop (i + 1) rules))) (sym next) rest));
    }

pub returns-clause-text : goal.returns-clause-text
returns-clause-text c =
    let past : length c.args.rules.now ≤ c.loop-rule.rule-index = omega arith in
    sym (append-nil c.loop-rule.out.items)
    ∙ ap (λ xs. c.loop-rule.out.items ++ xs) (sym (places-done c.loop-rule.at c.args.rules.now c.loop-rule.rule-index past))
    ∙ c.loop-rule.invariant.text
