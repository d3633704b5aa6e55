use Rattle.std.proofs.Common.{◌++◌, ◌∙◌, ap, subst, List, ℕ}
use Rattle.postscript_layout_write.specs.Holds.{Holds}
use Rattle.postscript_layout_write.specs.RuleSets.{IsShort, has_ligatures, has_several, ligature_set_text, lists, several_text}
use Rattle.postscript_layout_write.proofs.RuleWriting.{at-item, first-rule, ligatures-are, several-rule}
use Rattle.postscript_layout_write.proofs.subtables.Sets.place_rules.Goals.{then-kind-eq4+in_ok-put_ligatures, else-kind-eq4+in_ok-put_several}
use Rattle.postscript_layout_write.proofs.subtables.Sets.place_rules.Goals as goal

pub returns-clause-placed : goal.returns-clause-placed
returns-clause-placed c =
    let rules = c.args.rules.now in
    let kind = c.args.kind in
    let rule = c.index-rules-0.result in
    let new = c.place.new.self.bytes.items in
    let offset = c.in_ok-offset.offset in
    let there = c.in_ok-offset.ensures.placed.there in
    elim c.if-kind-eq4.branch [
      | then-kind-eq4+in_ok-put_ligatures w ↦ has_ligatures w.if-kind-eq4.true (ligatures-are kind (lists rules) c.requires.rules w.if-kind-eq4.true) c.requires.short
          w.in_ok-put_ligatures.ensures.fit w.in_ok-put_ligatures.ensures.few
          (subst (λ (xs : List ℕ). Holds xs new offset) (c.deref-2.ensures.value ∙ ap (λ v. v.items) w.text-is ∙ w.in_ok-put_ligatures.ensures.text
          ∙ ap (λ xs. xs ++ ligature_set_text (lists rules)) c.new-text.ensures.items) there)
      | else-kind-eq4+in_ok-put_several w ↦ (let first = first-rule rules rule c.requires.some c.index-rules-0.is in
          let one = several-rule kind (lists rules) rule.items first.0 c.requires.rules c.if-kind-eq1.false w.if-kind-eq4.false first.1 in
          has_several rule.items c.if-kind-eq1.false w.if-kind-eq4.false one.0 (at-item IsShort rules 0 rule c.requires.some c.index-rules-0.is c.requires.short) one.1
          (subst (λ (xs : List ℕ). Holds xs new offset) (c.deref-2.ensures.value ∙ ap (λ v. v.items) w.text-is ∙ w.in_ok-put_several.ensures.text
          ∙ ap (λ xs. xs ++ several_text w.deref.result.now) c.new-text.ensures.items ∙ ap several_text w.deref.ensures.value) there))
    ]
