use Rattle.std.proofs.Common.{◌≡◌, ◌∙◌, ◌<◌, ap, sym, subst, ℕ, List, [], get_or, length, arith}
use Rattle.std.specs.Prelude.{◌⊎◌}
use Rattle.postscript_layout_write.specs.Renumbering.{kept_rules}
use Rattle.postscript_layout_write.specs.RuleSets.{AddsRules, AreOfType, lists}
use Rattle.postscript_layout_write.specs.Rules.{rules_of_type}
use Rattle.postscript_layout_write.specs.Substituting.{rules_at}
use Rattle.postscript_layout_write.proofs.RuleCollecting.{rule-sets-more, rules-kept}
use Rattle.postscript_layout_write.proofs.RuleRows.{of-type}
use Rattle.postscript_layout_write.proofs.substituting.sets_of.Goals as goal

pub add_rules-requires : goal.add_rules-requires
add_rules-requires c = subst (λ (xs : List (List ℕ)). (xs ≡ []) ⊎ AreOfType c.args.kind xs)
    (sym (ap lists c.deref.ensures.value ∙ c.in_ok-rules.ensures.exact))
    (of-type c.args.gsub.now c.args.kept.now c.args.lookup c.args.kind (get_or c.args.kept.now c.loop-k.k 0) c.requires.small)

pub loop-k-preserved : goal.loop-k-preserved
loop-k-preserved c =
    let gsub = c.args.gsub.now in
    let kept = c.args.kept.now in
    let k = c.loop-k.k in
    let old = c.loop-k.sets in
    let new = c.add_rules.new.self in
    let less : k < length kept = omega arith in
    let are = ap lists c.deref.ensures.value ∙ c.in_ok-rules.ensures.exact
    ∙ ap (λ t. kept_rules kept (rules_of_type gsub c.args.lookup t (get_or kept k 0))) c.requires.kind
    ∙ sym (rules-kept gsub kept c.args.lookup k less) in
    record {
      sets = rule-sets-more c.args.kind (rules_at gsub kept c.args.lookup) k old.firsts.items old.offsets.items old.bytes.items
          new.firsts.items new.offsets.items new.bytes.items
          (subst (λ (xs : List (List ℕ)). AddsRules c.args.kind k xs old.firsts.items old.offsets.items old.bytes.items new.firsts.items new.offsets.items new.bytes.items)
          are c.in_ok-add_rules.ensures.done)
          c.loop-k.invariant.sets;
      spent = omega (arith, c.pay.ensures.spends, c.new_rules.ensures.spends, c.loop-k.invariant.spent);
    }
