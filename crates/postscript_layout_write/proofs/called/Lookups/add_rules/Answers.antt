use Rattle.std.proofs.Common.{◌≡◌, ◌∙◌, ap, subst, arith}
use Rattle.postscript_layout_write.specs.Calls.{AppliesTo}
use Rattle.postscript_layout_write.specs.ContextRules.{rule_of, rule_parts}
use Rattle.postscript_layout_write.specs.Labels.{listed_context}
use Rattle.postscript_layout_write.specs.Reaching.{AddsOnly, ListedCalls}
use Rattle.postscript_layout_write.specs.declared.contexts.Parts.{Parts}
use Rattle.postscript_layout_write.proofs.Reaching.{below-step}
use Rattle.postscript_layout_write.proofs.called.Lookups.add_rules.Goals as goal

pub loop-k-preserved : goal.loop-k-preserved
loop-k-preserved c =
    let gsub = c.args.gsub.now in
    let labels = c.args.labels.now in
    let start = c.args.start.now in
    let parts : c.rule_parts-parts.result ≡ rule_parts gsub c.args.kind (rule_of gsub c.args.set c.loop-k.k) =
    c.rule_parts-parts.ensures.exact ∙ ap (rule_parts gsub c.args.kind) c.rule_of.ensures.exact in
    let context = listed_context gsub labels start c.rule_parts-parts.result in
    record {
      added = below-step (λ k m. AppliesTo gsub (listed_context gsub labels start (rule_parts gsub c.args.kind (rule_of gsub c.args.set k)))
          (rule_parts gsub c.args.kind (rule_of gsub c.args.set k)) m) c.loop-k.k _ _ _ c.loop-k.invariant.added
          (subst (λ (p : Parts). AddsOnly (AppliesTo gsub (listed_context gsub labels start p) p) c.loop-k.self.lookups.items c.add_context.new.self.lookups.items) parts
          (c.in_ok-add_context.ensures.added context c.in_ok-applies.ensures.exact));
      spent = omega (arith, c.pay.ensures.spends, c.rule_applies.ensures.spends, c.add_context.ensures.spends, c.loop-k.invariant.spent);
    }

pub returns-clause-added : goal.returns-clause-added
returns-clause-added c =
    let all : c.loop-k.k ≡ c.word-count.result = omega arith in
    subst (λ n. AddsOnly (ListedCalls c.args.gsub.now c.args.kind c.args.labels.now c.args.start.now c.args.set n) c.args.self.now.lookups.items
    c.loop-k.self.lookups.items) (all ∙ c.word-count.ensures.exact) c.loop-k.invariant.added
