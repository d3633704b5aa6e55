use Rattle.std.proofs.Common.{◌≡◌, ◌∙◌, ap, subst, ℕ, List, arith, false}
use Rattle.postscript_layout_write.specs.ContextRules.{rule_of, rule_parts}
use Rattle.postscript_layout_write.specs.Coverages.{AddsContexts}
use Rattle.postscript_layout_write.specs.Labels.{listed_below, listed_context}
use Rattle.postscript_layout_write.specs.Sequences.{Context, if_applies}
use Rattle.postscript_layout_write.specs.declared.contexts.Parts.{Parts}
use Rattle.postscript_layout_write.proofs.ContextCollecting.{adds-below, adds-nothing}
use Rattle.postscript_layout_write.proofs.contexts.Contexts.add_set.Goals as goal

pub loop-r-init : goal.loop-r-init
loop-r-init c = record { added = adds-nothing c.args.self.now; spent = omega arith }

pub loop-r-preserved : goal.loop-r-preserved
loop-r-preserved c =
    let gsub = c.args.gsub.now in
    let f : ℕ → List Context = λ r. if_applies (listed_context gsub c.args.labels.now c.args.start.now (rule_parts gsub c.args.kind (rule_of gsub c.args.set r))) in
    let parts : c.rule_parts-parts.result ≡ rule_parts gsub c.args.kind (rule_of gsub c.args.set c.loop-r.r) =
    c.rule_parts-parts.ensures.exact ∙ ap (rule_parts gsub c.args.kind) c.rule_of.ensures.exact in
    record {
      added = adds-below f c.loop-r.r c.args.self.now c.loop-r.self c.add_rule.new.self c.loop-r.invariant.added
          (subst (λ (p : Parts). AddsContexts false (if_applies (listed_context gsub c.args.labels.now c.args.start.now p)) c.loop-r.self c.add_rule.new.self) parts
          c.in_ok-add_rule.ensures.added);
      spent = omega (arith, c.pay.ensures.spends, c.add_rule.ensures.spends, c.loop-r.invariant.spent);
    }

pub returns-clause-added : goal.returns-clause-added
returns-clause-added c =
    let all : c.loop-r.r ≡ c.word-count.result = omega arith in
    subst (λ n. AddsContexts false (listed_below c.args.gsub.now c.args.kind c.args.labels.now c.args.start.now c.args.set n) c.args.self.now c.loop-r.self)
    (all ∙ c.word-count.ensures.exact) c.loop-r.invariant.added
