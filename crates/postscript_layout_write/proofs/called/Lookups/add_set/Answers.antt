use Rattle.std.proofs.Common.{◌≡◌, ◌∙◌, ap, sym, subst, ℕ, List}
use Rattle.std.specs.Prelude.{Option, Some}
use Rattle.postscript_layout.specs.Numbers.{word}
use Rattle.postscript_layout_write.specs.Calls.{AppliesTo, CallsInSet}
use Rattle.postscript_layout_write.specs.ContextRules.{labelled, rule_context, rule_of, rule_parts}
use Rattle.postscript_layout_write.specs.Labels.{having, listed_context}
use Rattle.postscript_layout_write.specs.Reaching.{AddsOnly, ListedCalls}
use Rattle.postscript_layout_write.specs.Sequences.{Context}
use Rattle.postscript_layout_write.specs.declared.labels.Role.TheVariants.{Start}
use Rattle.postscript_layout_write.proofs.Labelling.{having-same, listed-same}
use Rattle.postscript_layout_write.proofs.Reaching.{adds-so}
use Rattle.postscript_layout_write.proofs.called.Lookups.add_set.Goals as goal

pub returns-clause-added : goal.returns-clause-added
returns-clause-added c =
    let gsub = c.args.source.now.gsub.now in
    let kept = c.args.source.now.kept.now in
    let kind = c.args.kind in
    let s = c.args.subtable in
    let labels = c.args.labels.now in
    let i = c.args.i in
    let set = c.in-Some.set in
    let old = c.args.self.now.lookups.items in
    let new = c.add_rules.new.self.lookups.items in
    let first = c.deref-2.result.now in
    let start : first ≡ labelled gsub kept kind s Start i = c.deref-2.ensures.value ∙ c.in_ok-start.ensures.exact
    ∙ ap (λ (ls : List (Option ℕ)). having ls i) c.deref.ensures.value ∙ having-same gsub kept kind s Start labels.start.items c.requires.exact.start i in
    let same : (k : ℕ) → listed_context gsub labels first (rule_parts gsub kind (rule_of gsub set k)) ≡
    rule_context gsub kept kind s i (rule_parts gsub kind (rule_of gsub set k)) =
    λ k. listed-same gsub kept kind s labels c.requires.exact i first start (rule_parts gsub kind (rule_of gsub set k)) in
    subst (λ (p : Option ℕ). AddsOnly (CallsInSet gsub kept kind s i p) old new) (sym (sym c.set_of.ensures.exact ∙ c.in-Some.is))
    (adds-so (ListedCalls gsub kind labels first set (word gsub set)) (CallsInSet gsub kept kind s i (Some set)) old new
    (λ m one. (one.0, one.1, subst (λ (x : Context). AppliesTo gsub x (rule_parts gsub kind (rule_of gsub set one.0)) m) (same one.0) one.2))
    (λ m one. (one.0, one.1, subst (λ (x : Context). AppliesTo gsub x (rule_parts gsub kind (rule_of gsub set one.0)) m) (sym (same one.0)) one.2))
    c.in_ok-add_rules.ensures.added)
