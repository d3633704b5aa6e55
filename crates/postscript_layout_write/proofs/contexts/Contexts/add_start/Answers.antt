use Rattle.std.proofs.Common.{◌≡◌, ◌∙◌, [], ap, sym, subst, ℕ, List, false}
use Rattle.std.specs.Prelude.{Option}
use Rattle.postscript_layout.specs.Numbers.{word}
use Rattle.postscript_layout_write.specs.ContextRules.{labelled, rules_in}
use Rattle.postscript_layout_write.specs.Coverages.{AddsContexts}
use Rattle.postscript_layout_write.specs.Labels.{having}
use Rattle.postscript_layout_write.specs.Sequences.{Context}
use Rattle.postscript_layout_write.specs.declared.labels.Role.TheVariants.{Start}
use Rattle.postscript_layout_write.proofs.ContextCollecting.{adds-nothing}
use Rattle.postscript_layout_write.proofs.Labelling.{having-same, listed-rules, never-rules, no-glyph}
use Rattle.postscript_layout_write.proofs.contexts.Contexts.add_start.Goals as goal

pub returns-then-not-is_some_glyph-clause-added : goal.returns-then-not-is_some_glyph-clause-added
returns-then-not-is_some_glyph-clause-added c =
    let gsub = c.args.source.now.gsub.now in
    let kept = c.args.source.now.kept.now in
    let s = c.args.subtable in
    let labels = c.args.labels.now in
    let i = c.args.i in
    let old = c.args.self.now in
    let none : labelled gsub kept c.args.kind s Start i ≡ [] = sym (having-same gsub kept c.args.kind s Start labels.start.items c.requires.exact.start i)
    ∙ sym (c.deref-2.ensures.value ∙ c.in_ok-start.ensures.exact ∙ ap (λ (ls : List (Option ℕ)). having ls i) c.deref.ensures.value)
    ∙ no-glyph c.deref-2.result.now (sym c.is_some_glyph.ensures ∙ c.if-not-is_some_glyph.true) in
    subst (λ (p : Option ℕ). AddsContexts false (rules_in gsub kept c.args.kind s i p) old old) (sym (sym c.set_of.ensures.exact ∙ c.in-Some.is))
    (subst (λ (xs : List Context). AddsContexts false xs old old) (sym (never-rules gsub kept c.args.kind s i c.in-Some.set (word gsub c.in-Some.set) none)) (adds-nothing old))

pub returns-clause-added : goal.returns-clause-added
returns-clause-added c =
    let gsub = c.args.source.now.gsub.now in
    let kept = c.args.source.now.kept.now in
    let s = c.args.subtable in
    let labels = c.args.labels.now in
    let i = c.args.i in
    let old = c.args.self.now in
    let new = c.add_set.new.self in
    let set = c.in-Some.set in
    let start : c.deref-3.result.now ≡ labelled gsub kept c.args.kind s Start i = c.deref-3.ensures.value ∙ c.in_ok-start.ensures.exact
    ∙ ap (λ (ls : List (Option ℕ)). having ls i) c.deref.ensures.value ∙ having-same gsub kept c.args.kind s Start labels.start.items c.requires.exact.start i in
    subst (λ (p : Option ℕ). AddsContexts false (rules_in gsub kept c.args.kind s i p) old new) (sym (sym c.set_of.ensures.exact ∙ c.in-Some.is))
    (subst (λ (xs : List Context). AddsContexts false xs old new)
    (listed-rules gsub kept c.args.kind s labels c.requires.exact i c.deref-3.result.now start set (word gsub set)) c.in_ok-add_set.ensures.added)
