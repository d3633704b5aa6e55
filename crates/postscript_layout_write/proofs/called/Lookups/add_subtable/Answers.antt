use Rattle.std.proofs.Common.{◌∙◌, sym, subst, Bool}
use Rattle.std.proofs.lemmas.Bool.{eq-eqb}
use Rattle.postscript_layout.specs.Numbers.{word}
use Rattle.postscript_layout_write.specs.Calls.{AppliesTo, CallsBy}
use Rattle.postscript_layout_write.specs.Contexts.{context_by}
use Rattle.postscript_layout_write.specs.Reaching.{AddsOnly}
use Rattle.postscript_layout_write.specs.declared.contexts.Parts.{Parts}
use Rattle.postscript_layout_write.proofs.RuleReading.{not-eq}
use Rattle.postscript_layout_write.proofs.called.Lookups.add_subtable.Goals as goal

pub returns-then-word-eq3-clause-added : goal.returns-then-word-eq3-clause-added
returns-then-word-eq3-clause-added c =
    let gsub = c.args.source.now.gsub.now in
    let kept = c.args.source.now.kept.now in
    let s = c.args.subtable in
    let old = c.args.self.now.lookups.items in
    let new = c.add_context.new.self.lookups.items in
    let parts = c.parts_of-parts.result in
    subst (λ (b : Bool). AddsOnly (CallsBy gsub kept c.args.kind s b) old new) (sym (eq-eqb (word gsub s) 3 (sym c.word.ensures.exact ∙ c.if-word-eq3.true)))
    (subst (λ (p : Parts). AddsOnly (AppliesTo gsub (context_by gsub kept s p) p) old new) c.parts_of-parts.ensures.exact
    (c.in_ok-add_context.ensures.added (context_by gsub kept s parts) c.in_ok-applies.ensures.exact))

pub returns-clause-added : goal.returns-clause-added
returns-clause-added c =
    let gsub = c.args.source.now.gsub.now in
    let kept = c.args.source.now.kept.now in
    let s = c.args.subtable in
    subst (λ (b : Bool). AddsOnly (CallsBy gsub kept c.args.kind s b) c.args.self.now.lookups.items c.add_sets.new.self.lookups.items)
    (sym (not-eq (word gsub s) 3 (λ is. c.if-word-eq3.false (c.word.ensures.exact ∙ is)))) c.in_ok-add_sets.ensures.added
