use Rattle.std.proofs.Common.{◌∙◌, [], sym, subst, true, Bool}
use Rattle.std.specs.Prelude.{if◌then◌else◌}
use Rattle.std.proofs.lemmas.Bool.{eq-eqb}
use Rattle.postscript_layout.specs.Numbers.{word}
use Rattle.postscript_layout_write.specs.Coverages.{AddsContexts}
use Rattle.postscript_layout_write.specs.Reverses.{reverse_of}
use Rattle.postscript_layout_write.specs.Sequences.{if_applies}
use Rattle.postscript_layout_write.proofs.ContextCollecting.{adds-nothing}
use Rattle.postscript_layout_write.proofs.RuleReading.{not-eq}
use Rattle.postscript_layout_write.proofs.contexts.Contexts.add_reverse.Goals as goal

pub returns-then-word-ne1-clause-added : goal.returns-then-word-ne1-clause-added
returns-then-word-ne1-clause-added c =
    let gsub = c.args.source.now.gsub.now in
    let s = c.args.subtable in
    let old = c.args.self.now in
    subst (λ (b : Bool). AddsContexts true (if b then if_applies (reverse_of gsub c.args.source.now.kept.now s) else []) old old)
    (sym (not-eq (word gsub s) 1 (λ is. c.if-word-ne1.true (c.word.ensures.exact ∙ is)))) (adds-nothing old)

pub add_made_reverse-requires : goal.add_made_reverse-requires
add_made_reverse-requires c = record { one = c.in_ok-made.ensures.exact.input.have.same }

pub returns-clause-added : goal.returns-clause-added
returns-clause-added c =
    let gsub = c.args.source.now.gsub.now in
    let s = c.args.subtable in
    let context = reverse_of gsub c.args.source.now.kept.now s in
    subst (λ (b : Bool). AddsContexts true (if b then if_applies context else []) c.args.self.now c.add_made_reverse.new.self)
    (sym (eq-eqb (word gsub s) 1 (sym c.word.ensures.exact ∙ c.if-word-ne1.false))) (c.in_ok-add_made_reverse.ensures.added context c.in_ok-made.ensures.exact)
