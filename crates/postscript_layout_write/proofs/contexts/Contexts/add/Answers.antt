use Rattle.std.proofs.Common.{◌∙◌, sym, subst, Bool, false}
use Rattle.std.specs.Prelude.{if◌then◌else◌}
use Rattle.std.proofs.lemmas.Bool.{eq-eqb}
use Rattle.postscript_layout.specs.Numbers.{word}
use Rattle.postscript_layout_write.specs.ContextRules.{by_rules}
use Rattle.postscript_layout_write.specs.Contexts.{context_of}
use Rattle.postscript_layout_write.specs.Coverages.{AddsContexts}
use Rattle.postscript_layout_write.specs.Sequences.{if_applies}
use Rattle.postscript_layout_write.proofs.RuleReading.{not-eq}
use Rattle.postscript_layout_write.proofs.contexts.Contexts.add.Goals as goal

pub returns-then-word-eq3-clause-added : goal.returns-then-word-eq3-clause-added
returns-then-word-eq3-clause-added c =
    let gsub = c.args.source.now.gsub.now in
    let kept = c.args.source.now.kept.now in
    let s = c.args.subtable in
    subst (λ (b : Bool). AddsContexts false (if b then if_applies (context_of gsub kept c.args.kind s) else by_rules gsub kept c.args.kind s) c.args.self.now c.add_covered.new.self)
    (sym (eq-eqb (word gsub s) 3 (sym c.word.ensures.exact ∙ c.if-word-eq3.true))) c.in_ok-add_covered.ensures.added

pub returns-clause-added : goal.returns-clause-added
returns-clause-added c =
    let gsub = c.args.source.now.gsub.now in
    let kept = c.args.source.now.kept.now in
    let s = c.args.subtable in
    subst (λ (b : Bool). AddsContexts false (if b then if_applies (context_of gsub kept c.args.kind s) else by_rules gsub kept c.args.kind s) c.args.self.now c.add_by_rules.new.self)
    (sym (not-eq (word gsub s) 3 (λ is. c.if-word-eq3.false (c.word.ensures.exact ∙ is)))) c.in_ok-add_by_rules.ensures.added
