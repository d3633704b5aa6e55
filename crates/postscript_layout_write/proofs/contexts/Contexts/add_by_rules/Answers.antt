use Rattle.std.proofs.Common.{◌≡◌, ◌∙◌, ap, subst, ℕ, List, arith, false}
use Rattle.postscript_layout.specs.Numbers.{word}
use Rattle.postscript_layout_write.specs.ContextRules.{rules_in, set_of, sets_below}
use Rattle.postscript_layout_write.specs.Coverages.{AddsContexts}
use Rattle.postscript_layout_write.specs.Sequences.{Context}
use Rattle.postscript_layout_write.proofs.ContextCollecting.{adds-below, adds-nothing}
use Rattle.postscript_layout_write.proofs.contexts.Contexts.add_by_rules.Goals as goal

pub loop-i-init : goal.loop-i-init
loop-i-init c = record { added = adds-nothing c.args.self.now; spent = omega (arith, c.labels_of.ensures.spends) }

pub loop-i-preserved : goal.loop-i-preserved
loop-i-preserved c =
    let gsub = c.args.source.now.gsub.now in
    let kept = c.args.source.now.kept.now in
    let f : ℕ → List Context = λ i. rules_in gsub kept c.args.kind c.args.subtable i (set_of gsub c.args.kind c.args.subtable i) in
    record {
      added = adds-below f c.loop-i.i c.args.self.now c.loop-i.self c.add_start.new.self c.loop-i.invariant.added c.in_ok-add_start.ensures.added;
      spent = omega (arith, c.pay.ensures.spends, c.add_start.ensures.spends, c.loop-i.invariant.spent);
    }

pub returns-clause-added : goal.returns-clause-added
returns-clause-added c =
    let gsub = c.args.source.now.gsub.now in
    let all : c.loop-i.i ≡ c.word-count.result = omega arith in
    subst (λ n. AddsContexts false (sets_below gsub c.args.source.now.kept.now c.args.kind c.args.subtable n) c.args.self.now c.loop-i.self)
    (all ∙ c.word-count.ensures.exact ∙ ap (word gsub) c.sets_of.ensures.exact) c.loop-i.invariant.added
