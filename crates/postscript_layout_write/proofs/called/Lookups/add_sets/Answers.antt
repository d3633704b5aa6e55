use Rattle.std.proofs.Common.{◌≡◌, ◌<◌, ◌∙◌, ap, subst, ℕ, arith}
use Rattle.postscript_layout.specs.Numbers.{word}
use Rattle.postscript_layout_write.specs.Calls.{CallsInSet}
use Rattle.postscript_layout_write.specs.ContextRules.{set_of}
use Rattle.postscript_layout_write.specs.Reaching.{AddsOnly}
use Rattle.postscript_layout_write.proofs.Reaching.{below-step}
use Rattle.postscript_layout_write.proofs.called.Lookups.add_sets.Goals as goal

pub loop-i-preserved : goal.loop-i-preserved
loop-i-preserved c =
    let gsub = c.args.source.now.gsub.now in
    let kept = c.args.source.now.kept.now in
    record {
      added = below-step (λ i m. CallsInSet gsub kept c.args.kind c.args.subtable i (set_of gsub c.args.kind c.args.subtable i) m) c.loop-i.i _ _ _ c.loop-i.invariant.added
          c.in_ok-add_set.ensures.added;
      spent = omega (arith, c.pay.ensures.spends, c.add_set.ensures.spends, c.loop-i.invariant.spent);
    }

pub returns-clause-added : goal.returns-clause-added
returns-clause-added c =
    let gsub = c.args.source.now.gsub.now in
    let kept = c.args.source.now.kept.now in
    let all : c.loop-i.i ≡ c.word-count.result = omega arith in
    subst (λ n. AddsOnly (λ m. (i : ℕ) × (i < n) × CallsInSet gsub kept c.args.kind c.args.subtable i (set_of gsub c.args.kind c.args.subtable i) m)
    c.args.self.now.lookups.items c.loop-i.self.lookups.items) (all ∙ c.word-count.ensures.exact ∙ ap (word gsub) c.sets_of.ensures.exact) c.loop-i.invariant.added
