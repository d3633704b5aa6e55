use Rattle.std.proofs.Common.{◌≡◌, ◌+◌, ◌*◌, ◌<◌, ◌∙◌, sym, subst, ℕ, arith}
use Rattle.postscript_layout.specs.Numbers.{word}
use Rattle.postscript_layout_write.specs.Calls.{IsNamedBy}
use Rattle.postscript_layout_write.specs.Reaching.{AddsOnly}
use Rattle.postscript_layout_write.proofs.Reaching.{adds-so, below-step}
use Rattle.postscript_layout_write.proofs.called.Lookups.add_named.Goals as goal

pub loop-r-preserved : goal.loop-r-preserved
loop-r-preserved c =
    let gsub = c.args.gsub.now in
    let at = c.args.parts.actions_at in
    let r = c.loop-r.r in
    let exact = c.word.ensures.exact in
    record {
      added = below-step (λ i m. word gsub (at + i * 4 + 2) ≡ m) r _ _ _ c.loop-r.invariant.added
          (adds-so (λ m. m ≡ c.word.result) (λ m. word gsub (at + r * 4 + 2) ≡ m) _ _ (λ m is. sym (is ∙ exact)) (λ m is. sym (exact ∙ is)) c.in_ok-add.ensures.added);
      spent = omega (arith, c.pay.ensures.spends, c.loop-r.invariant.spent);
    }

pub returns-clause-added : goal.returns-clause-added
returns-clause-added c =
    let all : c.loop-r.r ≡ c.args.parts.actions = omega arith in
    let old = c.args.self.now.lookups.items in
    let new = c.loop-r.self.lookups.items in
    let parts = c.args.parts in
    let gsub = c.args.gsub.now in
    adds-so (λ m. (r : ℕ) × (r < parts.actions) × (word gsub (parts.actions_at + r * 4 + 2) ≡ m)) (λ m. (r : ℕ) × IsNamedBy gsub parts r m) old new
    (λ m one. (one.0, (one.1, one.2))) (λ m one. (one.0, one.1.0, one.1.1))
    (subst (λ k. AddsOnly (λ m. (r : ℕ) × (r < k) × (word gsub (parts.actions_at + r * 4 + 2) ≡ m)) old new) all c.loop-r.invariant.added)
