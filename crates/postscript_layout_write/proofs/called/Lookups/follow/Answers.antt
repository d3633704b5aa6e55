use Rattle.std.proofs.Common.{◌≡◌, ◌+◌, ◌*◌, ◌<◌, ◌∙◌, ap, sym, subst, true, ℕ, arith}
use Rattle.postscript_layout.specs.Numbers.{word}
use Rattle.postscript_layout_write.specs.Calls.{Calls, CallsAt}
use Rattle.postscript_layout_write.specs.Contexts.{is_contextual}
use Rattle.postscript_layout_write.specs.Pairs.{lookup_at, lookups_of}
use Rattle.postscript_layout_write.specs.Reaching.{AddsOnly}
use Rattle.postscript_layout_write.proofs.Reaching.{adds-so}
use Rattle.postscript_layout_write.proofs.called.Lookups.follow.Goals as goal

pub returns-in_ok-add_contexts-clause-added : goal.returns-in_ok-add_contexts-clause-added
returns-in_ok-add_contexts-clause-added c =
    let gsub = c.args.source.now.gsub.now in
    let kept = c.args.source.now.kept.now in
    let i = c.args.i in
    let list = c.word-list.ensures.exact in
    let place : c.word-list.result + c.word-2.result ≡ lookup_at gsub i = ap (λ (n : ℕ). c.word-list.result + n) c.word-2.ensures.exact
    ∙ ap (λ (n : ℕ). n + word gsub (n + 2 + i * 2)) list in
    let many : c.word.result ≡ lookups_of gsub = c.word.ensures.exact ∙ ap (word gsub) list in
    let below : i < lookups_of gsub = (let less = c.if-i-word.false in omega (arith, less, many)) in
    let contextual : is_contextual gsub (lookup_at gsub i) ≡ true = ap (is_contextual gsub) (sym place) ∙ sym c.is_contextual.ensures ∙ c.if-is_contextual.true in
    adds-so (λ m. (j : ℕ) × CallsAt gsub kept (lookup_at gsub i) j m) (Calls gsub kept i) c.args.self.now.lookups.items c.add_contexts.new.self.lookups.items
    (λ m one. record { there = below; contextual = contextual; j = one.0; calls = one.1 })
    (λ m calls. (calls.j, calls.calls))
    (subst (λ p. AddsOnly (λ m. (j : ℕ) × CallsAt gsub kept p j m) c.args.self.now.lookups.items c.add_contexts.new.self.lookups.items) place
    c.in_ok-add_contexts.ensures.added)
