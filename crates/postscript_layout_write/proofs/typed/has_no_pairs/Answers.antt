use Rattle.std.proofs.Common.{◌≡◌, ◌<◌, ◌∙◌, sym, ap, subst, inl, inr, ℕ, None, true, false}
use Rattle.std.specs.Prelude.{Option, is_none, is_some}
use Rattle.postscript_layout_write.specs.Pairs.{pairs_at}
use Rattle.postscript_layout_write.proofs.Firsts.{first-found, option_cases}
use Rattle.postscript_layout_write.proofs.typed.has_no_pairs.Goals as goal

pub returns-then-is_some-clause-exact : goal.returns-then-is_some-clause-exact
returns-then-is_some-clause-exact c =
    let gpos = c.args.gpos.now in
    let f : ℕ → Option ℕ = λ j. pairs_at gpos c.args.lookup j in
    let here : c.pairs_at.result ≡ f c.loop-j.j = c.pairs_at.ensures.exact in
    elim (option_cases (f c.loop-j.j)) [
      | inl none ↦ (let e : c.pairs_at.result ≡ None = here ∙ none in let t = ap is_some e in let never : true ≡ false = c.if-is_some.ensures ∙ t in absurd (cc))
      | inr some ↦ sym (ap is_none (first-found f c.loop-j.j _ some.0 c.loop-j.invariant.before some.1
          (subst (λ n. c.loop-j.j < n) c.word-count.ensures.exact c.loop-j-test.true)))
    ]
