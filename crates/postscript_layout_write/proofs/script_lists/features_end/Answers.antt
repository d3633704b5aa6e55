use Rattle.std.proofs.Common.{◌≡◌, ◌<◌, ◌+◌, ◌*◌, ◌∙◌, ap, ℕ, subst, sym, arith, below_more}
use Rattle.postscript_layout.specs.Numbers.{word, long}
use Rattle.postscript_layout_write.specs.ScriptLists.{FeatureEnds, named}
use Rattle.postscript_layout_write.proofs.Ends.{feature-up}
use Rattle.postscript_layout_write.proofs.script_lists.features_end.Goals as goal

pub loop-i-preserved : goal.loop-i-preserved
loop-i-preserved c =
    let gpos = c.args.gpos.now in
    let list = word gpos 6 in
    let old = c.loop-i.end in
    let end = c.later-end.result in
    let i = c.loop-i.i in
    let tag = c.long-tag.result in
    let place : c.table_at.result ≡ named gpos list (list + 2) i = c.table_at.ensures.exact ∙ ap (λ (l : ℕ). named gpos l (l + 2) i) c.word-list.ensures.exact in
    let tagged : tag ≡ long gpos (list + 2 + i * 6) = c.long-tag.ensures.exact ∙ ap (λ (l : ℕ). long gpos (l + 2 + i * 6)) c.word-list.ensures.exact in
    let P : ℕ → Type 0 = λ k. FeatureEnds gpos end (long gpos (list + 2 + k * 6)) (named gpos list (list + 2) k) in
    let here : P i = subst (λ (t : ℕ). FeatureEnds gpos end t (named gpos list (list + 2) i)) tagged
    (subst (λ (t : ℕ). FeatureEnds gpos end tag t) place
    (feature-up gpos c.feature_end.result end tag c.table_at.result c.feature_end.ensures.holds c.later-end.ensures.b)) in
    let within : i < word gpos list = subst (λ (n : ℕ). i < n) (c.word-count.ensures.exact ∙ ap (word gpos) c.word-list.ensures.exact) c.loop-i-test.true in
    record {
      records = omega (arith, c.loop-i.invariant.records, c.later-end.ensures.a);
      features = below_more P i
          (λ k less. feature-up gpos old end (long gpos (list + 2 + k * 6)) (named gpos list (list + 2) k) (c.loop-i.invariant.features k less) c.later-end.ensures.a) here;
      least = λ m ends. c.later-end.ensures.least m (c.loop-i.invariant.least m ends)
          (c.feature_end.ensures.least m (subst (λ (t : ℕ). FeatureEnds gpos m tag t) (sym place)
          (subst (λ (t : ℕ). FeatureEnds gpos m t (named gpos list (list + 2) i)) (sym tagged) (ends.features i within))));
      spent = omega (arith, c.pay.ensures.spends, c.loop-i.invariant.spent);
    }
