use Rattle.std.proofs.Common.{◌≡◌, ◌+◌, ◌*◌, ◌∙◌, ◌&&◌, ap, sym, ℕ, List, Bool, arith}
use Rattle.std.proofs.lemmas.List.FromFn.{map-range_with_len_more}
use Rattle.postscript_layout.specs.Numbers.{word}
use Rattle.postscript_layout_write.specs.Labels.{having, having_at}
use Rattle.postscript_layout_write.specs.Sequences.{all_some, is_some_glyph}
use Rattle.postscript_layout_write.proofs.ContextCollecting.{all-some-more}
use Rattle.postscript_layout_write.proofs.applying.all_labelled.Goals as goal

pub loop-p-preserved : goal.loop-p-preserved
loop-p-preserved c =
    let gsub = c.args.gsub.now in
    let labels = c.args.labels.now in
    let p = c.loop-p.p in
    let before : List (List ℕ) = having_at gsub labels c.args.array p in
    let set : List ℕ = having labels (word gsub (c.args.array + p * 2)) in
    let glyphs : c.deref.result.now ≡ set = c.deref.ensures.value ∙ c.in_ok-glyphs.ensures.exact ∙ ap (having labels) c.word-number.ensures.exact in
    let more = map-range_with_len_more (λ (q : ℕ). having labels (word gsub (c.args.array + q * 2))) 0 p p (omega arith) in
    record {
      exact = c.both-all.ensures ∙ ap (λ (b : Bool). b && c.is_some_glyph.result) c.loop-p.invariant.exact
          ∙ ap (λ (b : Bool). all_some before && b) (c.is_some_glyph.ensures ∙ ap is_some_glyph glyphs)
          ∙ sym (all-some-more before set) ∙ sym (ap all_some more);
      spent = omega (arith, c.pay.ensures.spends, c.with_label.ensures.spends, c.loop-p.invariant.spent);
    }
