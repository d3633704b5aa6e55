use Rattle.std.proofs.Common.{◌≡◌, ◌+◌, ◌*◌, ◌∙◌, ◌&&◌, ap, sym, ℕ, List, Bool, arith}
use Rattle.postscript_layout.specs.Numbers.{word}
use Rattle.postscript_layout_write.specs.Contexts.{sets_at}
use Rattle.postscript_layout_write.specs.Sequences.{all_some, covered_of, is_some_glyph}
use Rattle.postscript_layout_write.proofs.ContextCollecting.{all-some-more, sets-more}
use Rattle.postscript_layout_write.proofs.applying.all_covered.Goals as goal

pub loop-p-preserved : goal.loop-p-preserved
loop-p-preserved c =
    let gsub = c.args.source.now.gsub.now in
    let kept = c.args.source.now.kept.now in
    let p = c.loop-p.p in
    let before : List (List ℕ) = sets_at gsub kept c.args.subtable c.args.array p in
    let set : List ℕ = covered_of gsub kept (c.args.subtable + word gsub (c.args.array + p * 2)) in
    let glyphs : c.deref.result.now ≡ set =
    c.deref.ensures.value ∙ c.in_ok-glyphs.ensures.exact ∙ ap (λ n. covered_of gsub kept (c.args.subtable + n)) c.word.ensures.exact in
    record {
      exact = c.both-all.ensures ∙ ap (λ (b : Bool). b && c.is_some_glyph.result) c.loop-p.invariant.exact
          ∙ ap (λ (b : Bool). all_some before && b) (c.is_some_glyph.ensures ∙ ap is_some_glyph glyphs)
          ∙ sym (all-some-more before set) ∙ sym (ap all_some (sets-more gsub kept c.args.subtable c.args.array p));
      spent = omega (arith, c.covered_of.ensures.spends, c.loop-p.invariant.spent);
    }
