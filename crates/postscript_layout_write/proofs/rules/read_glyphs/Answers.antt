use Rattle.std.proofs.Common.{◌+◌, ◌*◌, ◌++◌, ◌∷◌, [], ◌∙◌, ◌<◌, ap, sym, subst, List, ℕ, arith}
use Rattle.std.specs.List.{All}
use Rattle.std.proofs.lemmas.List.{append_assoc}
use Rattle.std.proofs.lemmas.List.Elements.{All-append, All-cons, All-nil}
use Rattle.postscript_layout.specs.Numbers.{word, words}
use Rattle.postscript_layout_write.proofs.RuleRows.{words-more}
use Rattle.postscript_layout_write.proofs.rules.read_glyphs.Goals as goal

pub loop-k-preserved : goal.loop-k-preserved
loop-k-preserved c =
    let gsub = c.args.gsub.now in
    let offset = c.args.offset in
    let k = c.loop-k.k in
    let old = c.args.out.now.items in
    record {
      read = c.in_ok-push.ensures.items ∙ ap (λ n. c.loop-k.out.items ++ n ∷ []) c.word-glyph.ensures.exact
          ∙ ap (λ xs. xs ++ word gsub (offset + k * 2) ∷ []) c.loop-k.invariant.read
          ∙ append_assoc old (words gsub offset k) (word gsub (offset + k * 2) ∷ [])
          ∙ ap (λ xs. old ++ xs) (sym (words-more gsub offset k));
      small = subst (λ (xs : List ℕ). All (λ number. number < 65536) xs) (sym (words-more gsub offset k))
          (All-append (λ number. number < 65536) (words gsub offset k) (word gsub (offset + k * 2) ∷ []) c.loop-k.invariant.small
          (All-cons (λ number. number < 65536) (word gsub (offset + k * 2)) []
          (subst (λ n. n < 65536) c.word-glyph.ensures.exact c.word-glyph.ensures.small) (All-nil (λ number. number < 65536))));
      spent = omega (arith, c.pay.ensures.spends, c.loop-k.invariant.spent);
    }
