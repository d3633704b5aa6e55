use Rattle.std.proofs.Common.{◌≡◌, ◌+◌, ◌*◌, ◌∙◌, ◌++◌, ◌∷◌, [], ℕ, length, length-append, ap, sym, arith}
use Rattle.std.specs.Prelude.{None, Option, slice_index_or}
use Rattle.postscript_layout.specs.Numbers.{word}
use Rattle.postscript_layout_write.specs.Renumbering.{new_number}
use Rattle.postscript_layout_write.proofs.LanguageReading.{features-less, features-more, none-left}
use Rattle.postscript_layout_write.proofs.Renumbered.{number-small}
use Rattle.postscript_layout_write.proofs.languages.new_features.Goals.{in-Some+in_ok-push, in_default}
use Rattle.postscript_layout_write.proofs.languages.new_features.Goals as goal

pub overflow_cast-number : goal.overflow_cast-number
overflow_cast-number c =
    let g = c.word.result in
    let small = number-small c.args.kept.now g c.in-Some.number (sym (c.requires.exact.each g c.word.ensures.small) ∙ c.in-Some.is) in
    let few = c.requires.few in
    omega (arith, small, few)

pub loop-k-preserved : goal.loop-k-preserved
loop-k-preserved c =
    let table = c.args.table.now in
    let kept = c.args.kept.now in
    let k = c.loop-k.k in
    let o = c.args.language + 6 in
    let g = c.word.result in
    let f : ℕ → Option ℕ = new_number kept in
    let told : slice_index_or c.args.numbers.now g None ≡ f (word table (o + k * 2)) =
    c.requires.exact.each g c.word.ensures.small ∙ ap f c.word.ensures.exact in
    let before = c.loop-k.invariant.few in
    record {
      features = elim c.match-numbers-word.branch [
        | in-Some+in_ok-push w ↦ ap (λ v. v.items) w.features-is ∙ w.in_ok-push.ensures.items ∙ ap (λ xs. xs ++ w.in-Some.number ∷ []) c.loop-k.invariant.features
            ∙ sym (features-more f table o k w.in-Some.number (sym told ∙ w.in-Some.is))
        | in_default w ↦ ap (λ v. v.items) w.features-is ∙ c.loop-k.invariant.features
            ∙ sym (features-less f table o k (sym told ∙ none-left (slice_index_or c.args.numbers.now g None) w.in_default.not-Some))
      ];
      few = elim c.match-numbers-word.branch [
        | in-Some+in_ok-push w ↦ (let e = ap (λ v. length v.items) w.features-is in let d = ap length w.in_ok-push.ensures.items in
            omega (arith, before, e, d, length-append c.loop-k.features.items (w.in-Some.number ∷ [])))
        | in_default w ↦ (let e = ap (λ v. length v.items) w.features-is in omega (arith, before, e))
      ];
      spent = omega (arith, c.pay.ensures.spends, c.loop-k.invariant.spent);
    }
