use Rattle.std.proofs.Common.{◌≡◌, ◌∙◌, ◌<◌, ◌++◌, ◌∷◌, [], ℕ, List, ap, sym, subst, length, rules}
use Rattle.std.specs.List.{All}
use Rattle.std.proofs.lemmas.List.{append_assoc}
use Rattle.postscript_layout_write.specs.Features.{KeepsLanguage, features_of, or_no_feature}
use Rattle.postscript_layout_write.specs.Renumbering.{new_number}
use Rattle.postscript_layout_write.specs.Text.{array_text}
use Rattle.postscript_layout_write.proofs.LanguageReading.{all-low, language-read}
use Rattle.postscript_layout_write.proofs.RecordReading.{puts-text}
use Rattle.postscript_layout_write.proofs.languages.put_language.Goals as goal

pub returns-clause-done : goal.returns-clause-done
returns-clause-done c =
    let table = c.args.table.now in
    let kept = c.args.kept.now in
    let language = c.args.language in
    let old = c.args.out.now.items in
    let features = c.in_ok-features.features.items in
    let required = c.new_required-required.result in
    let count : c.len.result ≡ length features = search rules in
    let head : List ℕ = array_text (0 ∷ required ∷ length features ∷ []) in
    puts-text (KeepsLanguage kept table language) old c.put_glyphs-2.new.out.items (head ++ array_text features)
    (c.in_ok-put_glyphs-2.ensures.text ∙ ap (λ (xs : List ℕ). xs ++ array_text c.deref.result.now) c.in_ok-put_glyphs.ensures.text
    ∙ ap (λ (xs : List ℕ). (old ++ array_text (0 ∷ required ∷ c.len.result ∷ [])) ++ array_text xs) c.deref.ensures.value
    ∙ ap (λ n. (old ++ array_text (0 ∷ required ∷ n ∷ [])) ++ array_text features) count
    ∙ append_assoc old head (array_text features))
    (language-read kept table language required features (c.new_required-required.ensures ∙ ap (λ n. or_no_feature (new_number kept n)) c.word.ensures.exact)
    c.new_required-required.type_inv c.in_ok-features.ensures.exact c.in_ok-features.ensures.few
    (subst (λ (xs : List ℕ). All (λ n. n < 65536) xs) (sym c.in_ok-features.ensures.exact) (all-low kept (features_of table language) c.requires.few)))
