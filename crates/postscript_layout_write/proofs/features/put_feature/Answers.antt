use Rattle.std.proofs.Common.{◌≡◌, ◌∙◌, ◌+◌, ◌*◌, ◌<◌, ◌++◌, ◌∷◌, [], ℕ, List, ap, sym, subst, arith}
use Rattle.std.specs.List.{All}
use Rattle.postscript_layout.specs.Features.{indices_of}
use Rattle.postscript_layout.specs.Numbers.{word, words}
use Rattle.postscript_layout_write.specs.Features.{KeepsFeature, bytes_at, size_of}
use Rattle.postscript_layout_write.specs.Text.{array_text}
use Rattle.postscript_layout_write.proofs.FeatureReading.{IsPlace, feature-joined, feature-read, is_nowhere, is_there}
use Rattle.postscript_layout_write.proofs.RecordReading.{puts-text}
use Rattle.postscript_layout_write.proofs.features.put_feature.Goals.{then-size-eq0, else-size-eq0}
use Rattle.postscript_layout_write.proofs.features.put_feature.Goals as goal

pub returns-clause-done : goal.returns-clause-done
returns-clause-done c =
    let table = c.args.table.now in
    let tag = c.args.tag in
    let feature = c.args.feature in
    let old = c.args.out.now.items in
    let count : c.word-count.result ≡ word table (feature + 2) = c.word-count.ensures.exact in
    let base = 4 + word table (feature + 2) * 2 in
    let place = c.if-size-eq0.parameters in
    let size : c.size_of-size.result ≡ size_of table tag feature = c.size_of-size.ensures.exact in
    let is : IsPlace table tag feature base place = elim c.if-size-eq0.branch [
      | then-size-eq0 w ↦ subst (IsPlace table tag feature base) (sym w.parameters-is) (is_nowhere (sym size ∙ w.if-size-eq0.true))
      | else-size-eq0 w ↦ subst (IsPlace table tag feature base) (let same = w.parameters-is in omega (arith, same, count))
          (is_there (λ none. w.if-size-eq0.false (size ∙ none)))
    ] in
    let lookups : c.read_glyphs.new.out.items ≡ indices_of table feature = c.in_ok-read_glyphs.ensures.exact
    ∙ ap (λ (xs : List ℕ). xs ++ words table (feature + 4) c.word-count.result) c.new-lookups.ensures.items ∙ ap (words table (feature + 4)) count in
    puts-text (KeepsFeature table tag feature) old c.put_bytes.new.out.items
    (array_text (place ∷ word table (feature + 2) ∷ []) ++ (array_text (indices_of table feature) ++ bytes_at table (feature + word table feature) (size_of table tag feature)))
    (c.in_ok-put_bytes.ensures
    ∙ ap (λ (xs : List ℕ). xs ++ bytes_at table (feature + c.word.result) c.size_of-size.result) (c.in_ok-put_glyphs-2.ensures.text
    ∙ ap (λ (xs : List ℕ). xs ++ array_text c.deref.result.now) c.in_ok-put_glyphs.ensures.text
    ∙ ap (λ n. (old ++ array_text (place ∷ n ∷ [])) ++ array_text c.deref.result.now) count
    ∙ ap (λ (xs : List ℕ). (old ++ array_text (place ∷ word table (feature + 2) ∷ [])) ++ array_text xs) (c.deref.ensures.value ∙ lookups))
    ∙ ap (λ n. ((old ++ array_text (place ∷ word table (feature + 2) ∷ [])) ++ array_text (indices_of table feature)) ++ bytes_at table (feature + n) c.size_of-size.result) c.word.ensures.exact
    ∙ ap (λ n. ((old ++ array_text (place ∷ word table (feature + 2) ∷ [])) ++ array_text (indices_of table feature)) ++ bytes_at table (feature + word table feature) n) size
    ∙ feature-joined old (array_text (place ∷ word table (feature + 2) ∷ [])) (array_text (indices_of table feature)) (bytes_at table (feature + word table feature) (size_of table tag feature)))
    (feature-read table tag feature place is (omega (arith, count))
    (subst (λ n. All (λ number. number < 65536) (words table (feature + 4) n)) count c.in_ok-read_glyphs.ensures.small))
