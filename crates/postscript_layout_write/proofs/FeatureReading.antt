-- Features that are written are read as they were.
use Rattle.std.proofs.Common.{◌≡◌, refl, sym, ap, subst, ◌∙◌, ℕ, ◌+◌, ◌*◌, ◌≤◌, ◌<◌, List, [], ◌∷◌, ◌++◌, length, length-append, get_or, drop, arith}
use Rattle.std.specs.List.{All}
use Rattle.std.proofs.Math.Seq.{drop-append_seam}
use Rattle.std.proofs.lemmas.List.{append_assoc, ext_get_or, get_or_append_left}
use Rattle.std.proofs.lemmas.List.FromFn.{get_or-map-range_with_len, length-map-range_with_len, map-range_with_len_more}
use Rattle.postscript_layout.specs.Features.{indices_of}
use Rattle.postscript_layout.specs.Numbers.{long, word}
use Rattle.postscript_layout_write.specs.Features.{HasOnlyFeatures, KeepsFeature, KeepsFeatures, KeepsParameters, KeepsScripts, bytes_at, chosen_features, has_parameters, no_parameters, size_of}
use Rattle.postscript_layout_write.specs.Holds.{Holds}
use Rattle.postscript_layout_write.specs.Records.{AreRecords, Puts, records_text, table_text}
use Rattle.postscript_layout_write.specs.ScriptLists.{named}
use Rattle.postscript_layout_write.specs.Text.{array_text}
use Rattle.postscript_layout_write.proofs.Holding.{holds-array, holds-first, holds-second, holds-whole, length-array}
use Rattle.postscript_layout_write.proofs.RecordReading.{table-read, tag-read}
use Rattle.postscript_layout_write.proofs.Rows.{append-at}
use Rattle.postscript_layout_write.proofs.RuleReading.{words-read}

-- bytes that are there
pub bytes-read : (t : List ℕ) (o : ℕ) (text : List ℕ) (n : ℕ) → length text ≡ n → Holds text t o → bytes_at t o n ≡ text
bytes-read t o text n many h = ext_get_or 0 (bytes_at t o n) text (length-map-range_with_len f 0 n ∙ sym many)
    (λ i less. (let within : i < n = omega (arith, less, length-map-range_with_len f 0 n) in
    get_or-map-range_with_len f 0 n i i 0 within (omega arith) ∙ here i (omega (arith, within, many))))
  where
    f : ℕ → ℕ
    f k = get_or t (o + k) 0

    here : (i : ℕ) → i < length text → get_or t (o + i) 0 ≡ get_or text i 0
    here i less = ap (λ xs. get_or xs (o + i) 0) h.is ∙ append-at h.front (text ++ h.behind) 0 o i h.place ∙ get_or_append_left text h.behind 0 i less

pub length-bytes : (t : List ℕ) (o n : ℕ) → length (bytes_at t o n) ≡ n
length-bytes t o n = length-map-range_with_len (λ k. get_or t (o + k) 0) 0 n

pub bytes-more : (t : List ℕ) (o k b : ℕ) (old before after : List ℕ) → before ≡ old ++ bytes_at t o k → b ≡ get_or t (o + k) 0 → after ≡ before ++ b ∷ [] →
    after ≡ old ++ bytes_at t o (k + 1)
bytes-more t o k b old before after so here is = is ∙ ap (λ xs. xs ++ b ∷ []) so ∙ append_assoc old (bytes_at t o k) (b ∷ [])
    ∙ ap (λ n. old ++ (bytes_at t o k ++ n ∷ [])) here
    ∙ ap (λ xs. old ++ xs) (sym (map-range_with_len_more (λ i. get_or t (o + i) 0) 0 k k (omega arith)))

-- the offset of the parameters of a feature
pub data IsPlace (old : List ℕ) (tag from base : ℕ) : ℕ → Type 0 where
  is_nowhere : size_of old tag from ≡ 0 → IsPlace old tag from base 0
  is_there : (size_of old tag from ≡ 0 → ⊥) → IsPlace old tag from base base

pub feature-read : (old : List ℕ) (tag from place : ℕ) → IsPlace old tag from (4 + word old (from + 2) * 2) place → word old (from + 2) ≤ 32765 →
    All (λ n. n < 65536) (indices_of old from) → (t : List ℕ) (at : ℕ) →
    Holds (array_text (place ∷ word old (from + 2) ∷ []) ++ (array_text (indices_of old from) ++ bytes_at old (from + word old from) (size_of old tag from))) t at →
    KeepsFeature old tag from t at
feature-read old tag from place is few all t at h = record {
  lookups = words-read t (at + 4) (indices_of old from) (word t (at + 2)) (number 1 (word old (from + 2)) (omega arith) refl (omega (arith, few)) ∙ sym many) all
      (holds-first (array_text (indices_of old from)) _ rest);
  parameters = by place is refl;
}
  where
    many : length (indices_of old from) ≡ word old (from + 2)
    many = length-map-range_with_len (λ k. word old (from + 4 + k * 2)) 0 (word old (from + 2))

    rest : Holds (array_text (indices_of old from) ++ bytes_at old (from + word old from) (size_of old tag from)) t (at + 4)
    rest = holds-second (array_text (place ∷ word old (from + 2) ∷ [])) _ 4 (length-array (place ∷ word old (from + 2) ∷ [])) h

    number : (k w : ℕ) → k < 2 → get_or (place ∷ word old (from + 2) ∷ []) k 0 ≡ w → w < 65536 → word t (at + k * 2) ≡ w
    number k w less same low = holds-array (place ∷ word old (from + 2) ∷ []) at k less (omega (arith, same, low)) (holds-first _ _ h) ∙ same

    offset : (p : ℕ) → place ≡ p → p < 65536 → word t at ≡ p
    offset p same low = ap (word t) (omega arith) ∙ number 0 p (omega arith) same low

    there : Holds (bytes_at old (from + word old from) (size_of old tag from)) t (at + (4 + word old (from + 2) * 2))
    there = subst (Holds (bytes_at old (from + word old from) (size_of old tag from)) t) (omega (arith, many))
        (holds-second (array_text (indices_of old from)) _ (length (indices_of old from) * 2) (length-array (indices_of old from)) rest)

    by : (p : ℕ) → IsPlace old tag from (4 + word old (from + 2) * 2) p → place ≡ p → KeepsParameters old tag from t at
    by _ (is_nowhere none) same = no_parameters none (offset 0 same (omega arith))
    by _ (is_there some) same = (let read = offset (4 + word old (from + 2) * 2) same (omega (arith, few)) in has_parameters some
        (λ zero. omega (arith, zero, read))
        (bytes-read t (at + word t at) (bytes_at old (from + word old from) (size_of old tag from)) (size_of old tag from)
        (length-bytes old (from + word old from) (size_of old tag from))
        (subst (λ n. Holds (bytes_at old (from + word old from) (size_of old tag from)) t (at + n)) (sym read) there)))

pub features-read : (kept old : List ℕ) (from : ℕ) (numbers bytes : List ℕ) → length kept < 65536 →
    AreRecords (λ j. long old (from + 2 + get_or kept j 0 * 6))
    (λ j. KeepsFeature old (long old (from + 2 + get_or kept j 0 * 6)) (named old from (from + 2) (get_or kept j 0))) (2 + length kept * 6) (length kept) numbers bytes →
    (t : List ℕ) (at : ℕ) → Holds (records_text (length kept ∷ []) numbers bytes) t at → KeepsFeatures kept old from t at
unfolding records_text
features-read kept old from numbers bytes few are t at h = record {
  count = ap (word t) (omega arith) ∙ holds-array (length kept ∷ []) at 0 (omega arith) few (holds-first _ _ h);
  tags = tag-read _ _ _ _ numbers bytes are t at 2 refl rest;
  features = table-read _ _ _ _ numbers bytes are t at 2 refl rest;
}
  where
    rest : Holds (array_text numbers ++ bytes) t (at + 2)
    rest = holds-second (array_text (length kept ∷ [])) _ 2 (length-array (length kept ∷ [])) h

pub feature-joined : (old a b c : List ℕ) → ((old ++ a) ++ b) ++ c ≡ old ++ (a ++ (b ++ c))
feature-joined old a b c = simp append_assoc

lookups-left : (head scripts features lookups : List ℕ) (n : ℕ) → length head + length scripts + length features ≡ n →
    drop n (head ++ (scripts ++ (features ++ lookups))) ≡ lookups
lookups-left head scripts features lookups n many =
    ap (λ k. drop k (head ++ (scripts ++ (features ++ lookups)))) (omega (arith, many, length-append (head ++ scripts) features, length-append head scripts))
    ∙ ap (drop (length ((head ++ scripts) ++ features))) (sym (append_assoc (head ++ scripts) features lookups ∙ append_assoc head scripts (features ++ lookups)))
    ∙ drop-append_seam ((head ++ scripts) ++ features) lookups

-- the whole table
pub has-only : (old tags kept scripts features new : List ℕ) → kept ≡ chosen_features old tags → 10 + length scripts + length features < 65536 →
    Puts (KeepsScripts kept old (word old 4)) [] scripts → Puts (KeepsFeatures kept old (word old 6)) [] features →
    new ≡ table_text scripts features (drop (word old 8) old) → HasOnlyFeatures old tags new
unfolding table_text
has-only old tags kept scripts features new are small s f is = record {
  version = (number 0 1 (omega arith) refl (omega arith), number 1 0 (omega arith) refl (omega arith));
  scripts = subst (λ (xs : List ℕ). KeepsScripts xs old (word old 4) new (word new 4)) are
      (subst (KeepsScripts kept old (word old 4) new) (sym (number 2 10 (omega arith) refl (omega arith)))
      (s.stands.within new 10 (holds-first scripts _ rest)));
  features = subst (λ (xs : List ℕ). KeepsFeatures xs old (word old 6) new (word new 6)) are
      (subst (KeepsFeatures kept old (word old 6) new) (sym (number 3 (10 + length scripts) (omega arith) refl (omega (arith, small))))
      (subst (KeepsFeatures kept old (word old 6) new) (omega arith)
      (f.stands.within new (10 + length scripts) (holds-first features _ (holds-second scripts _ (length scripts) refl rest)))));
  lookups = ap (λ n. drop n new) (number 4 (10 + length scripts + length features) (omega arith) refl small)
      ∙ ap (drop (10 + length scripts + length features)) is
      ∙ lookups-left (array_text (1 ∷ 0 ∷ 10 ∷ (10 + length scripts) ∷ (10 + length scripts + length features) ∷ [])) scripts features _ _
      (let e = length-array (1 ∷ 0 ∷ 10 ∷ (10 + length scripts) ∷ (10 + length scripts + length features) ∷ []) in omega (arith, e));
}
  where
    whole : Holds (table_text scripts features (drop (word old 8) old)) new 0
    whole = subst (λ (xs : List ℕ). Holds (table_text scripts features (drop (word old 8) old)) xs 0) (sym is) (holds-whole _)

    number : (k w : ℕ) → k < 5 → get_or (1 ∷ 0 ∷ 10 ∷ (10 + length scripts) ∷ (10 + length scripts + length features) ∷ []) k 0 ≡ w → w < 65536 → word new (k * 2) ≡ w
    number k w less same low = ap (word new) (omega arith) ∙ holds-array _ 0 k less (omega (arith, same, low)) (holds-first _ _ whole) ∙ same

    rest : Holds (scripts ++ (features ++ drop (word old 8) old)) new 10
    rest = holds-second (array_text (1 ∷ 0 ∷ 10 ∷ (10 + length scripts) ∷ (10 + length scripts + length features) ∷ [])) _ 10
        (length-array (1 ∷ 0 ∷ 10 ∷ (10 + length scripts) ∷ (10 + length scripts + length features) ∷ [])) whole
