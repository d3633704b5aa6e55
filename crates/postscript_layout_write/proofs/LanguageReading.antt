-- Scripts and language systems that are written are read as they were.
use Rattle.std.proofs.Common.{◌≡◌, refl, sym, ap, subst, ◌∙◌, inl, inr, ℕ, ◌+◌, ◌*◌, ◌≤◌, ◌<◌, List, [], ◌∷◌, ◌++◌, length, get_or, append-nil, arith}
use Rattle.std.specs.Prelude.{◌⊎◌, Option, None, Some, filter_map}
use Rattle.std.specs.List.{All, cons_option}
use Rattle.std.proofs.lemmas.List.Elements.{All-cons, All-nil, filter_map-append}
use Rattle.postscript_layout.specs.Numbers.{long, word, words}
use Rattle.postscript_layout_write.specs.Features.{KeepsDefault, KeepsLanguage, KeepsScript, KeepsScripts, features_of, has_default, no_default, or_no_feature, required_of}
use Rattle.postscript_layout_write.specs.Holds.{Holds}
use Rattle.postscript_layout_write.specs.Records.{AreRecords, Stands, records_text}
use Rattle.postscript_layout_write.specs.Renumbering.{new_number}
use Rattle.postscript_layout_write.specs.ScriptLists.{named}
use Rattle.postscript_layout_write.specs.Text.{array_text}
use Rattle.postscript_layout_write.proofs.Holding.{holds-array, holds-first, holds-second, length-array}
use Rattle.postscript_layout_write.proofs.RecordReading.{bytes-held, table-read, tag-read}
use Rattle.postscript_layout_write.proofs.Renumbered.{number-small}
use Rattle.postscript_layout_write.proofs.RuleReading.{words-read}
use Rattle.postscript_layout_write.proofs.RuleRows.{words-more}

pub language-read : (kept old : List ℕ) (from required : ℕ) (features : List ℕ) → required ≡ or_no_feature (new_number kept (required_of old from)) → required < 65536 →
    features ≡ filter_map (new_number kept) (features_of old from) → length features < 65536 → All (λ n. n < 65536) features →
    (t : List ℕ) (at : ℕ) → Holds (array_text (0 ∷ required ∷ length features ∷ []) ++ array_text features) t at → KeepsLanguage kept old from t at
language-read kept old from required features same small are few all t at h = record {
  order = ap (word t) (omega arith) ∙ number 0 0 (omega arith) refl (omega arith);
  required = number 1 required (omega arith) refl small ∙ same;
  features = words-read t (at + 6) features (word t (at + 4)) (number 2 (length features) (omega arith) refl few) all
      (holds-second (array_text (0 ∷ required ∷ length features ∷ [])) (array_text features) 6 (length-array (0 ∷ required ∷ length features ∷ [])) h) ∙ are;
}
  where
    number : (k w : ℕ) → k < 3 → get_or (0 ∷ required ∷ length features ∷ []) k 0 ≡ w → w < 65536 → word t (at + k * 2) ≡ w
    number k w less is low = holds-array (0 ∷ required ∷ length features ∷ []) at k less (omega (arith, is, low)) (holds-first _ _ h) ∙ is

-- the offset of the default language system of a script
pub data IsDefault (old : List ℕ) (from base : ℕ) : ℕ → Type 0 where
  is_none : word old from ≡ 0 → IsDefault old from base 0
  is_some : (word old from ≡ 0 → ⊥) → IsDefault old from base base

pub script-read : (kept old : List ℕ) (from default : ℕ) (numbers bytes : List ℕ) → IsDefault old from (4 + word old (from + 2) * 6) default →
    word old (from + 2) ≤ 10921 → ((word old from ≡ 0) ⊎ Stands (KeepsLanguage kept old (from + word old from)) bytes 0) →
    AreRecords (λ j. long old (from + 4 + j * 6)) (λ j. KeepsLanguage kept old (named old from (from + 4) j)) (4 + word old (from + 2) * 6) (word old (from + 2)) numbers bytes →
    (t : List ℕ) (at : ℕ) → Holds (records_text (default ∷ word old (from + 2) ∷ []) numbers bytes) t at → KeepsScript kept old from t at
unfolding records_text
script-read kept old from default numbers bytes is few first are t at h = record {
  default = by default is refl;
  count = number 1 (word old (from + 2)) (omega arith) refl (omega (arith, few));
  tags = tag-read _ _ _ _ numbers bytes are t at 4 refl rest;
  languages = table-read _ _ _ _ numbers bytes are t at 4 refl rest;
}
  where
    rest : Holds (array_text numbers ++ bytes) t (at + 4)
    rest = holds-second (array_text (default ∷ word old (from + 2) ∷ [])) _ 4 (length-array (default ∷ word old (from + 2) ∷ [])) h

    number : (k w : ℕ) → k < 2 → get_or (default ∷ word old (from + 2) ∷ []) k 0 ≡ w → w < 65536 → word t (at + k * 2) ≡ w
    number k w less is low = holds-array (default ∷ word old (from + 2) ∷ []) at k less (omega (arith, is, low)) (holds-first _ _ h) ∙ is

    offset : (d : ℕ) → default ≡ d → d < 65536 → word t at ≡ d
    offset d same low = ap (word t) (omega arith) ∙ number 0 d (omega arith) same low

    there : Stands (KeepsLanguage kept old (from + word old from)) bytes 0 → default ≡ 4 + word old (from + 2) * 6 →
        KeepsLanguage kept old (from + word old from) t (at + word t at)
    there stands same = subst (λ n. KeepsLanguage kept old (from + word old from) t (at + n)) (sym (offset (4 + word old (from + 2) * 6) same (omega (arith, few))))
        (subst (KeepsLanguage kept old (from + word old from) t) (omega arith)
        (stands.within t (at + (4 + word old (from + 2) * 6)) (bytes-held _ _ _ _ numbers bytes are t at 4 refl rest)))

    by : (d : ℕ) → IsDefault old from (4 + word old (from + 2) * 6) d → default ≡ d → KeepsDefault kept old from t at
    by _ (is_none none) same = no_default none (offset 0 same (omega arith))
    by _ (is_some some) same = has_default some
        (λ zero. (let read = offset (4 + word old (from + 2) * 6) same (omega (arith, few)) in omega (arith, zero, read)))
        (elim first [
          | inl none ↦ absurd (some none)
          | inr stands ↦ there stands same
        ])

pub scripts-read : (kept old : List ℕ) (from : ℕ) (numbers bytes : List ℕ) → word old from < 65536 →
    AreRecords (λ i. long old (from + 2 + i * 6)) (λ i. KeepsScript kept old (named old from (from + 2) i)) (2 + word old from * 6) (word old from) numbers bytes →
    (t : List ℕ) (at : ℕ) → Holds (records_text (word old from ∷ []) numbers bytes) t at → KeepsScripts kept old from t at
unfolding records_text
scripts-read kept old from numbers bytes few are t at h = record {
  count = count;
  tags = tag-read _ _ _ _ numbers bytes are t at 2 refl rest;
  scripts = table-read _ _ _ _ numbers bytes are t at 2 refl rest;
}
  where
    rest : Holds (array_text numbers ++ bytes) t (at + 2)
    rest = holds-second (array_text (word old from ∷ [])) _ 2 (length-array (word old from ∷ [])) h

    count : word t at ≡ word old from
    count = ap (word t) (omega arith) ∙ holds-array (word old from ∷ []) at 0 (omega arith) few (holds-first _ _ h)

pub none-left : (x : Option ℕ) → ((n : ℕ) → x ≡ Some n → ⊥) → x ≡ None
none-left None never = refl
none-left (Some n) never = absurd (never n refl)

-- one more feature of a language system
pub features-more : (f : ℕ → Option ℕ) (t : List ℕ) (o k n : ℕ) → f (word t (o + k * 2)) ≡ Some n →
    filter_map f (words t o (k + 1)) ≡ filter_map f (words t o k) ++ n ∷ []
features-more f t o k n is = ap (filter_map f) (words-more t o k) ∙ filter_map-append f (words t o k) (word t (o + k * 2) ∷ [])
    ∙ ap (λ (x : Option ℕ). filter_map f (words t o k) ++ cons_option x []) is

pub features-less : (f : ℕ → Option ℕ) (t : List ℕ) (o k : ℕ) → f (word t (o + k * 2)) ≡ None →
    filter_map f (words t o (k + 1)) ≡ filter_map f (words t o k)
features-less f t o k is = ap (filter_map f) (words-more t o k) ∙ filter_map-append f (words t o k) (word t (o + k * 2) ∷ [])
    ∙ ap (λ (x : Option ℕ). filter_map f (words t o k) ++ cons_option x []) is ∙ append-nil (filter_map f (words t o k))

-- new numbers are small
pub all-low : (kept xs : List ℕ) → length kept < 65536 → All (λ n. n < 65536) (filter_map (new_number kept) xs)
all-low kept [] few = All-nil (λ n. n < 65536)
all-low kept (x ∷ xs) few = by (new_number kept x) refl (all-low kept xs few)
  where
    by : (o : Option ℕ) → new_number kept x ≡ o → All (λ n. n < 65536) (filter_map (new_number kept) xs) →
        All (λ n. n < 65536) (cons_option o (filter_map (new_number kept) xs))
    by None is rest = rest
    by (Some n) is rest = All-cons (λ n. n < 65536) n (filter_map (new_number kept) xs)
        (let small = number-small kept x n is in omega (arith, small, few)) rest
