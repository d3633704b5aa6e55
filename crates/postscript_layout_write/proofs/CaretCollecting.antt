-- Ligature carets that are collected.
use Rattle.std.proofs.Common.{◌≡◌, refl, sym, ap, subst, ◌∙◌, inl, inr, ℕ, ◌+◌, ◌*◌, ◌≤◌, ◌<◌, List, [], ◌∷◌, ◌++◌, length, length-append, get_or, arith}
use Rattle.std.specs.Prelude.{◌⊎◌, ◌/◌}
use Rattle.std.specs.List.{Contains}
use Rattle.std.proofs.lemmas.List.{append_assoc, get_or_append_left, get_or_push}
use Rattle.std.proofs.lemmas.List.Elements.{Contains-append_left, Contains-push}
use Rattle.postscript_layout_write.specs.CaretLists.{AddsValues, AreCarets, AreWords, HasCarets, ligature_numbers, no_values, some_values, value_of, values_of}
use Rattle.postscript_layout_write.specs.Carets.{Caret, coordinate, point}
use Rattle.postscript_layout_write.specs.Holds.{Holds}
use Rattle.postscript_layout_write.specs.Text.{array_text}
use Rattle.postscript_layout_write.proofs.Firsts.{nat_cases}
use Rattle.postscript_layout_write.proofs.Holding.{holds-on}

pub values-append : (xs ys : List Caret) → values_of (xs ++ ys) ≡ values_of xs ++ values_of ys
values-append [] ys = refl
values-append (x ∷ xs) ys = ap (λ zs. value_of x ++ zs) (values-append xs ys) ∙ sym (append_assoc (value_of x) (values_of xs) (values_of ys))

pub length-value : (caret : Caret) → length (value_of caret) ≡ 2
length-value (coordinate number) = refl
length-value (point index) = refl

pub length-values : (carets : List Caret) → length (values_of carets) ≡ length carets * 2
length-values [] = refl
length-values (x ∷ xs) =
    let long = length-append (value_of x) (values_of xs) in
    let first = length-value x in
    let rest = length-values xs in
    omega (arith, long, first, rest)

half-values : (carets : List Caret) (values : List ℕ) → values ≡ values_of carets → length values / 2 ≡ length carets
half-values carets values is = (let long = length-values carets in let same = ap length is in omega (arith, long, same))

no-carets : (carets : List Caret) → values_of carets ≡ [] → carets ≡ []
no-carets [] none = refl
no-carets (x ∷ xs) none = (let long = length-values (x ∷ xs) in let same = ap length none in absurd (omega (arith, long, same)))

carets-on : (carets : List Caret) (bytes more : List ℕ) (at : ℕ) → HasCarets carets bytes at → HasCarets carets (bytes ++ more) at
carets-on carets bytes more at h = record { some = h.some; few = h.few; small = h.small; there = holds-on more h.there }

pub carets-none : (f : ℕ → List Caret) → AreCarets f 0 [] [] []
carets-none f = record {
  same = refl;
  fit = λ k less. absurd (omega (arith, less));
  each = λ k less. absurd (omega (arith, less));
  all = λ x less. absurd (omega (arith, less));
}

module _ (f : ℕ → List Caret) (x : ℕ) where
  all-more : (glyphs : List ℕ) → ((z : ℕ) → z < x → (f z ≡ []) ⊎ Contains glyphs z) → (f x ≡ []) ⊎ Contains glyphs x →
      (z : ℕ) → z < x + 1 → (f z ≡ []) ⊎ Contains glyphs z
  all-more glyphs old here z less = elim (nat_cases z x) [
    | inl early ↦ old z early
    | inr late ↦ (let same : x ≡ z = omega (arith, less, late) in subst (λ w. (f w ≡ []) ⊎ Contains glyphs w) same here)
  ]

  longer : (glyphs : List ℕ) (z : ℕ) → (f z ≡ []) ⊎ Contains glyphs z → (f z ≡ []) ⊎ Contains (glyphs ++ x ∷ []) z
  longer glyphs z h = elim h [
    | inl none ↦ inl none
    | inr there ↦ inr (Contains-append_left glyphs (x ∷ []) z there)
  ]

  -- the tables with the table of one more glyph
  pub carets-more : (values glyphs offsets bytes newglyphs newoffsets newbytes : List ℕ) → values ≡ values_of (f x) → AreWords values →
      AddsValues x values glyphs offsets bytes newglyphs newoffsets newbytes → AreCarets f x glyphs offsets bytes → AreCarets f (x + 1) newglyphs newoffsets newbytes
  carets-more values glyphs offsets bytes newglyphs newoffsets newbytes is small (no_values none a b c) s =
      subst (λ (xs : List ℕ). AreCarets f (x + 1) xs newoffsets newbytes) (sym a)
      (subst (λ (xs : List ℕ). AreCarets f (x + 1) glyphs xs newbytes) (sym b)
      (subst (λ (xs : List ℕ). AreCarets f (x + 1) glyphs offsets xs) (sym c) (record {
        same = s.same;
        fit = λ k less. (let low = s.fit k less in omega (arith, low));
        each = s.each;
        all = all-more glyphs s.all (inl (no-carets (f x) (sym is ∙ none)));
      })))
  carets-more values glyphs offsets bytes newglyphs newoffsets newbytes is small (some_values offset some few a b places) s =
      subst (λ (xs : List ℕ). AreCarets f (x + 1) xs newoffsets newbytes) (sym a)
      (subst (λ (xs : List ℕ). AreCarets f (x + 1) (glyphs ++ x ∷ []) xs newbytes) (sym b) (record {
        same = (let same = s.same in omega (arith, same, length-append glyphs (x ∷ []), length-append offsets (offset ∷ [])));
        fit = λ k less. elim (nat_cases k (length glyphs)) [
          | inl early ↦ subst (λ w. w < x + 1) (sym (get_or_append_left glyphs (x ∷ []) 0 k early)) (let low = s.fit k early in omega (arith, low))
          | inr late ↦ subst (λ w. w < x + 1) (sym (get_or_push glyphs x 0 k (last k less late))) (omega arith)
        ];
        each = λ k less. elim (nat_cases k (length glyphs)) [
          | inl early ↦ subst (λ w. HasCarets (f w) newbytes (get_or (offsets ++ offset ∷ []) k 0)) (sym (get_or_append_left glyphs (x ∷ []) 0 k early))
              (subst (λ w. HasCarets (f (get_or glyphs k 0)) newbytes w)
              (sym (get_or_append_left offsets (offset ∷ []) 0 k (let same = s.same in omega (arith, same, early))))
              (subst (λ (xs : List ℕ). HasCarets (f (get_or glyphs k 0)) xs (get_or offsets k 0)) (sym places.bytes)
              (carets-on (f (get_or glyphs k 0)) bytes places.more (get_or offsets k 0) (s.each k early))))
          | inr late ↦ subst (λ w. HasCarets (f w) newbytes (get_or (offsets ++ offset ∷ []) k 0)) (sym (get_or_push glyphs x 0 k (last k less late)))
              (subst (λ w. HasCarets (f x) newbytes w)
              (sym (get_or_push offsets offset 0 k (let same = s.same in let l = last k less late in omega (arith, same, l)))) here)
        ];
        all = all-more (glyphs ++ x ∷ []) (λ z less. longer glyphs z (s.all z less)) (inr (Contains-push glyphs x));
      }))
    where
      last : (k : ℕ) → k < length (glyphs ++ x ∷ []) → length glyphs ≤ k → length glyphs ≡ k
      last k less late = omega (arith, less, late, length-append glyphs (x ∷ []))

      half : length values / 2 ≡ length (f x)
      half = half-values (f x) values is

      here : HasCarets (f x) newbytes offset
      here = record {
        some = (let long = length-values (f x) in let same = ap length is in omega (arith, long, same, some));
        few = subst (λ n. n ≤ 10922) half few;
        small = subst AreWords is small;
        there = subst (λ (xs : List ℕ). Holds (array_text (ligature_numbers (length (f x)) xs)) newbytes offset) is
            (subst (λ n. Holds (array_text (ligature_numbers n values)) newbytes offset) half places.there);
      }
