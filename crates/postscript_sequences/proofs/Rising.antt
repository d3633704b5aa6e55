-- Lists whose elements rise.
use Rattle.std.proofs.Common.{◌≡◌, ℕ, ◌<◌, List, [], ◌∷◌, ◌++◌, length, length-append, get_or, arith, refl, ap, ◌∙◌, inl, inr}
use Rattle.std.specs.List.{Contains}
use Rattle.std.proofs.lemmas.Bool.{cases_lt}
use Rattle.std.proofs.lemmas.List.{get_or_append_left, get_or_at, get_or_default}
use Rattle.std.proofs.lemmas.List.Elements.{Contains-get_or}
use Rattle.postscript_sequences.specs.Sequences.{AreAscending}

-- each element is lower than all later ones
pub record Rises {X : Type 0} (key : X → ℕ) (xs : List X) : Type 0 where
  pub apart : (i j : ℕ) (d : X) → i < j → j < length xs → key (get_or xs i d) < key (get_or xs j d)

pub rises_none : {X : Type 0} (key : X → ℕ) → Rises key []
rises_none key = record { apart = λ i j d less within. absurd (omega (arith, within)) }

pub rises_push : {X : Type 0} (key : X → ℕ) (xs : List X) (y : X) → Rises key xs → ((x : X) → Contains xs x → key x < key y) →
    Rises key (xs ++ y ∷ [])
rises_push key xs y h above = record {
  apart = λ i j d less within.
      let all = length-append xs (y ∷ []) in
      elim (cases_lt j (length xs)) [
        | inl early ↦
            let before : i < length xs = omega (arith, less, early) in
            let a = ap key (get_or_append_left xs (y ∷ []) d i before) in
            let b = ap key (get_or_append_left xs (y ∷ []) d j early) in
            let low = h.apart i j d less early in
            omega (arith, a, b, low)
        | inr late ↦
            let end : length xs ≡ j = omega (arith, late, within, all) in
            let before : i < length xs = omega (arith, less, end) in
            let a = ap key (get_or_append_left xs (y ∷ []) d i before) in
            let b = ap key (get_or_at xs y [] d j end) in
            let low = above (get_or xs i d) (Contains-get_or xs i d before) in
            omega (arith, a, b, low)
      ];
}

pub rises_front : {X : Type 0} (key : X → ℕ) (xs : List X) (y : X) → Rises key (xs ++ y ∷ []) → Rises key xs
rises_front key xs y h = record {
  apart = λ i j d less within.
      let all = length-append xs (y ∷ []) in
      let before : i < length xs = omega (arith, less, within) in
      let a = ap key (get_or_append_left xs (y ∷ []) d i before) in
      let b = ap key (get_or_append_left xs (y ∷ []) d j within) in
      let low = h.apart i j d less (omega (arith, within, all)) in
      omega (arith, a, b, low);
}

pub rises_last : {X : Type 0} (key : X → ℕ) (xs : List X) (y : X) → Rises key (xs ++ y ∷ []) → (x : X) → Contains xs x → key x < key y
rises_last key xs y h x there =
    let all = length-append xs (y ∷ []) in
    let before : there.0 < length xs = there.1 in
    let a = ap key (get_or_append_left xs (y ∷ []) x there.0 before ∙ there.2) in
    let b = ap key (get_or_at xs y [] x (length xs) refl) in
    let low = h.apart there.0 (length xs) x before (omega (arith, all)) in
    omega (arith, a, b, low)

pub rises_from : (xs : List ℕ) → AreAscending xs → Rises (λ x. x) xs
rises_from xs h = record {
  apart = λ i j d less within.
      let before : i < length xs = omega (arith, less, within) in
      let a = get_or_default xs i d 0 before in
      let b = get_or_default xs j d 0 within in
      let low = h i j less within in
      omega (arith, a, b, low);
}
