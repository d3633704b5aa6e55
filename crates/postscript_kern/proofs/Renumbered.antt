-- New numbers of glyphs.
use Rattle.std.proofs.Common.{◌≡◌, refl, ◌∙◌, sym, ap, ℕ, ◌<◌, ◌==◌, List, length, get_or, arith, Bool, true, false}
use Rattle.std.specs.Prelude.{Option, None, Some, nat_eq, if◌then◌else◌}
use Rattle.std.proofs.lemmas.Bool.{eqb-true}
use Rattle.postscript_kern.specs.Renumbering.{new_number}
use Rattle.postscript_kern.proofs.Firsts.{Found, first-cases, none_found, some_found}

same-number : (a b k n : ℕ) → (if a == b then Some k else None) ≡ Some n → k ≡ n
same-number a b k n is = by (nat_eq a b) is
  where
    by : (t : Bool) → (if t then Some k else None) ≡ Some n → k ≡ n
    by true h = cc
    by false h = absurd (cc)

same-glyph : (a b k n : ℕ) → (if a == b then Some k else None) ≡ Some n → a ≡ b
same-glyph a b k n is = by (nat_eq a b) (λ e. eqb-true a b e) is
  where
    by : (t : Bool) → (t ≡ true → a ≡ b) → (if t then Some k else None) ≡ Some n → a ≡ b
    by true e h = e refl
    by false e h = absurd (cc)

-- the glyph of a new number, which is below the number of kept glyphs
pub number-is : (kept : List ℕ) (glyph number : ℕ) → new_number kept glyph ≡ Some number → (number < length kept) × (get_or kept number 0 ≡ glyph)
number-is kept glyph number is =
    by (new_number kept glyph) (first-cases (λ k. if get_or kept k 0 == glyph then Some k else None) (length kept)) is
  where
    by : (x : Option ℕ) → Found (λ k. if get_or kept k 0 == glyph then Some k else None) (length kept) x → x ≡ Some number →
        (number < length kept) × (get_or kept number 0 ≡ glyph)
    by _ (none_found none) e = absurd (cc)
    by _ (some_found i x less at) e =
        let eq = same-number (get_or kept i 0) glyph i x at in
        let here = same-glyph (get_or kept i 0) glyph i x at in
        let last : x ≡ number = cc in
        let same : i ≡ number = omega (arith, eq, last) in
        (omega (arith, less, same), ap (λ (n : ℕ). get_or kept n 0) (sym same) ∙ here)
