-- New numbers of glyphs are indices of the kept ones.
use Rattle.std.proofs.Common.{◌≡◌, ℕ, zero, suc, ◌<◌, ◌==◌, List, length, get_or, arith, Bool, true, false}
use Rattle.std.specs.Prelude.{Option, None, Some, nat_eq, if◌then◌else◌}
use Rattle.postscript_sequences.specs.Numbers.{first_some, new_number, or_else}

-- a value that is there only at its own index
first_below : (f : ℕ → Option ℕ) → ((k n : ℕ) → f k ≡ Some n → k ≡ n) → (count n : ℕ) → first_some f count ≡ Some n → n < count
first_below f own zero n is = absurd (cc)
first_below f own (suc m) n is = by (first_some f m) (f m) (λ x e. first_below f own m x e) (λ x e. own m x e) is
  where
    by : (x y : Option ℕ) → ((k : ℕ) → x ≡ Some k → k < m) → ((k : ℕ) → y ≡ Some k → m ≡ k) → or_else x y ≡ Some n → n < suc m
    by None y low same e = let s = same n e in omega (arith, s)
    by (Some k) y low same e = let l = low k cc in let s : k ≡ n = cc in omega (arith, l, s)

same_number : (a b k n : ℕ) → (if a == b then Some k else None) ≡ Some n → k ≡ n
same_number a b k n is = by (nat_eq a b) is
  where
    by : (t : Bool) → (if t then Some k else None) ≡ Some n → k ≡ n
    by true h = cc
    by false h = absurd (cc)

pub number_small : (glyphs : List ℕ) (glyph number : ℕ) → new_number glyphs glyph ≡ Some number → number < length glyphs
number_small glyphs glyph number is =
    first_below (λ k. if get_or glyphs k 0 == glyph then Some k else None) (λ k n e. same_number (get_or glyphs k 0) glyph k n e)
    (length glyphs) number is
