-- Numbers of a table that grows.
use Rattle.std.proofs.Common.{◌≡◌, refl, sym, ap, subst, ◌∙◌, ℕ, ◌+◌, ◌<◌, ◌≤◌, List, [], ◌++◌, length, length-append, get_or, arith}
use Rattle.std.specs.Int.{to_be_bytes, w16}
use Rattle.std.proofs.Math.ListN.{get_or-append}
use Rattle.std.proofs.lemmas.List.{get_or-append-add}
use Rattle.postscript_vertical.specs.Numbers.{Puts, word}

-- the numbers at the start of a table
pub word-before : (xs ys : List ℕ) (offset : ℕ) → offset + 2 ≤ length xs → word (xs ++ ys) offset ≡ word xs offset
unfolding word
word-before xs ys offset within =
    let high : get_or (xs ++ ys) offset 0 ≡ get_or xs offset 0 = get_or-append xs ys 0 offset (omega arith) in
    let low : get_or (xs ++ ys) (offset + 1) 0 ≡ get_or xs (offset + 1) 0 = get_or-append xs ys 0 (offset + 1) (omega arith) in
    omega (arith, high, low)

-- the numbers that follow
pub word-after : (xs ys : List ℕ) (size offset : ℕ) → length xs ≡ size → word (xs ++ ys) (size + offset) ≡ word ys offset
unfolding word
word-after xs ys size offset is =
    let high : get_or (xs ++ ys) (size + offset) 0 ≡ get_or ys offset 0 =
    ap (λ (n : ℕ). get_or (xs ++ ys) (n + offset) 0) (sym is) ∙ get_or-append-add xs ys offset 0 in
    let next : size + offset + 1 ≡ length xs + (offset + 1) = omega (arith, is) in
    let low : get_or (xs ++ ys) (size + offset + 1) 0 ≡ get_or ys (offset + 1) 0 =
    ap (λ (n : ℕ). get_or (xs ++ ys) n 0) next ∙ get_or-append-add xs ys (offset + 1) 0 in
    omega (arith, high, low)

-- a number as it is written, and the bytes that follow
pub word-of : (number : ℕ) (ys : List ℕ) → number < 65536 → word (to_be_bytes w16 number ++ ys) 0 ≡ number
unfolding word
word-of number ys small = omega arith

-- a number after some bytes, and the bytes that follow
pub word-at : (xs ys : List ℕ) (size number : ℕ) → length xs ≡ size → number < 65536 → word (xs ++ (to_be_bytes w16 number ++ ys)) size ≡ number
word-at xs ys size number is small =
    let at : size ≡ size + 0 = omega arith in
    ap (λ (n : ℕ). word (xs ++ (to_be_bytes w16 number ++ ys)) n) at ∙ word-after xs (to_be_bytes w16 number ++ ys) size 0 is ∙ word-of number ys small

appended : (number : ℕ) (old : List ℕ) → number < 65536 → Puts number old (old ++ to_be_bytes w16 number)
appended number old small = record {
  text = refl;
  size = length-append old (to_be_bytes w16 number);
  same = λ offset within. word-before old (to_be_bytes w16 number) offset within;
  put = word-at old [] (length old) number refl small;
}

-- a number is appended
pub puts : (number : ℕ) (old new : List ℕ) → number < 65536 → new ≡ old ++ to_be_bytes w16 number → Puts number old new
puts number old new small text = subst (Puts number old) (sym text) (appended number old small)
