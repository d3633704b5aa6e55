-- Numbers at a place, by the bytes that stand there.
use Rattle.std.proofs.Math.Seq.{drop-cons}
use Rattle.std.proofs.Common.{◌≡◌, ap, sym, ◌∙◌, ℕ, ◌+◌, ◌*◌, ◌<◌, ◌≤◌, List, [], ◌∷◌, length, take, drop, get_or, add-one, arith, refl}
use Rattle.postscript_base.specs.Numbers.{big_endian}
use Rattle.postscript_base.specs.Index.{number_at}

drop-next : (bytes : List ℕ) (place : ℕ) → place < length bytes → drop place bytes ≡ get_or bytes place 0 ∷ drop (place + 1) bytes
drop-next bytes place h = drop-cons bytes place 0 h ∙ ap (λ k. get_or bytes place 0 ∷ drop k bytes) (sym (add-one place))

-- the bytes at a place
one-at : (bytes : List ℕ) (place : ℕ) → place + 1 ≤ length bytes → take 1 (drop place bytes) ≡ get_or bytes place 0 ∷ []
one-at bytes place h = ap (take 1) (drop-cons bytes place 0 (omega arith))

two-at : (bytes : List ℕ) (place : ℕ) → place + 2 ≤ length bytes →
    take 2 (drop place bytes) ≡ get_or bytes place 0 ∷ get_or bytes (place + 1) 0 ∷ []
two-at bytes place h =
    ap (take 2) (drop-next bytes place (omega arith)) ∙ ap (λ xs. get_or bytes place 0 ∷ xs) (one-at bytes (place + 1) (omega arith))

three-at : (bytes : List ℕ) (place : ℕ) → place + 3 ≤ length bytes →
    take 3 (drop place bytes) ≡ get_or bytes place 0 ∷ get_or bytes (place + 1) 0 ∷ get_or bytes (place + 2) 0 ∷ []
three-at bytes place h =
    let on : place + 1 + 1 ≡ place + 2 = omega arith in
    ap (take 3) (drop-next bytes place (omega arith))
    ∙ ap (λ xs. get_or bytes place 0 ∷ xs)
    (two-at bytes (place + 1) (omega arith) ∙ ap (λ k. get_or bytes (place + 1) 0 ∷ get_or bytes k 0 ∷ []) on)

four-at : (bytes : List ℕ) (place : ℕ) → place + 4 ≤ length bytes →
    take 4 (drop place bytes) ≡ get_or bytes place 0 ∷ get_or bytes (place + 1) 0 ∷ get_or bytes (place + 2) 0 ∷ get_or bytes
    (place + 3) 0 ∷ []
four-at bytes place h =
    let two_on : place + 1 + 1 ≡ place + 2 = omega arith in
    let three_on : place + 1 + 2 ≡ place + 3 = omega arith in
    ap (take 4) (drop-next bytes place (omega arith))
    ∙ ap (λ xs. get_or bytes place 0 ∷ xs) (three-at bytes (place + 1) (omega arith)
    ∙ ap (λ k. get_or bytes (place + 1) 0 ∷ get_or bytes k 0 ∷ get_or bytes (place + 1 + 2) 0 ∷ []) two_on
    ∙ ap (λ k. get_or bytes (place + 1) 0 ∷ get_or bytes (place + 2) 0 ∷ get_or bytes k 0 ∷ []) three_on)

pub of_none : (bytes : List ℕ) (place : ℕ) → number_at bytes place 0 ≡ 0
unfolding number_at
of_none bytes place = refl

pub of_one : (bytes : List ℕ) (place : ℕ) → place + 1 ≤ length bytes → number_at bytes place 1 ≡ get_or bytes place 0
unfolding number_at
of_one bytes place h =
    let value : big_endian (get_or bytes place 0 ∷ []) ≡ get_or bytes place 0 = omega arith in
    ap big_endian (one-at bytes place h) ∙ value

pub of_two : (bytes : List ℕ) (place : ℕ) → place + 2 ≤ length bytes →
    number_at bytes place 2 ≡ get_or bytes place 0 * 256 + get_or bytes (place + 1) 0
unfolding number_at
of_two bytes place h =
    let value : big_endian (get_or bytes place 0 ∷ get_or bytes (place + 1) 0 ∷ []) ≡ get_or bytes place 0 * 256 + get_or bytes
    (place + 1) 0 = omega arith in
    ap big_endian (two-at bytes place h) ∙ value

pub of_three : (bytes : List ℕ) (place : ℕ) → place + 3 ≤ length bytes →
    number_at bytes place 3 ≡ get_or bytes place 0 * 65536 + get_or bytes (place + 1) 0 * 256 + get_or bytes (place + 2) 0
unfolding number_at
of_three bytes place h =
    let value : big_endian (get_or bytes place 0 ∷ get_or bytes (place + 1) 0 ∷ get_or bytes (place + 2) 0 ∷ []) ≡ get_or bytes place
    0 * 65536 + get_or bytes (place + 1) 0 * 256 + get_or bytes (place + 2) 0 = omega arith in
    ap big_endian (three-at bytes place h) ∙ value

pub of_four : (bytes : List ℕ) (place : ℕ) → place + 4 ≤ length bytes →
    number_at bytes place 4 ≡ get_or bytes place 0 * 16777216 + get_or bytes (place + 1) 0 * 65536 + get_or bytes
    (place + 2) 0 * 256 + get_or bytes (place + 3) 0
unfolding number_at
of_four bytes place h =
    let value : big_endian (get_or bytes place 0 ∷ get_or bytes (place + 1) 0 ∷ get_or bytes (place + 2) 0 ∷ get_or bytes
    (place + 3) 0 ∷ []) ≡ get_or bytes place 0 * 16777216 + get_or bytes (place + 1) 0 * 65536 + get_or bytes
    (place + 2) 0 * 256 + get_or bytes (place + 3) 0 = omega arith in
    ap big_endian (four-at bytes place h) ∙ value
