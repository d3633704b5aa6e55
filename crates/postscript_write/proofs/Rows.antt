-- Texts of one length, one behind another.
use Rattle.std.proofs.Common.{◌≡◌, ap, subst, ◌∙◌, ℕ, zero, suc, ◌+◌, ◌*◌, ◌^◌, ◌<◌, List, [], ◌∷◌, ◌++◌, length, get_or, length-append, arith}
use Rattle.std.specs.Prelude.{flat_map}
use Rattle.std.proofs.lemmas.List.Concat.{flat_map-cons}
use Rattle.postscript_base.specs.Index.{number_at}
use Rattle.postscript_view.proofs.Agreeing.{number_is}
use Rattle.postscript_write.specs.Texts.{number_text, TextStands}
use Rattle.postscript_write.proofs.Standing.{length-number_text, number_stands, stands_first, stands_second}

pub rows_length : (text : ℕ → List ℕ) (width : ℕ) → ((n : ℕ) → length (text n) ≡ width) → (xs : List ℕ) →
    length (flat_map text xs) ≡ length xs * width
rows_length text width long [] = omega arith
rows_length text width long (x ∷ xs) =
    let all = ap length (flat_map-cons text x xs) ∙ length-append (text x) (flat_map text xs) in
    omega (arith, all, long x, rows_length text width long xs)

-- each stands in its place
pub row_stands : {bytes : List ℕ} (text : ℕ → List ℕ) (width : ℕ) → ((n : ℕ) → length (text n) ≡ width) → (xs : List ℕ) (place i d : ℕ) →
    i < length xs →
    TextStands (flat_map text xs) bytes place → TextStands (text (get_or xs i d)) bytes (place + i * width)
row_stands text width long [] place i d less s = absurd (omega (arith, less))
row_stands {bytes = bytes} text width long (x ∷ xs) place zero d less s =
    let here : place ≡ place + 0 * width = omega arith in
    subst (λ n. TextStands (text x) bytes n) here (stands_first (text x) (flat_map text xs) s)
row_stands {bytes = bytes} text width long (x ∷ xs) place (suc i) d less s =
    let rest : TextStands (flat_map text xs) bytes (place + length (text x)) = stands_second (text x) (flat_map text xs) s in
    let there : place + length (text x) + i * width ≡ place + suc i * width = omega (arith, long x) in
    subst (λ n. TextStands (text (get_or xs i d)) bytes n) there
    (row_stands text width long xs (place + length (text x)) i d (omega (arith, less)) rest)

-- a number that stands at a place is read there
pub number_read : {bytes : List ℕ} {place : ℕ} (size n : ℕ) → n < 2 ^ (8 * size) → TextStands (number_text size n) bytes place →
    number_at bytes place size ≡ n
number_read {bytes = bytes} {place = place} size n small s = number_is bytes place size n (number_stands size n small s)

-- what stands behind a number
pub behind_number : {bytes : List ℕ} {place : ℕ} (size n : ℕ) (rest : List ℕ) → TextStands (number_text size n ++ rest) bytes place →
    TextStands rest bytes (place + size)
behind_number {bytes = bytes} {place = place} size n rest s =
    subst (λ m. TextStands rest bytes (place + m)) (length-number_text size n) (stands_second (number_text size n) rest s)
