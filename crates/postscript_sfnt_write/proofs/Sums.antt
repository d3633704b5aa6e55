-- Sums of numbers of four bytes.
use Rattle.std.proofs.Common.{◌≡◌, refl, sym, ap, ◌∙◌, ℕ, ◌+◌, ◌%◌, ◌^◌, ◌<◌, true, false, List, [], ◌∷◌, ◌++◌, length, take, drop, sum, arith}
use Rattle.std.proofs.Math.Nat.{add-mod-mod, mod-add-mod}
use Rattle.std.proofs.lemmas.List.{append_assoc, append-nil, length-take-le}
use Rattle.std.proofs.lemmas.Nat.{from_be_bytes-to_be_bytes_4}
use Rattle.std.proofs.lemmas.List.Sums.{sum_by-cons}
use Rattle.std.specs.Prelude.{if◌then◌else◌}
use Rattle.std.proofs.lemmas.Bool.Decides.{nat_tests}
use Rattle.postscript_base.specs.Numbers.{big_endian}
use Rattle.postscript_sfnt_write.specs.Checksum.{checksum, words}
use Rattle.postscript_sfnt_write.specs.Numbers.{uint32}
use Rattle.postscript_sfnt_write.specs.Tables.{adjusts, in_file}
use Rattle.postscript_sfnt_write.specs.declared.file.Table.{Table}

pub sum-cons : (n : ℕ) (ns : List ℕ) → sum (n ∷ ns) ≡ n + sum ns
sum-cons n ns = sum_by-cons (λ m. m) n ns

pub words_append : (a b : List ℕ) → length a % 4 ≡ 0 → sum (words (a ++ b)) ≡ sum (words a) + sum (words b)
unfolding words
words_append [] b h = omega arith
words_append (p ∷ []) b h = absurd (omega arith)
words_append (p ∷ q ∷ []) b h = absurd (omega arith)
words_append (p ∷ q ∷ r ∷ []) b h = absurd (omega arith)
words_append (p ∷ q ∷ r ∷ s ∷ rest) b h =
    let less : length rest % 4 ≡ 0 = omega arith in
    let e = words_append rest b less in
    let n : ℕ = big_endian (p ∷ q ∷ r ∷ s ∷ []) in
    let f : sum (n ∷ words (rest ++ b)) ≡ n + sum (words (rest ++ b)) = sum-cons n (words (rest ++ b)) in
    let g : sum (n ∷ words rest) ≡ n + sum (words rest) = sum-cons n (words rest) in
    f ∙ ap (λ m. n + m) e ∙ (let on : n + (sum (words rest) + sum (words b)) ≡ n + sum (words rest) + sum (words b) = omega arith in on)
    ∙ ap (λ m. m + sum (words b)) (sym g)

pub length-uint32 : (n : ℕ) → length (uint32 n) ≡ 4
unfolding uint32
length-uint32 n = refl

pub value-uint32 : (n : ℕ) → n < 2 ^ 32 → big_endian (uint32 n) ≡ n
unfolding uint32
value-uint32 n small = let e = from_be_bytes-to_be_bytes_4 n small in omega (arith, e)

pub words-uint32 : (n : ℕ) (b : List ℕ) → n < 2 ^ 32 → sum (words (uint32 n ++ b)) ≡ n + sum (words b)
unfolding uint32 words
words-uint32 n b small = sum-cons (big_endian (uint32 n)) (words b) ∙ ap (λ m. m + sum (words b)) (value-uint32 n small)

-- a table with a number for the whole file
pub with_number : (n : ℕ) (table : Table) → adjusts table ≡ true →
    in_file n table ≡ take 8 table.bytes.now ++ (uint32 n ++ drop 12 table.bytes.now)
with_number n table e = ap (λ b. if b then take 8 table.bytes.now ++ (uint32 n ++ drop 12 table.bytes.now) else table.bytes.now) e

pub with_none : (n : ℕ) (table : Table) → adjusts table ≡ false → in_file n table ≡ table.bytes.now
with_none n table e = ap (λ b. if b then take 8 table.bytes.now ++ (uint32 n ++ drop 12 table.bytes.now) else table.bytes.now) e

pub adjusts-long : (table : Table) → adjusts table ≡ true → 11 < length table.bytes.now
adjusts-long table e = grind (arith, nat_tests)

-- its sum
pub sum_with : (n : ℕ) (bytes behind : List ℕ) → n < 2 ^ 32 → 11 < length bytes →
    sum (words ((take 8 bytes ++ (uint32 n ++ drop 12 bytes)) ++ behind)) ≡ sum
    (words (take 8 bytes)) + (n + sum (words (drop 12 bytes ++ behind)))
sum_with n bytes behind small long =
    let eight : length (take 8 bytes) ≡ 8 = length-take-le 8 bytes (omega arith) in
    let whole : length (take 8 bytes) % 4 ≡ 0 = omega arith in
    ap (λ xs. sum (words xs))
    (append_assoc (take 8 bytes) (uint32 n ++ drop 12 bytes) behind
    ∙ ap (λ xs. take 8 bytes ++ xs) (append_assoc (uint32 n) (drop 12 bytes) behind))
    ∙ words_append (take 8 bytes) (uint32 n ++ (drop 12 bytes ++ behind)) whole
    ∙ ap (λ m. sum (words (take 8 bytes)) + m) (words-uint32 n (drop 12 bytes ++ behind) small)

-- what a record says of it
pub recorded_sum : (table : Table) → adjusts table ≡ true →
    (checksum (take 8 table.bytes.now) + checksum (drop 12 table.bytes.now)) % 2 ^ 32 ≡ checksum (in_file 0 table)
recorded_sum table e =
    let a : ℕ = sum (words (take 8 table.bytes.now)) in
    let b : ℕ = sum (words (drop 12 table.bytes.now)) in
    let none : drop 12 table.bytes.now ++ [] ≡ drop 12 table.bytes.now = append-nil (drop 12 table.bytes.now) in
    let parts : sum (words (in_file 0 table)) ≡ a + b =
    ap (λ xs. sum (words xs)) (with_number 0 table e ∙ sym (append-nil (take 8 table.bytes.now ++ (uint32 0 ++ drop 12 table.bytes.now))))
    ∙ sum_with 0 table.bytes.now [] (omega arith) (adjusts-long table e)
    ∙ ap (λ xs. a + (0 + sum (words xs))) none ∙ omega arith in
    add-mod-mod (a % 2 ^ 32) b (2 ^ 32) ∙ mod-add-mod a (2 ^ 32) b ∙ ap (λ m. m % 2 ^ 32) (sym parts)
