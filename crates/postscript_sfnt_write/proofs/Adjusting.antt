-- The sum of a whole file.
use Rattle.std.proofs.Common.{◌≡◌, refl, sym, ap, ◌∙◌, ℕ, zero, suc, ◌+◌, ◌-◌, ◌*◌, ◌%◌, ◌^◌, ◌<◌, Bool, true, false, List, [], ◌∷◌, ◌++◌, length, take, drop, length-append, sum, arith}
use Rattle.std.specs.Prelude.{if◌then◌else◌, replicate}
use Rattle.std.proofs.lemmas.Bool.Decides.{nat_tests}
use Rattle.postscript_base.specs.Numbers.{big_endian}
use Rattle.postscript_sfnt_write.specs.Checksum.{checksum, words}
use Rattle.postscript_sfnt_write.specs.Files.{IsAdjusted}
use Rattle.postscript_sfnt_write.specs.Layout.{IsWritten, checksums, directory_text, header_text, records_text, table_text, tables_text, zeros}
use Rattle.postscript_sfnt_write.specs.Tables.{IsGiven, TagsRise, adjusts, in_file, room_of}
use Rattle.postscript_sfnt_write.specs.declared.file.Table.{Table}
use Rattle.postscript_sfnt_write.proofs.Placing.{length-header_text, length-in_file, length-records_text, length-table_text, same_table}
use Rattle.postscript_sfnt_write.proofs.Sums.{adjusts-long, sum-cons, sum_with, with_none, with_number, words_append}

-- zeros up to a multiple of four bytes add nothing
words_filled : (bytes : List ℕ) → sum (words (bytes ++ zeros (length bytes))) ≡ sum (words bytes)
unfolding words
words_filled [] = refl
words_filled (p ∷ []) = refl
words_filled (p ∷ q ∷ []) = refl
words_filled (p ∷ q ∷ r ∷ []) = refl
words_filled (p ∷ q ∷ r ∷ s ∷ rest) =
    let n : ℕ = big_endian (p ∷ q ∷ r ∷ s ∷ []) in
    let same : room_of (length (p ∷ q ∷ r ∷ s ∷ rest)) - length (p ∷ q ∷ r ∷ s ∷ rest) ≡ room_of
    (length rest) - length rest = omega arith in
    ap (λ k. sum (n ∷ words (rest ++ replicate k 0))) same
    ∙ sum-cons n (words (rest ++ zeros (length rest))) ∙ ap (λ m. n + m) (words_filled rest) ∙ sym (sum-cons n (words rest))

-- the number for the whole file adds itself
abbrev own : (n : ℕ) → Table → ℕ
own n t = if adjusts t then n else 0

table_sum : (n : ℕ) (t : Table) → n < 2 ^ 32 → sum (words (table_text n t)) ≡ sum (words (in_file 0 t)) + own n t
unfolding table_text
table_sum n t small = by (adjusts t) refl
  where
    z : List ℕ
    z = zeros (length t.bytes.now)

    by : (b : Bool) → adjusts t ≡ b → sum (words (in_file n t ++ zeros (length t.bytes.now))) ≡ sum (words (in_file 0 t)) + own n t
    by false e =
        let none : own n t ≡ 0 = ap (λ b. if b then n else 0) e in
        ap (λ xs. sum (words (xs ++ zeros (length t.bytes.now)))) (with_none n t e) ∙ words_filled t.bytes.now
        ∙ ap (λ xs. sum (words xs)) (sym (with_none 0 t e))
        ∙ (let m : ℕ = sum (words (in_file 0 t)) in let on : m ≡ m + own n t = omega (arith, none) in on)
    by true e =
        let is : own n t ≡ n = ap (λ b. if b then n else 0) e in
        let bytes : List ℕ = t.bytes.now in
        let long : 11 < length bytes = adjusts-long t e in
        let a : ℕ = sum (words (take 8 bytes)) in
        let b : ℕ = sum (words (drop 12 bytes ++ zeros (length bytes))) in
        let here : sum (words (in_file n t ++ zeros (length bytes))) ≡ a + (n + b) = ap (λ xs. sum (words (xs ++ zeros (length bytes))))
        (with_number n t e) ∙ sum_with n bytes (zeros (length bytes)) small long in
        let there : sum (words (in_file 0 t ++ zeros (length bytes))) ≡ a + (0 + b) = ap (λ xs. sum (words (xs ++ zeros (length bytes))))
        (with_number 0 t e) ∙ sum_with 0 bytes (zeros (length bytes)) (omega arith) long in
        let filled : sum (words (in_file 0 t ++ zeros (length bytes))) ≡ sum (words (in_file 0 t)) = ap
        (λ k. sum (words (in_file 0 t ++ zeros k))) (sym (length-in_file 0 t)) ∙ words_filled (in_file 0 t) in
        omega (arith, is, here, there, filled)

-- of all tables
unfoldable owns : (n : ℕ) → List Table → ℕ
owns n [] = 0
owns n (t ∷ ts) = own n t + owns n ts

tables_sum : (n : ℕ) (ts : List Table) → n < 2 ^ 32 → sum (words (tables_text n ts)) % 2 ^ 32 ≡ (checksums ts + owns n ts) % 2 ^ 32
unfolding tables_text checksums owns words
tables_sum n [] small = refl
tables_sum n (t ∷ ts) small =
    let four : length (table_text n t) % 4 ≡ 0 = (let long = length-table_text n t in omega (arith, long)) in
    let parts : sum (words (table_text n t ++ tables_text n ts)) ≡ sum (words (table_text n t)) + sum
    (words (tables_text n ts)) = words_append (table_text n t) (tables_text n ts) four in
    let one = table_sum n t small in
    let rest = tables_sum n ts small in
    let here : checksum (in_file 0 t) ≡ sum (words (in_file 0 t)) % 2 ^ 32 = refl in
    omega (arith, parts, one, rest, here)

-- where tags rise no more than one table has a number for the whole file
is_head : (t : Table) → adjusts t ≡ true → t.tag ≡ 0x68656164
is_head t e = grind (arith, nat_tests)

owns_none : (n : ℕ) (ts : List Table) → ((i : ℕ) (t : Table) → IsGiven ts i t → adjusts t ≡ false) → owns n ts ≡ 0
unfolding owns
owns_none n [] all = refl
owns_none n (t ∷ ts) all =
    let none : own n t ≡ 0 = ap (λ b. if b then n else 0) (all 0 t refl) in
    let rest = owns_none n ts (λ i u e. all (suc i) u e) in
    omega (arith, none, rest)

not_head : (t : Table) → (t.tag ≡ 0x68656164 → ⊥) → adjusts t ≡ false
not_head t never = by (adjusts t) refl
  where
    by : (b : Bool) → adjusts t ≡ b → b ≡ false
    by false e = refl
    by true e = absurd (never (is_head t e))

owns_one : (n : ℕ) (ts : List Table) (i : ℕ) (t : Table) → TagsRise ts → IsGiven ts i t → adjusts t ≡ true → owns n ts ≡ n
unfolding owns
owns_one n [] i t rise e a = absurd (cc)
owns_one n (u ∷ us) zero t rise e a =
    let same : u ≡ t = same_table u t e in
    let is : own n u ≡ n = ap (λ b. if b then n else 0) (ap adjusts same ∙ a) in
    let tag : u.tag ≡ 0x68656164 = ap (λ (x : Table). x.tag) same ∙ is_head t a in
    let rest = owns_none n us
    (λ i v f. not_head v (λ h. (let less = rise 0 (suc i) u v (omega arith) refl f in omega (arith, less, h, tag)))) in
    omega (arith, is, rest)
owns_one n (u ∷ us) (suc i) t rise e a =
    let tag = is_head t a in
    let none : own n u ≡ 0 = ap (λ b. if b then n else 0)
    (not_head u (λ h. (let less = rise 0 (suc i) u t (omega arith) refl e in omega (arith, less, h, tag)))) in
    let rest = owns_one n us i t (λ j k v x less f g. rise (suc j) (suc k) v x (omega arith) f g) e a in
    omega (arith, none, rest)

balanced : (d t c n : ℕ) → t % 2 ^ 32 ≡ (c + n) % 2 ^ 32 →
    n ≡ ((0xb1b0afba + 2 ^ 32 - d % 2 ^ 32) % 2 ^ 32 + 2 ^ 32 - c % 2 ^ 32) % 2 ^ 32 → (d + t) % 2 ^ 32 ≡ 0xb1b0afba
balanced d t c n e f = omega arith

pub adjusted : (ts : List Table) (bytes : List ℕ) → TagsRise ts → IsWritten ts bytes → IsAdjusted bytes ts
adjusted ts bytes rise w i t e a =
    let h = header_text (length ts) w.selector in
    let r = records_text (12 + length ts * 16) ts in
    let d = directory_text w.selector ts in
    let body = tables_text w.adjustment ts in
    let long : length d ≡ 12 + length ts * 16 = length-append h r
    ∙ (let x = length-header_text (length ts) w.selector in let y = length-records_text (12 + length ts * 16) ts in omega (arith, x, y)) in
    let four : length d % 4 ≡ 0 = omega (arith, long) in
    let own_sum : sum (words body) % 2 ^ 32 ≡ (checksums ts + w.adjustment) % 2 ^ 32 = tables_sum w.adjustment ts w.small
    ∙ ap (λ m. (checksums ts + m) % 2 ^ 32) (owns_one w.adjustment ts i t rise e a) in
    ap checksum w.text ∙ ap (λ m. m % 2 ^ 32) (words_append d body four)
    ∙ balanced (sum (words d)) (sum (words body)) (checksums ts) w.adjustment own_sum w.adjusted
