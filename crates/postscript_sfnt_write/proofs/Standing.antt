-- Texts at places.
use Rattle.std.proofs.Common.{◌≡◌, refl, sym, ap, subst, ◌∙◌, ℕ, ◌+◌, ◌^◌, ◌≤◌, ◌<◌, List, ◌++◌, length, take, drop, length-append, length-drop, arith}
use Rattle.std.proofs.lemmas.List.{append_assoc, drop-drop}
use Rattle.std.proofs.lemmas.Nat.{from_be_bytes-to_be_bytes_2}
use Rattle.std.proofs.Math.Seq.{drop-append_seam, take-append_seam}
use Rattle.postscript_base.specs.Numbers.{big_endian}
use Rattle.postscript_base.specs.Index.{number_at}
use Rattle.postscript_sfnt_write.specs.Numbers.{uint16, uint32}
use Rattle.postscript_sfnt_write.proofs.Sums.{length-uint32, value-uint32}

-- a text stands at a place
pub record Stands (text bytes : List ℕ) (place : ℕ) : Type 0 where
  pub within : place ≤ length bytes
  pub behind : List ℕ
  pub there : drop place bytes ≡ text ++ behind

pub stands_amid : (front text behind : List ℕ) → Stands text (front ++ (text ++ behind)) (length front)
stands_amid front text behind = record {
  within = omega (arith, length-append front (text ++ behind));
  behind = behind;
  there = drop-append_seam front (text ++ behind);
}

pub stands_first : {bytes : List ℕ} {place : ℕ} (a b : List ℕ) → Stands (a ++ b) bytes place → Stands a bytes place
stands_first a b s = record {
  within = s.within;
  behind = b ++ s.behind;
  there = s.there ∙ append_assoc a b s.behind;
}

pub stands_within : {bytes : List ℕ} {place : ℕ} (text : List ℕ) → Stands text bytes place → place + length text ≤ length bytes
stands_within {bytes = bytes} {place = place} text s =
    let within : place ≤ length bytes = s.within in
    let long : length (drop place bytes) ≡ length text + length s.behind = ap length s.there ∙ length-append text s.behind in
    omega (arith, length-drop place bytes)

-- what stands behind the first of two texts, of so many bytes
pub stands_second : {bytes : List ℕ} {place : ℕ} (a b : List ℕ) (n : ℕ) → length a ≡ n → Stands (a ++ b) bytes place →
    Stands b bytes (place + n)
stands_second {bytes = bytes} {place = place} a b n e s =
    let long : place + length a ≤ length bytes = stands_within a (stands_first a b s) in
    let there : Stands b bytes (place + length a) = record {
      within = long;
      behind = s.behind;
      there = sym (drop-drop (length a) place bytes) ∙ ap (drop (length a)) (s.there ∙ append_assoc a b s.behind)
          ∙ drop-append_seam a (b ++ s.behind);
    } in
    subst (λ m. Stands b bytes (place + m)) e there

pub stands_dropped : {bytes : List ℕ} (text : List ℕ) (place : ℕ) → Stands text bytes place → Stands text (drop place bytes) 0
stands_dropped text place s = record { within = omega arith; behind = s.behind; there = s.there }

pub stands_slice : {bytes : List ℕ} {place : ℕ} (text : List ℕ) → Stands text bytes place → take (length text) (drop place bytes) ≡ text
stands_slice text s = ap (take (length text)) s.there ∙ take-append_seam text s.behind

pub length-uint16 : (n : ℕ) → length (uint16 n) ≡ 2
unfolding uint16
length-uint16 n = refl

value-uint16 : (n : ℕ) → n < 2 ^ 16 → big_endian (uint16 n) ≡ n
unfolding uint16
value-uint16 n small = let e = from_be_bytes-to_be_bytes_2 n small in omega (arith, e)

pub uint32_stands : {bytes : List ℕ} {place : ℕ} (n : ℕ) → n < 2 ^ 32 → Stands (uint32 n) bytes place → number_at bytes place 4 ≡ n
unfolding number_at
uint32_stands {bytes = bytes} {place = place} n small s =
    ap (λ m. big_endian (take m (drop place bytes))) (sym (length-uint32 n)) ∙ ap big_endian (stands_slice (uint32 n) s)
    ∙ value-uint32 n small

pub uint16_stands : {bytes : List ℕ} {place : ℕ} (n : ℕ) → n < 2 ^ 16 → Stands (uint16 n) bytes place → number_at bytes place 2 ≡ n
unfolding number_at
uint16_stands {bytes = bytes} {place = place} n small s =
    ap (λ m. big_endian (take m (drop place bytes))) (sym (length-uint16 n)) ∙ ap big_endian (stands_slice (uint16 n) s)
    ∙ value-uint16 n small
