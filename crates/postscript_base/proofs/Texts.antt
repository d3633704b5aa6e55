-- The texts of reals: the digits in front, and the exponent.
use Rattle.std.proofs.lemmas.Grind.{common_steps}
use Rattle.std.proofs.lemmas.Bool.Decides.{nat_tests}
use Rattle.std.proofs.Math.Seq.{drop-cons}
use Rattle.std.proofs.Common.{◌≡◌, refl, ap, subst, ◌∙◌, ℕ, ◌+◌, ◌-◌, ◌<◌, ◌≤◌, Bool, List, [], ◌∷◌, length, take, drop, get_or, nat_lt, Option, Some, length-drop, arith, if◌then◌else◌}
use Rattle.std.specs.List.{prefix_len}
use Rattle.std.proofs.lemmas.Bool.{lt-ltb, eq-eqb}
use Rattle.std.proofs.lemmas.List.Sums.{prefix_len-le-length}
use Rattle.postscript_base.specs.Compact1.Decimal.{IsDigits}
use Rattle.postscript_base.specs.Compact1.Reals.{digits_of, is_exponent_negative, is_digit, exponent_at, exponent_digits, after_sign}

pub digits_are : (text : List ℕ) → IsDigits (digits_of text)
digits_are [] = λ k lt. absurd (omega arith)
digits_are (x ∷ xs) = by (nat_lt x 10) refl (digits_are xs)
  where
    by : (t : Bool) → nat_lt x 10 ≡ t → IsDigits (digits_of xs) → IsDigits (take (if t then (1 + prefix_len is_digit xs) else 0) (x ∷ xs))
    by t e more = grind arith

take_all : (xs : List ℕ) (n : ℕ) → length xs ≤ n → take n xs ≡ xs
take_all xs n h = grind (arith, nat_tests, common_steps)

pub all_digits : (text : List ℕ) → length text ≤ prefix_len is_digit text → IsDigits text
all_digits text h = subst IsDigits (take_all text (prefix_len is_digit text) h) (digits_are text)

-- an exponent that is found
pub record FoundPower (text : List ℕ) (down : Bool) (digits : List ℕ) : Type 0 where
  pub exponent : Option (Bool × List ℕ)
  pub found : exponent_at text ≡ Some exponent
  pub down_is : down ≡ is_exponent_negative exponent
  pub digits_is : digits ≡ exponent_digits exponent

pub exponent_found : (text : List ℕ) (n : ℕ) (ns : List ℕ) (down : Bool) (digits : List ℕ) → text ≡ n ∷ ns → n ≡ 11 →
    down ≡ (after_sign ns).0 → digits ≡ (after_sign ns).1 →
    0 < length digits → length digits ≤ prefix_len is_digit digits → FoundPower text down digits
exponent_found text n ns down digits text_is mark down_is digits_is some all = record {
  exponent = Some (after_sign ns);
  found = ap exponent_at text_is ∙ (grind (arith, prefix_len-le-length, eq-eqb, lt-ltb));
  down_is = down_is;
  digits_is = digits_is;
}

pub front_is : (text : List ℕ) → 0 < length text → text ≡ get_or text 0 0 ∷ take (length text - 1) (drop 1 text)
front_is text some = grind (arith, length-drop, drop-cons, take_all)
