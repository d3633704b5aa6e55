-- Texts are read as the reals that they spell, and no others are.
use Rattle.std.proofs.Common.{◌≡◌, refl, sym, ap, subst, ◌∙◌, ℕ, zero, suc, ◌<◌, Bool, true, false, List, [], ◌∷◌, ◌++◌, length, take, drop, nat_lt, ◌==◌, Option, Some, None, IfSome, arith}
use Rattle.std.specs.List.{prefix_len}
use Rattle.std.proofs.lemmas.List.{take-append-drop}
use Rattle.std.proofs.Math.Seq.{take-append_seam, drop-append_seam}
use Rattle.std.proofs.lemmas.Bool.{lt-ltb, ltb-true, eq-eqb}
use Rattle.std.proofs.lemmas.Bool.Decides.{nat_tests}
use Rattle.std.proofs.lemmas.List.Folds.{prefix_len-append}
use Rattle.postscript_base.specs.Compact1.Decimal.{IsDigits}
use Rattle.postscript_base.specs.Compact1.Reals.{IsReal, ReadsSpellings, Real, after_digits, digits_of, is_digit, joined, minus, fraction_at, fraction_digits, fraction_symbols, exponent_at, real_of, after_sign, spelling, exponent_symbols}
use Rattle.postscript_base.proofs.Texts.{all_digits, digits_are}

-- digits as far as a text goes
all_pass : (ds : List ℕ) → IsDigits ds → prefix_len is_digit ds ≡ length ds
all_pass [] h = refl
all_pass (d ∷ ds) h = rw (lt-ltb d 10 (h zero (omega arith)), all_pass ds (λ k lt. h (suc k) (omega arith))) (omega arith)

-- a text does not begin with a digit
abbrev EndsDigits : List ℕ → Type 0
EndsDigits rest = prefix_len is_digit rest ≡ 0

front_digits : (ds rest : List ℕ) → IsDigits ds → EndsDigits rest → digits_of (ds ++ rest) ≡ ds
front_digits ds rest h stop =
    ap (λ n. take n (ds ++ rest))
    (prefix_len-append is_digit ds rest ∙ rw (all_pass ds h, stop, eq-eqb (length ds) (length ds) refl) (omega arith))
    ∙ take-append_seam ds rest

behind_digits : (ds rest : List ℕ) → IsDigits ds → EndsDigits rest → after_digits (ds ++ rest) ≡ rest
behind_digits ds rest h stop =
    ap (λ n. drop n (ds ++ rest))
    (prefix_len-append is_digit ds rest ∙ rw (all_pass ds h, stop, eq-eqb (length ds) (length ds) refl) (omega arith))
    ∙ drop-append_seam ds rest

-- a minus in front is read as one where the rest does not begin with a minus
abbrev NoMinus : List ℕ → Type 0
NoMinus rest = after_sign rest ≡ (false, rest)

signs : (negative : Bool) (rest : List ℕ) → NoMinus rest → after_sign (minus negative ++ rest) ≡ (negative, rest)
signs negative rest h = grind arith

digit_first : (d : ℕ) (ds : List ℕ) → d < 10 → NoMinus (d ∷ ds)
digit_first d ds lt = let no : (d == 14) ≡ false = grind (arith, nat_tests) in rw no refl

fractions_end : (fraction : Option (List ℕ)) (exponent : Option (Bool × List ℕ)) →
    EndsDigits (fraction_symbols fraction ++ exponent_symbols exponent)
fractions_end fraction exponent = grind arith

fractions : (fraction : Option (List ℕ)) (exponent : Option (Bool × List ℕ)) → IsDigits (fraction_digits fraction) →
    fraction_at (fraction_symbols fraction ++ exponent_symbols exponent) ≡ (fraction, exponent_symbols exponent)
fractions fraction exponent h = grind (arith, front_digits, behind_digits)

exponents : (exponent : Option (Bool × List ℕ)) → IfSome exponent (λ p. IsDigits p.1 × (0 < length p.1)) →
    exponent_at (exponent_symbols exponent) ≡ Some exponent
exponents exponent h = grind (arith, all_pass, lt-ltb, eq-eqb)

unsigned : (r : Real) → IsReal r → NoMinus (r.whole ++ (fraction_symbols r.fraction ++ exponent_symbols r.exponent))
unsigned r h = by r.whole r.fraction h.whole h.some
  where
    by : (whole : List ℕ) (fraction : Option (List ℕ)) → IsDigits whole → 0 < length (whole ++ fraction_digits fraction) →
        NoMinus (whole ++ (fraction_symbols fraction ++ exponent_symbols r.exponent))
    by [] None digits some = absurd (omega arith)
    by [] (Some fraction) digits some = refl
    by (d ∷ ds) fraction digits some = digit_first d _ (digits zero (omega arith))

spelled : (r : Real) → IsReal r → real_of (spelling r) ≡ Some r
unfolding real_of
spelled r h = grind (arith, signs, unsigned, front_digits, fractions_end, behind_digits, fractions, exponents, lt-ltb)

-- what is read is all of the text
sign_back : (text : List ℕ) → minus (after_sign text).0 ++ (after_sign text).1 ≡ text
sign_back text = grind arith

digits_back : (text : List ℕ) → digits_of text ++ after_digits text ≡ text
digits_back text = take-append-drop (prefix_len is_digit text) text

-- an exponent that is read is all of what stands there
pub record IsExponentOf (text : List ℕ) (exponent : Option (Bool × List ℕ)) : Type 0 where
  pub spelled : exponent_symbols exponent ≡ text
  pub digits : IfSome exponent (λ p. IsDigits p.1 × (0 < length p.1))

exponent_back : (text : List ℕ) (exponent : Option (Bool × List ℕ)) → exponent_at text ≡ Some exponent → IsExponentOf text exponent
exponent_back text exponent e = grind (arith, spelled, nat_tests, sign_back, all_digits)

joined_back : (text : List ℕ) (negative : Bool) (whole : List ℕ) (fraction : Option (List ℕ)) (rest : List ℕ)
    (exponent : Option (Option (Bool × List ℕ))) (r : Real) → IsDigits whole → IsDigits (fraction_digits fraction) →
    exponent_at rest ≡ exponent → joined negative whole fraction exponent ≡ Some r → IsReal
    r × (spelling r ≡ minus negative ++ (whole ++ (fraction_symbols fraction ++ rest)))
joined_back text negative whole fraction rest None r w p at e = absurd cc
joined_back text negative whole fraction rest (Some exponent) r w p at e = by (nat_lt 0 (length (whole ++ fraction_digits fraction))) refl
  where
    by : (b : Bool) → nat_lt 0 (length (whole ++ fraction_digits fraction)) ≡ b →
        IsReal r × (spelling r ≡ minus negative ++ (whole ++ (fraction_symbols fraction ++ rest)))
    by false f = let no : None ≡ Some r = sym (rw f refl) ∙ e in absurd cc
    by true f =
        let read : Real = record { negative = negative; whole = whole; fraction = fraction; exponent = exponent } in
        let is : Some read ≡ Some r = sym (rw f refl) ∙ e in
        let r_is : read ≡ r = cc in
        let back = exponent_back rest exponent at in
        subst (λ r. IsReal r × (spelling r ≡ minus negative ++ (whole ++ (fraction_symbols fraction ++ rest)))) r_is (
          record { whole = w; fraction = p; some = ltb-true 0 _ f; exponent = back.digits },
          ap (λ all. minus negative ++ (whole ++ (fraction_symbols fraction ++ all))) back.spelled,
        )

alone : (text : List ℕ) (r : Real) → real_of text ≡ Some r → IsReal r × (spelling r ≡ text)
unfolding real_of
alone text r e =
    let s = after_sign text in
    let behind = after_digits s.1 in
    let found = joined_back text s.0 (digits_of s.1) (fraction_at behind).0 (fraction_at behind).1 (exponent_at (fraction_at behind).1) r
    (digits_are s.1) (grind (arith, digits_are)) refl e in (
      found.0,
      found.1 ∙ ap (λ all. minus s.0 ++ (digits_of s.1 ++ all)) (grind (arith, nat_tests, digits_back))
          ∙ ap (λ all. minus s.0 ++ all) (digits_back s.1) ∙ sign_back text,
    )

pub reads_spellings : ReadsSpellings
reads_spellings = record { spelled = spelled; alone = alone }
