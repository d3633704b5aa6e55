-- The charset is one piece of two: the one of format 0, or the last one.
use Rattle.std.proofs.Common.{◌≡◌, ◌∙◌, sym, refl, ap, ℕ, ◌+◌, ◌≤◌, List, [], ◌∷◌, length, drop, Option, Some, None, Bool, true, false, Vec, if◌then◌else◌, arith}
use Rattle.std.specs.Option.{option_or}
use Rattle.std.specs.declared.alloc.Global.{Global}
use Rattle.std.proofs.lemmas.Bool.{eqb-true, eqb-false}
use Rattle.postscript_base.specs.Index.{number_at}
use Rattle.postscript_base.specs.declared.compact1.operator.Operator.TheVariants.{CharSet}
use Rattle.postscript_base.proofs.NumbersAt.{of_one}
use Rattle.postscript_write.specs.Pieces.{is_listed, listed_set, piece_if, place_of, ranges_set, text_of}
use Rattle.postscript_write.proofs.PlacesNamed.{named_by}

-- the offset of the charset, given those of the two pieces
abbrev pub set_at : Option (Vec ℕ Global) → (first last : ℕ) → ℕ
set_at None first last = last
set_at (Some char_set) first last = if is_listed char_set.items then first else last

pub set_length : (char_set : Option (Vec ℕ Global)) →
    length (text_of (listed_set char_set)) + length (text_of (ranges_set char_set)) ≡ length (text_of char_set)
set_length None = omega arith
set_length (Some text) = by (is_listed text.items)
  where
    by : (b : Bool) → length (text_of (if b then Some text else None)) + length (text_of (if b then None else Some text)) ≡ length text.items
    by true = omega arith
    by false = omega arith

-- one of the two is the charset, and the other is nothing
pub listed_is : (char_set : Option (Vec ℕ Global)) → is_listed (text_of char_set) ≡ true → listed_set char_set ≡ char_set
listed_is None e = absurd (cc)
listed_is (Some text) e = ap (λ b. if b then Some text else None) e

pub listed_none : (char_set : Option (Vec ℕ Global)) → is_listed (text_of char_set) ≡ false → listed_set char_set ≡ None
listed_none None e = refl
listed_none (Some text) e = ap (λ b. if b then Some text else None) e

pub ranges_is : (char_set : Option (Vec ℕ Global)) → is_listed (text_of char_set) ≡ false → ranges_set char_set ≡ char_set
ranges_is None e = refl
ranges_is (Some text) e = ap (λ b. if b then None else Some text) e

pub ranges_none : (char_set : Option (Vec ℕ Global)) → is_listed (text_of char_set) ≡ true → ranges_set char_set ≡ None
ranges_none None e = refl
ranges_none (Some text) e = ap (λ b. if b then None else Some text) e

-- the operator of the charset has one offset
pub one_named : (char_set : Option (Vec ℕ Global)) (first last : ℕ) →
    option_or (named_by (place_of (piece_if CharSet (ranges_set char_set)) last) CharSet)
    (named_by (place_of (piece_if CharSet (listed_set char_set)) first) CharSet)
    ≡ named_by (place_of (piece_if CharSet char_set) (set_at char_set first last)) CharSet
one_named None first last = refl
one_named (Some text) first last = by (is_listed text.items)
  where
    by : (b : Bool) → option_or (named_by (place_of (piece_if CharSet (if b then None else Some text)) last) CharSet)
        (named_by (place_of (piece_if CharSet (if b then Some text else None)) first) CharSet)
        ≡ named_by (place_of (piece_if CharSet (Some text)) (if b then first else last)) CharSet
    by true = refl
    by false = refl

-- a fact about both pieces is one about the charset
pub of_both : (P : Option (Vec ℕ Global) → ℕ → Type 0) (char_set : Option (Vec ℕ Global)) (first last : ℕ) →
    P (listed_set char_set) first → P (ranges_set char_set) last → P char_set (set_at char_set first last)
of_both P None first last one other = other
of_both P (Some text) first last one other = by (is_listed text.items) one other
  where
    by : (b : Bool) → P (if b then Some text else None) first → P (if b then None else Some text) last → P (Some text) (if b then first else last)
    by true one other = one
    by false one other = other

-- a charset of ranges ends with the bytes
abbrev pub EndsBytes : Option (Vec ℕ Global) → List ℕ → ℕ → Type 0
EndsBytes None out place = Unit {0}
EndsBytes (Some text) out place = is_listed text.items ≡ false → drop place out ≡ text.items

pub ranges_last : (char_set : Option (Vec ℕ Global)) (out : List ℕ) (first last : ℕ) → drop last out ≡ text_of (ranges_set char_set) →
    EndsBytes char_set out (set_at char_set first last)
ranges_last None out first last is = tt
ranges_last (Some text) out first last is = by (is_listed text.items) is
  where
    by : (b : Bool) → drop last out ≡ text_of (if b then None else Some text) → b ≡ false → drop (if b then first else last) out ≡ text.items
    by true is other = absurd (cc)
    by false is other = is

-- the format is the first byte
pub listed_number : (text : List ℕ) → 1 ≤ length text → is_listed text ≡ true → number_at text 0 1 ≡ 0
listed_number [] some is = absurd (omega (arith, some))
listed_number (b ∷ bs) some is = of_one (b ∷ bs) 0 some ∙ eqb-true b 0 is

pub other_number : (text : List ℕ) → 1 ≤ length text → is_listed text ≡ false → number_at text 0 1 ≡ 0 → ⊥
other_number [] some is zero = absurd (omega (arith, some))
other_number (b ∷ bs) some is zero = eqb-false b 0 is (sym (of_one (b ∷ bs) 0 some) ∙ zero)

pub not_listed : (text : List ℕ) → 1 ≤ length text → 1 ≤ number_at text 0 1 → is_listed text ≡ false
not_listed text some high = by (is_listed text) refl
  where
    by : (b : Bool) → is_listed text ≡ b → is_listed text ≡ false
    by true e = absurd (omega (arith, high, listed_number text some e))
    by false e = e
