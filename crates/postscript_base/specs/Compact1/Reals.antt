-- Reals in dictionaries: their texts and values (Technical Note 5176, "DICT Data", Table 5).
use Rattle.std.specs.Prelude.{◌≡◌, ℕ, ◌<◌, ◌+◌, Bool, true, false, ◌&&◌, List, [], ◌∷◌, ◌++◌, length, drop, take_while, Option, Some, None, IfSome, ◌==◌, nat_lt, if◌then◌else◌}
use Rattle.std.specs.List.{prefix_len}
use Rattle.postscript_base.specs.Compact1.Decimal.{Decimal, IsDigits, real_value}

-- The symbols in the text of a real: the digits 0 to 9, a point, an E and a minus.
abbrev pub point_symbol : ℕ
point_symbol = 10

abbrev pub e_symbol : ℕ
e_symbol = 11

abbrev pub minus_symbol : ℕ
minus_symbol = 14

-- A real as it is written: a sign, the digits before and after the point, and an exponent with a sign of its own.
pub record Real : Type 0 where
  pub negative : Bool
  pub whole : List ℕ
  pub fraction : Option (List ℕ)
  pub exponent : Option (Bool × List ℕ)

abbrev pub minus : Bool → List ℕ
minus true = minus_symbol ∷ []
minus false = []

abbrev pub fraction_symbols : Option (List ℕ) → List ℕ
fraction_symbols None = []
fraction_symbols (Some fraction) = point_symbol ∷ fraction

abbrev pub exponent_symbols : Option (Bool × List ℕ) → List ℕ
exponent_symbols None = []
exponent_symbols (Some exponent) = e_symbol ∷ minus exponent.0 ++ exponent.1

-- the text of a real
abbrev pub spelling : Real → List ℕ
spelling r = minus r.negative ++ (r.whole ++ (fraction_symbols r.fraction ++ exponent_symbols r.exponent))

abbrev pub fraction_digits : Option (List ℕ) → List ℕ
fraction_digits None = []
fraction_digits (Some fraction) = fraction

abbrev pub is_exponent_negative : Option (Bool × List ℕ) → Bool
is_exponent_negative None = false
is_exponent_negative (Some exponent) = exponent.0

abbrev pub exponent_digits : Option (Bool × List ℕ) → List ℕ
exponent_digits None = []
exponent_digits (Some exponent) = exponent.1

-- There is a digit before the point or after it, and in the exponent, if there is one.
pub record IsReal (r : Real) : Type 0 where
  pub whole : IsDigits r.whole
  pub fraction : IsDigits (fraction_digits r.fraction)
  pub some : 0 < length (r.whole ++ fraction_digits r.fraction)
  pub exponent : IfSome r.exponent (λ exponent. IsDigits exponent.1 × (0 < length exponent.1))

abbrev pub value_of : Real → Decimal
value_of r = real_value r.negative r.whole (fraction_digits r.fraction) (is_exponent_negative r.exponent) (exponent_digits r.exponent)

-- A text is parsed from the left: first a minus, if there is one, and the rest of the text.
abbrev pub after_sign : List ℕ → Bool × List ℕ
after_sign [] = (false, [])
after_sign (n ∷ ns) = if n == minus_symbol then (true, ns) else (false, n ∷ ns)

abbrev pub is_digit : ℕ → Bool
is_digit n = nat_lt n 10

abbrev pub digits_of : List ℕ → List ℕ
digits_of text = take_while is_digit text

abbrev pub after_digits : List ℕ → List ℕ
after_digits text = drop (prefix_len is_digit text) text

-- the digits after a point, if there is one, and the rest of the text
abbrev pub fraction_at : List ℕ → Option (List ℕ) × List ℕ
fraction_at [] = (None, [])
fraction_at (n ∷ ns) = if n == point_symbol then (Some (digits_of ns), after_digits ns) else (None, n ∷ ns)

-- an exponent: digits, with or without a minus
abbrev pub is_exponent : Bool × List ℕ → Bool
is_exponent exponent = (prefix_len is_digit exponent.1 == length exponent.1) && nat_lt 0 (length exponent.1)

-- the exponent, if it is all of the text; an empty text has none
abbrev pub exponent_at : List ℕ → Option (Option (Bool × List ℕ))
exponent_at [] = Some None
exponent_at (n ∷ ns) = if (n == e_symbol) && is_exponent (after_sign ns) then Some (Some (after_sign ns)) else None

abbrev pub joined : Bool → List ℕ → Option (List ℕ) → Option (Option (Bool × List ℕ)) → Option Real
joined negative whole fraction None = None
joined negative whole fraction (Some exponent) =
    if nat_lt 0 (length (whole ++ fraction_digits fraction))
    then Some (record { negative = negative; whole = whole; fraction = fraction; exponent = exponent }) else None

-- the real that a text spells, if there is one
unfoldable pub real_of : List ℕ → Option Real
real_of text =
    let s = after_sign text in
    let whole = digits_of s.1 in
    let fraction = fraction_at (after_digits s.1) in
    joined s.0 whole fraction.0 (exponent_at fraction.1)

-- A law: a text is parsed as the real that it spells, and only texts of reals are parsed.
pub record ReadsSpellings : Type 0 where
  pub spelled : (r : Real) → IsReal r → real_of (spelling r) ≡ Some r
  pub alone : (text : List ℕ) (r : Real) → real_of text ≡ Some r → IsReal r × (spelling r ≡ text)
