-- Reals of DICTs with at most 18 significant digits, which is as many as an operand of `postscript_base` has (Technical Note 5176, "DICT
-- Data", Table 5).
use Rattle.std.specs.Prelude.{ℕ, ◌+◌, ◌*◌, ◌%◌, ◌==◌, ◌&&◌, ◌||◌, nat_lt, not, Bool, false, List, [], ◌∷◌, drop, if◌then◌else◌}
use Rattle.postscript_base.specs.Compact1.Nibbles.{nibbles}

-- The nibbles of a real up to its end, with at most 18 significant digits: those from the first one that is not 0 on. All after them are
-- left out in a fraction, and become 0 before it. The exponent is kept.
abbrev pub cut : (significant : ℕ) → (in_fraction in_exponent : Bool) → List ℕ → List ℕ
cut significant in_fraction in_exponent [] = []
cut significant in_fraction in_exponent (nibble ∷ nibbles) =
    if nibble == 15 then []
    else if nat_lt nibble 10 && (not in_exponent && (nat_lt 0 nibble || nat_lt 0 significant))
    then (if nat_lt significant 18 then nibble ∷ cut (significant + 1) in_fraction in_exponent nibbles
    else if in_fraction then cut significant in_fraction in_exponent nibbles
    else 0 ∷ cut significant in_fraction in_exponent nibbles)
    else nibble ∷ cut significant (in_fraction || (nibble == 10)) (in_exponent || ((nibble == 11) || (nibble == 12))) nibbles

-- Nibbles in bytes, two in each. One or two nibbles after them end the real.
abbrev pub byte_of : (high low : ℕ) → ℕ
byte_of high low = high % 16 * 16 + low % 16

abbrev pub packed : List ℕ → List ℕ
packed [] = 0xff ∷ []
packed (high ∷ []) = byte_of high 15 ∷ []
packed (high ∷ low ∷ nibbles) = byte_of high low ∷ packed nibbles

abbrev pub real_text : (real : List ℕ) → List ℕ
real_text real = 30 ∷ packed (cut 0 false false (nibbles (drop 1 real)))
