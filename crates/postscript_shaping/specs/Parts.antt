-- The characters that a character can be decomposed to (The Unicode Standard, 3.7 and 3.12).
use Rattle.std.specs.Prelude.{ℕ, Bool, ◌+◌, ◌-◌, ◌/◌, ◌%◌, ◌==◌, ◌&&◌, List, [], ◌∷◌, nat_lt, if◌then◌else◌}
use Rattle.ucd_normal.specs.Decomposition.{canonical_decomposition, compatibility_decomposition}
use Rattle.postscript_shaping.specs.Characters.{is_scalar}

-- the full canonical decomposition (D68); it is empty for Hangul syllables, and where there is none
abbrev pub letters : (char : ℕ) → List ℕ
letters char = if is_scalar char then canonical_decomposition char else []

-- the full compatibility decomposition (D65), or none
abbrev pub compatible : (char : ℕ) → List ℕ
compatible char = if is_scalar char then compatibility_decomposition char else []

-- a Hangul syllable
abbrev pub is_syllable : (char : ℕ) → Bool
is_syllable char = nat_lt 0xabff char && nat_lt char 0xd7a4

-- the trailing consonant, if there is one
abbrev pub trailing : (number : ℕ) → List ℕ
trailing number = if number % 28 == 0 then [] else (0x11a7 + number % 28) ∷ []

-- the jamo of a syllable: a leading consonant, a vowel, and a trailing consonant (3.12)
abbrev pub jamo : (char : ℕ) → List ℕ
jamo char = let number = char - 0xac00 in (0x1100 + number / 588) ∷ (0x1161 + number / 28 % 21) ∷ trailing number

-- the parts of a character; it has none if it cannot be decomposed
abbrev pub parts : (char : ℕ) → List ℕ
parts char = if is_syllable char then jamo char else letters char

-- the parts after the first one
abbrev pub rest : List ℕ → List ℕ
rest [] = []
rest (first ∷ later) = later
