-- The jamo of a syllable as the code has them. Only private contracts and proofs use these definitions.
use Rattle.std.specs.Prelude.{◌≡◌, ℕ, true, List, [], ◌∷◌, Option, None, Some}
use Rattle.postscript_shaping.specs.Parts.{is_syllable, jamo}
use Rattle.postscript_shaping.specs.declared.parts.Jamo.{Jamo}

abbrev pub if_some : Option ℕ → List ℕ
if_some None = []
if_some (Some x) = x ∷ []

abbrev pub list_of : Jamo → List ℕ
list_of jamo = jamo.leading ∷ jamo.vowel ∷ if_some jamo.trailing

abbrev pub IsSyllable : (char : ℕ) → Jamo → Type 0
IsSyllable char found = (is_syllable char ≡ true) × (list_of found ≡ jamo char)
