-- The characters that a shaper may use for a text, in a font that maps some characters (The Unicode Standard, 3.7, 3.11, 5.13; UAX 9).
use Rattle.std.specs.Prelude.{◌≡◌, ◌≢◌, ◌⊎◌, ◌↔◌, ℕ, ◌<◌, true, List, [], length}
use Rattle.std.specs.List.{All, Contains}
use Rattle.postscript_shaping.specs.Characters.{is_arabic_form, is_attached, is_mirrored, is_right_to_left}
use Rattle.postscript_shaping.specs.Parts.{compatible, letters, parts, rest}

-- one of these, or a part of one of these
abbrev pub IsOrParts : (Is : ℕ → Type 0) → (char : ℕ) → Type 0
IsOrParts Is char = Is char ⊎ ((whole : ℕ) × Is whole × Contains (parts whole) char)

-- In the place of characters of the text, or beside them, a shaper may use: the space, for characters that it hides; the dotted circle, under a mark
-- or a modifier without a base; mirrored characters, if the text has one and has letters from right to left; Arabic presentation forms. The letters of such a form
-- are characters of the text, or parts of these: alef with hamza above has two parts, and so have its forms.
pub data IsForm (kept : List ℕ) (char : ℕ) : Type 0 where
  space : char ≡ 0x20 → (one : ℕ) → Contains kept one → IsForm kept char
  dotted_circle : char ≡ 0x25cc → (mark : ℕ) → Contains kept mark → is_attached mark ≡ true → IsForm kept char
  mirror : is_mirrored char ≡ true → (other letter : ℕ) → Contains kept other → is_mirrored other ≡ true →
      Contains kept letter → is_right_to_left letter ≡ true → IsForm kept char
  arabic : is_arabic_form char ≡ true → compatible char ≢ [] → All (IsOrParts (Contains kept)) (compatible char) → IsForm kept char

-- a character of the text, or a form of these in the font
abbrev pub IsBase : (mapped kept : List ℕ) → (char : ℕ) → Type 0
IsBase mapped kept char = Contains kept char ⊎ (Contains mapped char × IsForm kept char)

-- some character of the font can be composed of one of these and of a character before it
abbrev pub Compose : (mapped : List ℕ) → (Is : ℕ → Type 0) → Type 0
Compose mapped Is = (whole part : ℕ) × Contains mapped whole × Contains (rest (parts whole)) part × Is part

-- A shaper may decompose characters to their parts, in one or more steps, and compose characters of such parts.
pub data IsComposed (mapped : List ℕ) (Is : ℕ → Type 0) (char : ℕ) : Type 0 where
  part : IsOrParts Is char → IsComposed mapped Is char
  composed : Compose mapped Is → parts char ≢ [] → All (IsOrParts Is) (parts char) → IsComposed mapped Is char
  between : (whole : ℕ) → Is whole → 2 < length (letters whole) → letters char ≢ [] → length (letters char) < length (letters whole) →
      All (Contains (letters whole)) (letters char) → IsComposed mapped Is char

-- a shaper may use the character for a text of the kept characters
abbrev pub IsUsed : (mapped kept : List ℕ) → (char : ℕ) → Type 0
IsUsed mapped kept char = IsBase mapped kept char ⊎ (Contains mapped char × IsComposed mapped (IsBase mapped kept) char)

-- these are exactly such characters
abbrev pub AreUsed : (mapped kept all : List ℕ) → Type 0
AreUsed mapped kept all = (char : ℕ) → Contains all char ↔ IsUsed mapped kept char
