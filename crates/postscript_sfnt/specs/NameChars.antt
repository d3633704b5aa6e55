-- The characters of a name, in order.
use Rattle.std.specs.Prelude.{◌≡◌, ℕ, ◌<◌, List, ◌∷◌, length, drop, MatchOption, Option}
use Rattle.postscript_sfnt.specs.Texts.{BeginsUtf16}
use Rattle.postscript_sfnt.specs.declared.names.Name.{Name}
use Rattle.postscript_sfnt.specs.declared.names.Name.TheVariants.{Utf16, MacRoman}
use Rattle.postscript_sfnt.specs.declared.names.chars.NameChars.{NameChars}

abbrev pub bytes_of : Name → List ℕ
bytes_of (Utf16 bytes) = bytes.now
bytes_of (MacRoman bytes) = bytes.now

abbrev pub name_left : NameChars → Name
name_left left = left.name

abbrev pub bytes_left : NameChars → ℕ
bytes_left left = length (bytes_of left.name)

-- the least size of a character in bytes
abbrev pub least : Name → ℕ
least (Utf16 bytes) = 2
least (MacRoman bytes) = 1

-- The text begins with the character, and the second text is the rest. In Mac OS Roman a character has one byte, and bytes below 128 are
-- ASCII.
abbrev pub Begins : Name → (char : ℕ) → Name → Type 0
Begins (Utf16 bytes) char (Utf16 rest) = (size : ℕ) × BeginsUtf16 bytes.now char size × (rest.now ≡ drop size bytes.now)
Begins (MacRoman bytes) char (MacRoman rest) = (byte : ℕ) × (bytes.now ≡ byte ∷ rest.now) × (byte < 128 → char ≡ byte)
Begins (Utf16 bytes) char (MacRoman rest) = ⊥
Begins (MacRoman bytes) char (Utf16 rest) = ⊥

-- If there is no character, too few bytes are left and the state is unchanged. Otherwise the text begins with the character.
abbrev pub StepsName : NameChars → Option ℕ → NameChars → Type 0
StepsName s r t = MatchOption r ((bytes_left s < least s.name) × (t ≡ s)) (λ char. Begins s.name char t.name)
