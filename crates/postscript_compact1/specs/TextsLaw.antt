-- The texts of items, in terms of UTF-8.
use Rattle.std.specs.Prelude.{◌≡◌, ℕ, List, IsUtf8}
use Rattle.std.specs.Str.Lossy.{utf8_lossy}
use Rattle.postscript_compact1.specs.Texts.{text}

-- the text of valid UTF-8 is the same bytes
abbrev pub KeepsUtf8 : Type 0
KeepsUtf8 = (bytes : List ℕ) → IsUtf8 bytes → text bytes ≡ bytes

-- the text of any bytes is the result of `String::from_utf8_lossy`
abbrev pub AgreesWithStd : Type 0
AgreesWithStd = (bytes : List ℕ) → text bytes ≡ utf8_lossy bytes
