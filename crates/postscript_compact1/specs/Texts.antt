-- The texts of items (Technical Note 5176, "Name INDEX" and "String INDEX").
use Rattle.std.specs.Prelude.{ℕ, ◌-◌, List, Option, Some, None, option_map, slice_get, encode_utf8_all}
use Rattle.bstr.specs.Utf8.{lossy_chars}
use Rattle.postscript_compact1.specs.StandardStrings.{standard_string}

-- The text of some bytes: U+FFFD replaces each piece that is not a character of UTF-8.
unfoldable pub text : List ℕ → List ℕ
text bytes = encode_utf8_all (lossy_chars bytes)

-- the string of an SID: a standard string, or from 391 on the text of an item
abbrev pub string_or : Option (List ℕ) → Option (List ℕ) → Option (List ℕ)
string_or (Some standard) item = Some standard
string_or None item = option_map text item

unfoldable pub string_of : List (List ℕ) → ℕ → Option (List ℕ)
string_of items sid = string_or (standard_string sid) (slice_get items (sid - 391))
