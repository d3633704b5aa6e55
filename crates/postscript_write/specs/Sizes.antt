-- The greatest size of a new font (Technical Note 5176, sections 3 and 5: its offsets have at most four bytes).
use Rattle.std.specs.Prelude.{ℕ, ◌+◌, ◌*◌, ◌<◌, ◌≤◌, List, [], Vec, length, slice_index_or}
use Rattle.std.specs.List.{sum_by}
use Rattle.std.specs.declared.alloc.Global.{Global}
use Rattle.postscript_view.specs.Contents.{View}
use Rattle.postscript_view.specs.Layout.{IsLaidOut}

-- the bytes of all items
abbrev pub bytes_in : List (List ℕ) → ℕ
bytes_in items = sum_by length items

abbrev pub codes_size : List (Vec ℕ Global) → ℕ
codes_size codes = sum_by (λ code. length code.items) codes

-- A font is too large with these charstrings: they, its names and its strings, and four times its bytes, are 2,000,000,000 bytes or more
-- together.
abbrev pub IsLarge : (bytes : List ℕ) → View → (codes : List (List ℕ)) → Type 0
IsLarge bytes font codes =
    2000000000 ≤ 4 * length bytes + bytes_in font.tables.names + bytes_in font.tables.strings + bytes_in codes

-- with the charstrings of the new font the old one is not too large
abbrev pub IsSmall : (bytes flat : List ℕ) → Type 0
IsSmall bytes flat = (old new : View) → IsLaidOut bytes 0 old → IsLaidOut flat 0 new → IsLarge bytes old new.char_strings → ⊥

-- no charstring has more bytes than allowed (Technical Note 5177, Appendix B)
abbrev pub AreShort : List (List ℕ) → Type 0
AreShort codes = (i : ℕ) → i < length codes → length (slice_index_or codes i []) ≤ 65535

-- the font at the beginning of the bytes has no charstring of more than 65,535 bytes
abbrev pub HasShortCodes : (flat : List ℕ) → Type 0
HasShortCodes flat = (font : View) × IsLaidOut flat 0 font × AreShort font.char_strings
