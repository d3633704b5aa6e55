-- A subtable of format 14 as it is written. Only private contracts and proofs use these names.
use Rattle.std.specs.Prelude.{ℕ, List, [], ◌∷◌, ◌++◌, length, flat_map, slice_range}
use Rattle.std.specs.Int.{to_be_bytes, w16, w32}
use Rattle.postscript_sequences.specs.declared.writing.Row.{Row}

-- numbers of two, three and four bytes (OpenType 1.9, "Data types"), the high byte first
unfoldable pub uint16 : ℕ → List ℕ
uint16 n = to_be_bytes w16 n

unfoldable pub uint24 : ℕ → List ℕ
uint24 n = slice_range (to_be_bytes w32 n) 1 4

unfoldable pub uint32 : ℕ → List ℕ
uint32 n = to_be_bytes w32 n

-- a range of one character
abbrev pub range_text : (char : ℕ) → List ℕ
range_text char = uint24 char ++ 0 ∷ []

abbrev pub defaults_text : (chars : List ℕ) → List ℕ
defaults_text chars = uint32 (length chars) ++ flat_map range_text chars

abbrev pub mapping_text : ℕ × ℕ → List ℕ
mapping_text mapping = uint24 mapping.0 ++ uint16 mapping.1

abbrev pub mapped_text : List (ℕ × ℕ) → List ℕ
mapped_text mapped = uint32 (length mapped) ++ flat_map mapping_text mapped

abbrev pub row_text : Row → List ℕ
row_text row = uint24 row.selector ++ (uint32 row.defaults ++ uint32 row.mapped)

abbrev pub head_text : (size count : ℕ) → List ℕ
head_text size count = uint16 14 ++ (uint32 size ++ uint32 count)
