-- Numbers of two bytes (ISO/IEC 14496-22, 4.3, "Data types"), the high byte first.
use Rattle.std.specs.Prelude.{ℕ, ◌+◌, ◌*◌, List, slice_index_or}
use Rattle.std.specs.Int.{to_be_bytes, w16, w32}

-- the number at an offset of a table; a byte past the end of the table is 0
unfoldable pub word : List ℕ → (offset : ℕ) → ℕ
word table offset = slice_index_or table offset 0 * 256 + slice_index_or table (offset + 1) 0

-- numbers of two bytes and of four bytes as they are written
abbrev pub uint16 : ℕ → List ℕ
uint16 n = to_be_bytes w16 n

abbrev pub uint32 : ℕ → List ℕ
uint32 n = to_be_bytes w32 n
