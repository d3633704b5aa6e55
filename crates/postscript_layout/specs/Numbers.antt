-- Numbers at an offset of a table. Numbers past the end of the table are 0.
use Rattle.std.specs.Prelude.{ℕ, ◌+◌, ◌*◌, List, length, map, nat_lt, if◌then◌else◌}
use Rattle.std.specs.List.{range_with_len}
use Rattle.postscript_base.specs.Index.{number_at}

-- a number of two bytes (uint16, Offset16, GlyphID16)
abbrev pub word : List ℕ → (offset : ℕ) → ℕ
word table offset = if nat_lt (length table) (offset + 2) then 0 else number_at table offset 2

-- a number of four bytes (Offset32)
abbrev pub long : List ℕ → (offset : ℕ) → ℕ
long table offset = if nat_lt (length table) (offset + 4) then 0 else number_at table offset 4

-- an array of count numbers of two bytes
abbrev pub words : List ℕ → (offset count : ℕ) → List ℕ
words table offset count = map (λ k. word table (offset + k * 2)) (range_with_len 0 count)
