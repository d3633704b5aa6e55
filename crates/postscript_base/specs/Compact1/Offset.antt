-- An offset: a number of one to four bytes (Technical Note 5176, "Data Types").
use Rattle.std.specs.Prelude.{◌<◌, ◌≤◌, ℕ, Bool, Option, Some, None, nat_lt, ◌==◌, ◌||◌, if◌then◌else◌}
use Rattle.postscript_base.specs.Refusal.{malformed_offset, malformed_index}
use Rattle.postscript_base.specs.Tape.Outcome.{Reading, ◌>>=◌, pure, fault}
use Rattle.postscript_base.specs.Numbers.{number}

-- the number of bytes that an offset can have
abbrev pub IsOffsetSize : ℕ → Type 0
IsOffsetSize size = (0 < size) × (size ≤ 4)

-- reading an offset of another size fails before it reads any bytes
unfoldable pub offset : (size : ℕ) → Reading ℕ
offset size = if (size == 0) || nat_lt 4 size then fault malformed_offset else number size

-- In an INDEX the first offset is 1, and each next one is greater than the last (Technical Note 5176, "INDEX Data").
abbrev pub rises : Option ℕ → ℕ → Bool
rises None next = next == 1
rises (Some last) next = nat_lt last next

-- Reads such an offset, given its size and the last offset. Any other offset fails as soon as it is read.
unfoldable pub rising : ℕ × Option ℕ → Reading ℕ
rising given = offset given.0 >>= λ next. if rises given.1 next then pure next else fault malformed_index

-- the data for the next offset
abbrev pub behind : ℕ × Option ℕ → ℕ → ℕ × Option ℕ
behind given next = (given.0, Some next)
