-- Bytes and numbers at an offset.
use Rattle.std.specs.Prelude.{ℕ, ℤ, pos, ◌+ℤ◌, ◌-ℤ◌, ◌*ℤ◌, ◌+◌, ◌-◌, ◌*◌, ◌^◌, List, [], ◌∷◌, length, take, drop, ◌++◌, nat_lt, if◌then◌else◌}
use Rattle.postscript_base.specs.Tape.Outcome.{Reading, Got, end, ◌>>=◌, pure}

-- `count` bytes; if fewer are left, the error that the input ends early
unfoldable pub slice : ℕ → Reading (List ℕ)
slice count bytes place = if nat_lt (length bytes - place) count then end else Got (take count (drop place bytes)) (place + count)

-- The number of some bytes, the high byte first. Each byte counts times a power of 256.
abbrev pub big_endian : List ℕ → ℕ
big_endian [] = 0
big_endian (b ∷ bs) = b * 256 ^ length bs + big_endian bs

-- the number in `size` bytes (Technical Note 5176, Data Types: Card8, Card16 and the like)
unfoldable pub number : ℕ → Reading ℕ
number size = slice size >>= λ bytes. pure (big_endian bytes)

-- A number in two's complement: n itself if it is less than `half`, otherwise n - 2 * half.
abbrev pub two_sided : ℕ → ℕ → ℤ
two_sided half n = if nat_lt n half then pos n else pos n -ℤ pos (2 * half)

-- The integers of one and two bytes that dictionaries and charstrings have in common (Technical Note 5176, "DICT Data", Table 3; Technical
-- Note 5177, "Charstring Number Encoding"). One byte is for -107 to 107. Two bytes are for 108 and more (`above`), and for -108 and less
-- (`below`).
abbrev pub small : ℕ → ℤ
small first = pos first -ℤ pos 139

abbrev pub above : ℕ → ℕ → ℤ
above first second = (pos first -ℤ pos 247) *ℤ pos 256 +ℤ pos second +ℤ pos 108

abbrev pub below : ℕ → ℕ → ℤ
below first second = (pos 251 -ℤ pos first) *ℤ pos 256 -ℤ pos second -ℤ pos 108

-- `count` bytes, appended to those in front of them
abbrev pub slice_behind : List ℕ → ℕ → Reading (List ℕ)
slice_behind front count = slice count >>= λ bytes. pure (front ++ bytes)
