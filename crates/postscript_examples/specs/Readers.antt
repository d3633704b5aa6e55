-- User-defined readings: increasing offsets, ranges that cover a number of glyphs, texts up to a maximum size, and the size of a Private
-- DICT.
use Rattle.std.specs.Prelude.{ℕ, ◌+◌, ◌-◌, Bool, List, nat_lt, ◌==◌, if◌then◌else◌}
use Rattle.postscript_base.specs.Refusal.{OfMissing, malformed_offset}
use Rattle.postscript_base.specs.Numbers.{number, slice}
use Rattle.postscript_base.specs.Tape.Outcome.{Reading, ◌>>=◌, pure, fault}
use Rattle.postscript_base.specs.declared.compact1.operator.Operator.TheVariants.{Private}

-- an offset of two bytes that is greater than the last one
abbrev pub rising : ℕ → Reading ℕ
rising last = number 2 >>= λ offset. if nat_lt last offset then pure offset else fault malformed_offset

-- the next offset is compared with this one
abbrev pub greatest : ℕ → ℕ → ℕ
greatest last offset = offset

-- a range covers one glyph more than its byte says
abbrev pub uncovered : ℕ → ℕ → ℕ
uncovered glyphs run = glyphs - (run + 1)

abbrev pub covers : ℕ → Reading ℕ
covers glyphs = number 1

abbrev pub is_covered : ℕ → Bool
is_covered glyphs = glyphs == 0

-- a text of a given size, which is at most `longest`
abbrev pub text_of : ℕ → ℕ → Reading (List ℕ)
text_of longest size = if nat_lt longest size then fault malformed_offset else slice size

-- the size of a Private DICT, where 0 is an error
abbrev pub private_size : Reading ℕ
private_size = number 2 >>= λ size. if size == 0 then fault (OfMissing Private) else pure size
