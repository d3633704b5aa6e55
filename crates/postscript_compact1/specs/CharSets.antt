-- Charsets: the SID of the name of each glyph (Technical Note 5176, "Charsets").
pub mod Formats
pub mod Predefined
use Rattle.std.specs.Prelude.{ℕ, ◌+◌, ◌-◌, List, [], ◌∷◌, ◌==◌, Bool, nat_lt, if◌then◌else◌}
use Rattle.postscript_base.specs.Numbers.{number}
use Rattle.postscript_base.specs.Refusal.{malformed_char_set, unknown_char_set_format}
use Rattle.postscript_base.specs.Tape.Loops.{many, until}
use Rattle.postscript_base.specs.Tape.Outcome.{Reading, ◌>>=◌, pure, fault}
use Rattle.postscript_compact1.specs.CharSets.Formats.{Listed, Covered}
use Rattle.postscript_compact1.specs.declared.char_set.CharSet.{CharSet}
use Rattle.postscript_compact1.specs.declared.char_set.CharSet.TheVariants.{Format0, Format1, Format2}
use Rattle.postscript_compact1.specs.declared.char_set.range.Range1.{Range1}
use Rattle.postscript_compact1.specs.declared.char_set.range.Range2.{Range2}

-- a range: the SID of its first glyph in two bytes, and the number of glyphs after it in `size` bytes
unfoldable pub range : {A : Type 0} → (ℕ → ℕ → A) → ℕ → Reading A
range make size = do
  first ← number 2
  left ← number size
  pure (make first left)

abbrev pub range_1 : Reading Range1
range_1 = range (λ first left. record { first = first; left = left }) 1

abbrev pub range_2 : Reading Range2
range_2 = range (λ first left. record { first = first; left = left }) 2

-- the number of glyphs that a range covers
abbrev pub glyphs_of_1 : Range1 → ℕ
glyphs_of_1 range = range.left + 1

abbrev pub glyphs_of_2 : Range2 → ℕ
glyphs_of_2 range = range.left + 1

-- a range that covers at most `wanting` glyphs, those still to be covered
unfoldable pub covering : {A : Type 0} → (A → ℕ) → Reading A → ℕ → Reading A
covering size one wanting = one >>= λ range. if nat_lt wanting (size range) then fault malformed_char_set else pure range

-- the number of glyphs left to cover after a range
abbrev pub uncovered : {A : Type 0} → (A → ℕ) → ℕ → A → ℕ
uncovered size wanting range = wanting - size range

abbrev pub none_wanting : ℕ → Bool
none_wanting wanting = wanting == 0

-- ranges until all glyphs are covered
abbrev pub ranges : {A : Type 0} → (A → ℕ) → Reading A → ℕ → Reading (List A)
ranges size one wanting = until none_wanting (covering size one) (uncovered size) wanting

-- The data after the format byte: an SID for each glyph except the first, .notdef. There must be at least one glyph.
unfoldable pub listed : ℕ → Reading Listed
listed glyphs = if glyphs == 0 then fault malformed_char_set else (do
  identifiers ← many (number 2) (glyphs - 1)
  pure (record { format = 0; glyphs = identifiers }))

-- a reading that fails if there are no glyphs
unfoldable pub if_any : {A : Type 0} → ℕ → Reading A → Reading A
if_any glyphs reading = if glyphs == 0 then fault malformed_char_set else reading

-- the data after the format byte of a format with ranges: its number, the glyphs of a range, and how one is read
unfoldable pub covered : {A : Type 0} → ℕ → (A → ℕ) → Reading A → ℕ → Reading (Covered A)
covered format size one glyphs = do
  ranges ← if_any glyphs (ranges size one (glyphs - 1))
  pure (record { format = format; ranges = ranges })

abbrev pub covered_1 : ℕ → Reading (Covered Range1)
covered_1 glyphs = covered 1 glyphs_of_1 range_1 glyphs

abbrev pub covered_2 : ℕ → Reading (Covered Range2)
covered_2 glyphs = covered 2 glyphs_of_2 range_2 glyphs

-- charsets of one format
unfoldable pub char_set_0 : ℕ → Reading Listed
char_set_0 glyphs = number 1 >>= λ format. if format == 0 then listed glyphs else fault malformed_char_set

unfoldable pub char_set_of : {A : Type 0} → ℕ → (A → ℕ) → Reading A → ℕ → Reading (Covered A)
char_set_of format size one glyphs = number 1 >>= λ first. if first == format then covered format size one glyphs
    else fault malformed_char_set

abbrev pub char_set_1 : ℕ → Reading (Covered Range1)
char_set_1 glyphs = char_set_of 1 glyphs_of_1 range_1 glyphs

abbrev pub char_set_2 : ℕ → Reading (Covered Range2)
char_set_2 glyphs = char_set_of 2 glyphs_of_2 range_2 glyphs

-- a charset of the format in its first byte
abbrev pub of_format : ℕ → ℕ → Reading CharSet
of_format format glyphs =
    if format == 0 then listed glyphs >>= (λ set. pure (Format0 set))
    else if format == 1 then covered_1 glyphs >>= (λ set. pure (Format1 set))
    else if format == 2 then covered_2 glyphs >>= (λ set. pure (Format2 set))
    else fault unknown_char_set_format

unfoldable pub char_set : ℕ → Reading CharSet
char_set glyphs = number 1 >>= λ format. of_format format glyphs
