-- A font that is skipped: it is read in order, and nothing of it is kept. The items of its charstrings are not even read. Their last offset
-- gives their size.
use Rattle.std.specs.Prelude.{ℕ, ◌+◌, ◌-◌, List, length, ◌==◌, nat_lt, if◌then◌else◌}
use Rattle.postscript_base.specs.Numbers.{number}
use Rattle.postscript_base.specs.Tape.Outcome.{Reading, Got, pure, end, position, ◌>>=◌}
use Rattle.postscript_base.specs.Tape.At.{at}
use Rattle.postscript_base.specs.Tape.Loops.{each}
use Rattle.postscript_base.specs.Compact1.Dictionary.{Dictionary}
use Rattle.postscript_base.specs.Compact1.Header.{header}
use Rattle.postscript_base.specs.declared.compact1.operator.Operator.TheVariants as operators
use Rattle.postscript_compact1.specs.Index.{offsets}
use Rattle.postscript_compact1.specs.IndexAt.{last_of}
use Rattle.postscript_compact1.specs.Computed.Order.{behind}
use Rattle.postscript_compact1.specs.Computed.Parts.{encoding, char_set, locals}
use Rattle.postscript_compact1.specs.declared.font_set.manner.Manner.{Manner}
use Rattle.postscript_compact1.specs.FontSet.Operands.{place_at, type_two}

-- skips `count` bytes, if there are that many
unfoldable pub passed : ℕ → Reading (Unit {0})
passed count bytes place = if nat_lt (length bytes) (place + count) then end else Got tt (place + count)

-- The size of the items between offsets. The first offset is 1.
abbrev pub size_of_items : List ℕ → ℕ
size_of_items offsets = last_of 0 offsets - 1

-- the rest of an INDEX after a count that is not 0
unfoldable pub filled_count : ℕ → Reading ℕ
filled_count count = do
  size ← number 1
  offsets ← offsets size (count + 1)
  _ ← passed (size_of_items offsets)
  pure count

-- skips an INDEX, and returns the number of its items
unfoldable pub index_count : Reading ℕ
index_count = number 2 >>= λ count. if count == 0 then pure 0 else filled_count count

-- the number of charstrings of a Top DICT
unfoldable pub glyph_count : ℕ → Dictionary → Reading ℕ
glyph_count start map = do
  place ← place_at start 0 map operators.CharStrings
  _ ← type_two map
  at place index_count

-- skips the parts of a font that belong to one Top DICT
unfoldable pub passed_part : Manner → ℕ → Dictionary → Reading (Unit {0})
passed_part manner start map = do
  _ ← encoding map
  glyphs ← glyph_count start map
  _ ← char_set start glyphs map
  _ ← locals manner start map
  pure tt

-- skips the parts of all Top DICTs, one after the other
unfoldable pub passed_parts : Manner → ℕ → List Dictionary → Reading (Unit {0})
passed_parts manner start maps = each (passed_part manner start) maps >>= λ _. pure tt

-- skips a font, strictly or leniently
unfoldable pub passed_font : Manner → Reading (Unit {0})
passed_font manner = do
  start ← position
  header ← header
  tables ← behind start header
  passed_parts manner start tables.dictionaries
