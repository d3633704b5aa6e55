-- The offsets of the parts of the first font in a FontSet, in the order of reading (Technical Note 5176).
use Rattle.std.specs.Prelude.{ℕ, if◌then◌else◌, length, slice_get}
use Rattle.std.specs.Option.{is_none}
use Rattle.postscript_base.specs.Compact1.Defaults.{look, first_of, first_two_of}
use Rattle.postscript_base.specs.Compact1.Dictionary.{Dictionary}
use Rattle.postscript_base.specs.declared.compact1.operator.Operator.TheVariants as operators
use Rattle.postscript_base.specs.Tape.Outcome.{Reading, pure, position, ◌>>=◌}
use Rattle.postscript_c.specs.declared.font.PsfFont.{PsfFont}
use Rattle.postscript_compact1.specs.FontSet.Operands.{place_at, type_two, bounds}
use Rattle.postscript_compact1.specs.Kinds.{map_of}
use Rattle.postscript_base.specs.Index.{opened}
use Rattle.postscript_view.specs.Order.{aside, map_from, header_size, slice_at}

-- the Top DICT of the first font, and the offset of the global subroutines
unfoldable pub tables : Reading (Dictionary × ℕ)
tables = do
  names ← opened
  dictionaries ← opened
  strings ← opened
  there ← position
  subroutines ← opened
  dictionary ← map_from (slice_get dictionaries 0)
  pure (dictionary, there)

-- the offset of the local subroutines of a Private DICT at an offset, or 0 if there are none
unfoldable pub subroutines : ℕ → Dictionary → Reading ℕ
subroutines offset local = if is_none (first_of (look local operators.Subrs)) then pure 0 else place_at 0 offset local operators.Subrs

unfoldable pub own_part : Dictionary → Reading ℕ
own_part map = do
  bounds ← bounds 0 map
  text ← slice_at bounds.2 bounds.0
  local ← map_of text
  subroutines bounds.1 local

-- the offset of the local subroutines of the Private DICT in a DICT, or 0 if either is missing
unfoldable pub part : Dictionary → Reading ℕ
part map = if is_none (first_two_of (look map operators.Private)) then pure 0 else own_part map

-- the offset of the local subroutines of a font, or 0 if it is CID-keyed
unfoldable pub local : Dictionary → Reading ℕ
local map = if is_none (look map operators.ROS) then part map else pure 0

-- the offset of the charstrings, and their number
unfoldable pub codes : Dictionary → Reading (ℕ × ℕ)
codes map = do
  there ← place_at 0 0 map operators.CharStrings
  _ ← type_two map
  items ← aside there opened
  pure (there, length items)

pub record Places : Type 0 where
  pub char_strings : ℕ
  pub global_subroutines : ℕ
  pub local_subroutines : ℕ
  pub glyphs : ℕ

abbrev pub placed : PsfFont → Places
placed font = record {
  char_strings = font.char_strings;
  global_subroutines = font.global_subroutines;
  local_subroutines = font.part.local_subroutines;
  glyphs = font.glyphs;
}

-- the offsets of the parts, by a Top DICT and the offset of the global subroutines
unfoldable pub places_of : Dictionary → ℕ → Reading Places
places_of map global = do
  codes ← codes map
  local ← local map
  pure (record { char_strings = codes.0; global_subroutines = global; local_subroutines = local; glyphs = codes.1 })

unfoldable pub places : Reading Places
places = do
  size ← header_size
  tables ← aside size tables
  places_of tables.0 tables.1
