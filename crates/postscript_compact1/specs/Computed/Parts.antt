-- The order in which the parts of a font that belong to one of its Top DICTs are read (Technical Note 5176, "CFF Data Layout").
use Rattle.std.specs.Prelude.{ℕ, ◌+◌, ℤ, pos, negsuc, [], length, map, ◌==◌, if◌then◌else◌}
use Rattle.postscript_base.specs.Refusal.{OfPart}
use Rattle.postscript_base.specs.Tape.Outcome.{Reading, pure, fault, ◌>>=◌}
use Rattle.postscript_base.specs.Tape.At.{at, bytes_at}
use Rattle.postscript_base.specs.Compact1.Defaults.{look, first_of, first_two_of}
use Rattle.postscript_base.specs.Compact1.Dictionary.{Dictionary, dictionary_of}
use Rattle.postscript_base.specs.declared.compact1.operator.Operator.TheVariants as operators
use Rattle.postscript_base.specs.declared.error.Part.TheVariants as unsupported
use Rattle.postscript_compact1.specs.Index.{Index, index, empty}
use Rattle.postscript_compact1.specs.Kinds.{map_of}
use Rattle.postscript_compact1.specs.Texts.{text}
use Rattle.postscript_compact1.specs.CharSets.{char_set as the_set}
use Rattle.postscript_compact1.specs.declared.char_set.CharSet.{CharSet}
use Rattle.postscript_compact1.specs.declared.char_set.CharSet.TheVariants as sets
use Rattle.postscript_compact1.specs.declared.encoding.Encoding.{Encoding}
use Rattle.postscript_compact1.specs.declared.encoding.Encoding.TheVariants as encodings
use Rattle.postscript_compact1.specs.declared.font_set.manner.Manner.{Manner}
use Rattle.postscript_compact1.specs.FontSet.Operands.{goes_without, first, size_of, in_range, place_at, type_two, bounds}
use Rattle.postscript_compact1.specs.FontSet.Font.{Part}

-- the encoding of a Top DICT: 0 and 1 are the predefined ones
abbrev pub encoding_of : ℤ → Reading Encoding
encoding_of (pos n) = if n == 0 then pure encodings.Standard else if n == 1 then pure encodings.Expert
    else fault (OfPart unsupported.CustomEncoding)
encoding_of (negsuc n) = fault (OfPart unsupported.CustomEncoding)

unfoldable pub encoding : Dictionary → Reading Encoding
encoding map = first map operators.Encoding >>= encoding_of

-- the charstrings: first their offset, then their type, then the INDEX
unfoldable pub char_strings : ℕ → Dictionary → Reading Index
char_strings start map = do
  place ← place_at start 0 map operators.CharStrings
  _ ← type_two map
  at place index

-- the charset at an offset, for a number of glyphs
unfoldable pub own_char_set : ℕ → ℕ → ℕ → Reading CharSet
own_char_set start glyphs offset = in_range (start + offset) >>= λ place. at place (the_set glyphs)

-- the charset with an offset: 0, 1 and 2 are the predefined ones
abbrev pub char_set_of : ℕ → ℕ → ℕ → Reading CharSet
char_set_of start glyphs offset =
    if offset == 0 then pure sets.ISOAdobe
    else if offset == 1 then pure sets.Expert
    else if offset == 2 then pure sets.ExpertSubset
    else own_char_set start glyphs offset

unfoldable pub char_set_offset : Dictionary → Reading ℕ
char_set_offset map = first map operators.CharSet >>= size_of

unfoldable pub char_set : ℕ → ℕ → Dictionary → Reading CharSet
char_set start glyphs map = char_set_offset map >>= char_set_of start glyphs

-- the offset of the Private DICT, and the dictionary
unfoldable pub private : ℕ → Dictionary → Reading (ℕ × Dictionary)
private start map = do
  bounds ← bounds start map
  text ← bytes_at bounds.2 bounds.0
  local_dictionary ← map_of text
  pure (bounds.1, local_dictionary)

-- the local subroutines, whose offset is relative to the Private DICT
unfoldable pub subroutines : ℕ → ℕ → Dictionary → Reading Index
subroutines start offset local_dictionary = do
  place ← place_at start offset local_dictionary operators.Subrs
  at place index

-- the charstrings, and the charset for that number of glyphs
unfoldable pub glyphs : ℕ → Dictionary → Reading (Index × CharSet)
glyphs start map = do
  char_strings ← char_strings start map
  char_set ← char_set start (length char_strings.items) map
  pure (char_strings, char_set)

-- the local subroutines, or none if the reading is lenient and Subrs has no operand
unfoldable pub own_subroutines : Manner → ℕ → ℕ → Dictionary → Reading Index
own_subroutines manner start offset local_dictionary =
    if goes_without manner (first_of (look local_dictionary operators.Subrs)) then pure empty else subroutines start offset local_dictionary

-- the Private DICT and its subroutines
unfoldable pub own_locals : Manner → ℕ → Dictionary → Reading (Dictionary × Index)
own_locals manner start map = do
  private ← private start map
  subroutines ← own_subroutines manner start private.0 private.1
  pure (private.1, subroutines)

-- The same, but no operations and no subroutines if the reading is lenient and Private has fewer than two operands.
unfoldable pub locals : Manner → ℕ → Dictionary → Reading (Dictionary × Index)
locals manner start map =
    if goes_without manner (first_two_of (look map operators.Private)) then pure (dictionary_of [], empty) else own_locals manner start map

-- the parts of a font that belong to one Top DICT
unfoldable pub part : Manner → ℕ → Dictionary → Reading Part
part manner start map = do
  encoding ← encoding map
  glyphs ← glyphs start map
  locals ← locals manner start map
  pure (record {
    encoding = encoding;
    char_strings = glyphs.0;
    char_set = glyphs.1;
    local_dictionary = locals.0;
    local_subroutines = locals.1;
  })
