-- The order in which a font is read (Technical Note 5176, "CFF Data Layout"). Offsets are relative to the start of the font.
use Rattle.std.specs.Prelude.{ℕ, ◌+◌, List, map}
use Rattle.postscript_base.specs.Tape.Outcome.{Reading, pure, position, ◌>>=◌}
use Rattle.postscript_base.specs.Tape.At.{at}
use Rattle.postscript_base.specs.Tape.Loops.{each}
use Rattle.postscript_base.specs.Compact1.Dictionary.{Dictionary}
use Rattle.postscript_base.specs.Compact1.Header.{header}
use Rattle.postscript_base.specs.declared.compact1.header.Header.{Header}
use Rattle.postscript_compact1.specs.Index.{index}
use Rattle.postscript_compact1.specs.Kinds.{maps_of}
use Rattle.postscript_compact1.specs.Texts.{text}
use Rattle.postscript_compact1.specs.declared.font_set.manner.Manner.{Manner}
use Rattle.postscript_compact1.specs.declared.font_set.manner.Manner.TheVariants.{Strict, Lenient}
use Rattle.postscript_compact1.specs.FontSet.Operands.{in_range}
use Rattle.postscript_compact1.specs.FontSet.Font.{Tables, Columns, Font, columns, font_of}
use Rattle.postscript_compact1.specs.Computed.Parts.{subroutines, part}

-- the names at an offset, each as a text
unfoldable pub names : ℕ → Reading (List (List ℕ))
names place = at place index >>= λ i. pure (map text i.items)

-- the items of an INDEX as dictionaries
unfoldable pub dictionaries : Reading (List Dictionary)
dictionaries = index >>= λ i. maps_of i.items

-- names, Top DICTs, strings and global subroutines, one after the other, at an offset
unfoldable pub tables : ℕ → Reading Tables
tables place = do
  names ← names place
  dictionaries ← dictionaries
  strings ← index
  subroutines ← index
  pure (record { names = names; dictionaries = dictionaries; strings = strings; subroutines = subroutines })

-- the tables after the header
unfoldable pub behind : ℕ → Header → Reading Tables
behind start header = in_range (start + header.header_size) >>= tables

-- the parts of all Top DICTs, one after the other
unfoldable pub parts : Manner → ℕ → List Dictionary → Reading Columns
parts manner start maps = each (part manner start) maps >>= λ ps. pure (columns ps)

-- a font, read strictly or leniently
unfoldable pub font_by : Manner → Reading Font
font_by manner = do
  start ← position
  header ← header
  tables ← behind start header
  columns ← parts manner start tables.dictionaries
  pure (font_of header tables columns)

-- a font, and a font that may lack Private DICTs and local subroutines
abbrev pub font : Reading Font
font = font_by Strict

abbrev pub lenient_font : Reading Font
lenient_font = font_by Lenient
