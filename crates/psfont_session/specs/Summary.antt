-- A summary of a font in lines.
use Rattle.std.specs.Prelude.{ℕ, List, [], ◌∷◌, ◌++◌, if◌then◌else◌, flat_map, codes, length, slice_get, zero, suc, Option, Some, Result, Ok, Err}
use Rattle.std.specs.Char.{is_ascii_control}
use Rattle.std.specs.Fmt.{decimal}
use Rattle.postscript.specs.FontSet.Font.{Font}
use Rattle.postscript.specs.FontSet.Value.{font_shown}
use Rattle.postscript_base.specs.declared.compact1.header.Header.{Header}
use Rattle.postscript_base.specs.declared.error.Error.{Error}
use Rattle.postscript_compact1.specs.declared.char_set.CharSet.{CharSet}
use Rattle.postscript_compact1.specs.declared.encoding.Encoding.{Encoding}
use Rattle.postscript_compact1.specs.declared.font_set.FontSet.{FontSet}
use Rattle.postscript_compact1.specs.Index.{Index}
use Rattle.postscript_compact1.specs.Computed.Encodings.{name_of as encoding_name}
use Rattle.postscript_compact1.specs.CharSets.Predefined.{name_of as char_set_name}
use Rattle.psfont_session.specs.Texts.{fault_line}

-- a word, and a count
abbrev pub count_line : List ℕ → ℕ → List ℕ
count_line word count = word ++ (decimal count ++ codes "\n")

-- a field of the header, after a space
abbrev pub field_text : ℕ → List ℕ
field_text field = codes " " ++ decimal field

-- the header's four fields
abbrev pub header_line : Header → List ℕ
header_line header = codes "header" ++ (flat_map field_text (header.major ∷ header.minor ∷ header.header_size ∷ header.offset_size ∷ [])
    ++ codes "\n")

-- a byte of a name, or `?` for a control character of ASCII
abbrev pub shown_byte : ℕ → List ℕ
shown_byte byte = if is_ascii_control byte then codes "?" else byte ∷ []

-- a name
abbrev pub name_line : List ℕ → List ℕ
name_line name = codes "name " ++ (flat_map shown_byte name ++ codes "\n")

-- the number of names, and each name
abbrev pub names_text : List (List ℕ) → List ℕ
names_text names = count_line (codes "names ") (length names) ++ flat_map name_line names

-- the names of a dictionary's encoding and charset
abbrev pub sets_text : Encoding → CharSet → List ℕ
sets_text encoding char_set = codes "font " ++ (encoding_name encoding ++ (codes " " ++ char_set_name char_set))

-- the numbers of its glyphs and local subroutines
abbrev pub counts_text : ℕ → ℕ → List ℕ
counts_text glyphs locals = codes " glyphs " ++ (decimal glyphs ++ (codes " locals " ++ (decimal locals ++ codes "\n")))

-- the line of a dictionary, or none if one of the four is missing
abbrev pub dictionary_line : Option Encoding → Option CharSet → Option Index → Option Index → List ℕ
dictionary_line (Some encoding) (Some char_set) (Some codes) (Some local) =
    sets_text encoding char_set ++ counts_text (length codes.items) (length local.items)
dictionary_line encoding char_set codes local = []

-- the line of the dictionary with this number, from 0 on
abbrev pub line_at : Font → ℕ → List ℕ
line_at font number = dictionary_line (slice_get font.encodings number) (slice_get font.char_sets number)
    (slice_get font.char_strings number) (slice_get font.local_subroutines number)

-- the lines of the first `count` dictionaries
unfoldable pub lines_below : Font → ℕ → List ℕ
lines_below font zero = []
lines_below font (suc count) = lines_below font count ++ line_at font count

-- the numbers of strings and global subroutines
abbrev pub tables_text : Font → List ℕ
tables_text font = count_line (codes "strings ") (length font.strings.items)
    ++ count_line (codes "globals ") (length font.global_subroutines.items)

-- the number of dictionaries, and a line for each
abbrev pub dictionaries_text : Font → List ℕ
dictionaries_text font = count_line (codes "dictionaries ") (length font.global_dictionaries)
    ++ lines_below font (length font.global_dictionaries)

-- the whole summary, and a line for its end
abbrev pub font_text : Font → List ℕ
font_text font = (header_line font.header ++ names_text font.names) ++ (tables_text font ++ (dictionaries_text font ++ codes "end\n"))

-- the reply to reading a font
abbrev pub font_told : Result FontSet Error → List ℕ
font_told (Ok font) = font_text (font_shown font)
font_told (Err e) = fault_line e
