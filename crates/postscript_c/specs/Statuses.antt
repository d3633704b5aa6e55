-- The text of each status.
use Rattle.std.specs.Prelude.{◌≡◌, ◌⊎◌, ℕ, ℤ, pos, negsuc, List, [], ◌∷◌, Option, Some, None, codes, slice_get}
use Rattle.postscript_c.specs.Texts.{HandsOver, Lent}

-- the texts of statuses 0 to 75
abbrev pub texts : List (List ℕ)
texts =
    codes "done" ∷
    codes "failed to fill whole buffer" ∷
    codes "found a fault of the tape" ∷
    codes "failed to find memory" ∷
    codes "found a tape that stands still" ∷
    codes "found a malformed offset" ∷
    codes "found a malformed index" ∷
    codes "found a malformed number" ∷
    codes "found a number out of range" ∷
    codes "found an unknown operator" ∷
    codes "found a malformed char set" ∷
    codes "found an unknown char-set format" ∷
    codes "found an unknown char-string format" ∷
    codes "found a malformed operation of a dictionary" ∷
    codes "failed to find an operation of a dictionary" ∷
    codes "found an offset out of range" ∷
    codes "found an unsupported part" ∷
    codes "expected an operand" ∷
    codes "expected an operand of a different type" ∷
    codes "expected more operands" ∷
    codes "found malformed operands" ∷
    codes "found an invalid operand" ∷
    codes "failed to find a subroutine" ∷
    codes "found a return operator without a caller" ∷
    codes "found trailing data after the end operator" ∷
    codes "found calls nested too deep" ∷
    codes "found an overflow" ∷
    codes "found a zero divisor" ∷
    codes "found a root of a negative number" ∷
    codes "found too many stems" ∷
    codes "the program has failed before" ∷
    codes "no such glyph" ∷
    codes "the buffer is too small" ∷
    codes "the file ends early" ∷
    codes "not an OpenType file" ∷
    codes "no such face" ∷
    codes "the face has no such table" ∷
    codes "no readable character map" ∷
    codes "the glyph has no name" ∷
    codes "no such status" ∷
    codes "the charstring of a glyph has an error" ∷
    codes "the table does not contain exactly one font" ∷
    codes "a glyph has no Font DICT" ∷
    codes "the list of glyphs is empty" ∷
    codes "an unused status" ∷
    codes "the font is too large to write" ∷
    codes "the limit is used up" ∷
    codes "the base and the accent of a seac glyph are not character codes" ∷
    codes "a seac glyph in a CID-keyed font, which has no glyph names" ∷
    codes "no glyph has the name of the base or the accent" ∷
    codes "the base or the accent is itself a seac glyph" ∷
    codes "no such axis" ∷
    codes "no such named instance" ∷
    codes "more coordinates than axes" ∷
    codes "the fvar table ends early" ∷
    codes "the fvar table has an unknown format" ∷
    codes "the avar table ends early" ∷
    codes "the avar table has an unknown format" ∷
    codes "the HVAR table ends early" ∷
    codes "the HVAR table has an unknown format" ∷
    codes "the hhea and hmtx tables are truncated" ∷
    codes "the header of the CFF2 table is missing or truncated" ∷
    codes "the major version of the CFF2 table is not 2" ∷
    codes "the Top DICT of the CFF2 table is truncated" ∷
    codes "the Global Subr INDEX of the CFF2 table is malformed" ∷
    codes "the Top DICT of the CFF2 table lacks an offset" ∷
    codes "an INDEX of the CFF2 table is malformed" ∷
    codes "FDSelect of the CFF2 table is malformed" ∷
    codes "the item variation store of the CFF2 table is malformed" ∷
    codes "item variation data of the CFF2 table are missing" ∷
    codes "the font has no glyph for a character" ∷
    codes "the tables overlap" ∷
    codes "two tables have the same tag" ∷
    codes "a table ends early" ∷
    codes "the face has no CFF2 table, or a CFF table too" ∷
    codes "a table has an unknown format" ∷ []

abbrev pub text_of : (status : ℤ) → Option (List ℕ)
text_of (pos n) = slice_get texts n
text_of (negsuc n) = None

-- on 0 the text of a status is stored, and on 32 only its length, or the status has no text (39)
abbrev pub TellsText : (of status : ℤ) → (old new : Lent ℕ) → Type 0
TellsText of status old new =
    ((text : List ℕ) × (text_of of ≡ Some text) × HandsOver text status old new)
    ⊎ ((status ≡ pos 39) × (text_of of ≡ None) × (new ≡ old))
