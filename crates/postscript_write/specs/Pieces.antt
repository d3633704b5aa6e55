-- A new font: tables, and pieces one after the other (Technical Note 5176, "CFF Data Layout").
use Rattle.std.specs.Prelude.{ℕ, ◌+◌, ◌==◌, List, [], ◌∷◌, ◌++◌, length, Option, Some, None, Bool, true, false, Vec, if◌then◌else◌}
use Rattle.std.specs.Option.{is_some}
use Rattle.std.specs.Ordering.{eq_by_cmp}
use Rattle.std.specs.declared.alloc.Global.{Global}
use Rattle.postscript_base.specs.Compact1.Operators.{operator_cmp}
use Rattle.postscript_base.specs.declared.compact1.operator.Operator.{Operator}
use Rattle.postscript_base.specs.declared.compact1.operator.Operator.TheVariants.{CharSet, CharStrings, Encoding, FDArray, FDSelect, Private}
use Rattle.postscript_write.specs.declared.dictionaries.Place.{Place}
use Rattle.postscript_write.specs.declared.layout.Glyphs.{Glyphs}
use Rattle.postscript_write.specs.declared.layout.Piece.{Piece as LentPiece}

-- A piece: its bytes, and the operator for its offset. The Top DICT has that operator or not, and has the size before the offset or not.
pub record Piece : Type 0 where
  pub operator : Operator
  pub named : Bool
  pub counted : Bool
  pub text : List ℕ

abbrev pub piece_shown : LentPiece → Piece
piece_shown piece =
    record { operator = piece.operator; named = piece.named; counted = piece.counted; text = piece.text.now }

abbrev pub pieces_text : List Piece → List ℕ
pieces_text [] = []
pieces_text (piece ∷ pieces) = piece.text ++ pieces_text pieces

abbrev pub place_at : Operator → (offset : ℕ) → Place
place_at operator offset = record { operator = operator; size = None; offset = offset }

-- the offset of a piece, if the Top DICT has it
abbrev pub place_of : Piece → (offset : ℕ) → List Place
place_of piece offset =
    if piece.named then record {
      operator = piece.operator;
      size = if piece.counted then Some (length piece.text) else None;
      offset = offset;
    } ∷ [] else []

-- each piece begins where the one before it ends, the first one at the start
abbrev pub places : (start : ℕ) → List Piece → List Place
places start [] = []
places start (piece ∷ pieces) = place_of piece start ++ places (start + length piece.text) pieces

-- the offset of the piece with an operator
abbrev pub place_in : (start : ℕ) → List Piece → Operator → ℕ
place_in start [] operator = start
place_in start (piece ∷ pieces) operator =
    if eq_by_cmp operator_cmp operator piece.operator then start else place_in (start + length piece.text) pieces operator

-- the bytes of a part; none if there is no such part
abbrev pub text_of : Option (Vec ℕ Global) → List ℕ
text_of None = []
text_of (Some bytes) = bytes.items

abbrev pub piece_if : Operator → Option (Vec ℕ Global) → Piece
piece_if operator text = record { operator = operator; named = is_some text; counted = false; text = text_of text }

-- A charset of format 0 begins with the byte 0 (section 13).
abbrev pub is_listed : (char_set : List ℕ) → Bool
is_listed [] = false
is_listed (format ∷ others) = format == 0

-- the charset, if it is of format 0
abbrev pub listed_set : Option (Vec ℕ Global) → Option (Vec ℕ Global)
listed_set None = None
listed_set (Some char_set) = if is_listed char_set.items then Some char_set else None

-- the charset, if it is of another format
abbrev pub ranges_set : Option (Vec ℕ Global) → Option (Vec ℕ Global)
ranges_set None = None
ranges_set (Some char_set) = if is_listed char_set.items then None else Some char_set

-- The pieces of a font. Only a CID-keyed font has an FDSelect and Font DICTs. The Top DICT of any other font has the offset of its Private
-- DICT, if there is one. A charset of ranges is the last piece, since ranges that cover too few glyphs end with the font. A charset of
-- format 0 is before the charstrings.
abbrev pub pieces_of : Glyphs → (char_strings : List ℕ) → (single : Bool) → (privates dictionaries : List ℕ) → List Piece
pieces_of glyphs char_strings single privates dictionaries =
    piece_if Encoding glyphs.encoding
    ∷ piece_if FDSelect glyphs.select
    ∷ piece_if CharSet (listed_set glyphs.char_set)
    ∷ record { operator = CharStrings; named = true; counted = false; text = char_strings }
    ∷ record { operator = Private; named = single; counted = true; text = privates }
    ∷ record { operator = FDArray; named = is_some glyphs.select; counted = false; text = dictionaries }
    ∷ piece_if CharSet (ranges_set glyphs.char_set)
    ∷ []

-- the standard encoding has the number 0
abbrev pub standard_place : Bool → List Place
standard_place true = place_at Encoding 0 ∷ []
standard_place false = []

-- the offsets in the Top DICT, if the first piece begins at the start
abbrev pub named_places : (standard : Bool) → (start : ℕ) → List Piece → List Place
named_places standard start pieces = standard_place standard ++ places start pieces
