-- The texts of a table as they are written (Technical Note 5176, "DICT Data", "CFF Data Layout"). Only private contracts and proofs use these
-- names.
use Rattle.std.specs.Prelude.{Option, Some, None, ◌≡◌, ◌⊎◌, ℕ, suc, ◌+◌, ◌-◌, ◌<◌, ◌≤◌, ◌^◌, List, [], ◌∷◌, ◌++◌, length, drop, slice_get, All, Vec}
use Rattle.std.specs.Borrow.{Bor}
use Rattle.std.specs.List.{concat, range_with_len}
use Rattle.std.specs.declared.alloc.Global.{Global}
use Rattle.postscript_base.specs.Compact1.Operation.{Operation}
use Rattle.postscript_cff2.specs.Parts.{HasNumber}
use Rattle.postscript_cff2.specs.Shown.{view_shown}
use Rattle.postscript_cff2.specs.declared.font.Font.{Font}
use Rattle.postscript_type2.specs.Program.Routines.{texts}
use Rattle.postscript_view.specs.Contents.{View}
use Rattle.postscript_view.specs.Layout.{IsLaidOut}
use Rattle.postscript_view.specs.Strings.{string_of}
use Rattle.postscript_write.specs.ArrangedText.{tables_text}
use Rattle.postscript_write.specs.Dictionaries.{escaped_text, operation_text}
use Rattle.postscript_write.specs.Index.{index_text}
use Rattle.postscript_instance.specs.Dictionaries.{KeepDictionaries}
use Rattle.postscript_instance.specs.Hints.{State}
use Rattle.postscript_instance.specs.Naming.{IsCalled}
use Rattle.postscript_instance.specs.Numbers.{two_bytes}
use Rattle.postscript_instance.specs.Tables.{ArePlainParts}
use Rattle.postscript_instance.specs.Whole.{AreHints, adobe, identity}
use Rattle.postscript_instance.specs.declared.layout.Places.{Places}
use Rattle.postscript_instance.specs.declared.naming.Identifiers.{Identifiers}
use Rattle.postscript_instance.specs.declared.naming.Naming.{Naming}
use Rattle.postscript_instance.specs.declared.naming.Range.{Range}
use Rattle.postscript_instance.specs.declared.privates.State.{State as Reader}

-- ROS of Adobe, Identity, 0, by the SIDs 391 and 392
abbrev pub ros_text : List ℕ
ros_text = 0x1c ∷ 0x01 ∷ 0x87 ∷ 0x1c ∷ 0x01 ∷ 0x88 ∷ 0x8b ∷ 0x0c ∷ 0x1e ∷ []

-- the Top DICT of a CID-keyed font, and the one of a font with glyph names
abbrev pub keyed_text : (matrix : List ℕ) → (glyphs : ℕ) → Places → List ℕ
keyed_text matrix glyphs places =
    ((((((ros_text ++ matrix) ++ escaped_text (glyphs ∷ []) 0x22) ++ operation_text (places.char_set ∷ []) 0x0f)
    ++ escaped_text (places.select ∷ []) 0x25) ++ operation_text (places.char_strings ∷ []) 0x11)
    ++ escaped_text (places.array ∷ []) 0x24)

abbrev pub named_text : (matrix : List ℕ) → (size : ℕ) → Places → List ℕ
named_text matrix size places =
    ((matrix ++ operation_text (places.char_set ∷ []) 0x0f) ++ operation_text (places.char_strings ∷ []) 0x11)
    ++ operation_text (size ∷ places.private ∷ []) 0x12

-- Font DICTs of Private DICTs, of which the first is at an offset
abbrev pub font_dicts : (privates : List (List ℕ)) → (place : ℕ) → List (List ℕ)
font_dicts [] place = []
font_dicts (text ∷ texts) place = operation_text (length text ∷ place ∷ []) 0x12 ∷ font_dicts texts (place + length text)

-- offsets that can be written
pub record AreLow (places : Places) : Type 0 where
  pub char_set : places.char_set < 2 ^ 31
  pub select : places.select < 2 ^ 31
  pub char_strings : places.char_strings < 2 ^ 31
  pub private : places.private < 2 ^ 31
  pub array : places.array < 2 ^ 31

-- the parts of a CID-keyed table are few and small
pub record HasRoom (name matrix : List ℕ) (codes privates : List (Vec ℕ Global)) : Type 0 where
  pub few_codes : length codes < 2 ^ 16
  pub few_privates : length privates ≤ 256
  pub small : length name + length (concat (texts codes)) + length (concat (texts privates)) + length matrix < 2000000000

-- a glyph has a Font DICT, and each of the first `count` glyphs has one
abbrev pub HasFontDict : Font → (glyph number : ℕ) → Type 0
HasFontDict font glyph number =
    HasNumber font.bytes.now (view_shown font) glyph number × (number < length (view_shown font).font_dictionaries)

abbrev pub HaveFontDicts : Font → (count : ℕ) → Type 0
HaveFontDicts font count = (glyph : ℕ) → glyph < count → (number : ℕ) × HasFontDict font glyph number

-- FDSelect of format 0: the numbers of the Font DICTs of glyphs
pub record IsSelectText (font : Font) (glyphs : ℕ) (text : List ℕ) : Type 0 where
  pub numbers : List ℕ
  pub is : text ≡ 0 ∷ numbers
  pub counted : length numbers ≡ glyphs
  pub each : (glyph : ℕ) → glyph < glyphs → (number : ℕ) × (slice_get numbers glyph ≡ Some number) × HasFontDict font glyph number

-- the SIDs of ranges, one after the other
abbrev pub spread : List Range → List ℕ
spread [] = []
spread (range ∷ ranges) = range_with_len range.first (suc range.left) ++ spread ranges

-- ranges as they are written, and SIDs in two bytes each
abbrev pub ranges_text : List Range → List ℕ
ranges_text [] = []
ranges_text (range ∷ ranges) = two_bytes range.first ++ (two_bytes range.left ++ ranges_text ranges)

abbrev pub list_text : List ℕ → List ℕ
list_text [] = []
list_text (number ∷ numbers) = two_bytes number ++ list_text numbers

-- the SIDs of a range have two bytes
abbrev pub IsRange : Range → Type 0
IsRange range = range.first + range.left < 65536

-- a charset with these SIDs, which are those after the first
abbrev pub IsSetText : (numbers text : List ℕ) → Type 0
IsSetText numbers text = (text ≡ 0 ∷ list_text numbers)
    ⊎ ((ranges : List Range) × (text ≡ 2 ∷ ranges_text ranges) × (spread ranges ≡ numbers) × All IsRange ranges)

-- strings, and a name after them if it is not a standard string
abbrev pub IsOneMore : (old : List (List ℕ)) → (name : List ℕ) → (new : List (List ℕ)) → Type 0
IsOneMore old name new = (new ≡ old) ⊎ (new ≡ old ++ name ∷ [])

-- the SIDs of names in strings
pub record AreIdentified (names : List (Bor (List ℕ))) (strings : List (List ℕ)) (numbers : List ℕ) : Type 0 where
  pub counted : length numbers ≡ length names
  pub each : (glyph : ℕ) (name : Bor (List ℕ)) → slice_get names glyph ≡ Some name →
      (number : ℕ) × (slice_get numbers glyph ≡ Some number) × (string_of strings number ≡ Some name.now) × (number < 65536)

-- The offsets of the parts after the head, which ends at the start.
abbrev pub keyed_places : (start : ℕ) → (set select char_strings private : List ℕ) → Places
keyed_places start set select char_strings private = record {
  char_set = start;
  select = start + length set;
  char_strings = start + length set + length select;
  private = start + length set + length select + length char_strings;
  array = start + length set + length select + length char_strings + length private;
}

abbrev pub named_places : (start : ℕ) → (set char_strings : List ℕ) → Places
named_places start set char_strings = record {
  char_set = start;
  select = 0;
  char_strings = start + length set;
  private = start + length set + length char_strings;
  array = 0;
}

-- the bytes of a CID-keyed table, and of one with glyph names
pub record IsKeyedBytes (font : Font) (name matrix : List ℕ) (codes privates : List (Vec ℕ Global)) (bytes : List ℕ) : Type 0 where
  pub set : List ℕ
  pub select : List ℕ
  pub start : ℕ
  pub is_set : IsSetText (range_with_len 1 (length codes - 1)) set
  pub is_select : IsSelectText font (length codes) select
  pub begins : start ≡ length (tables_text (name ∷ []) (keyed_text matrix (length codes)
      (keyed_places start set select (index_text (texts codes)) (concat (texts privates)))) (adobe ∷ identity ∷ []))
  pub small : start + length set + length select + length (index_text (texts codes)) + length (concat (texts privates)) < 2 ^ 31
  pub is : bytes ≡ tables_text (name ∷ []) (keyed_text matrix (length codes)
      (keyed_places start set select (index_text (texts codes)) (concat (texts privates)))) (adobe ∷ identity ∷ [])
      ++ (set ++ (select ++ (index_text (texts codes) ++ (concat (texts privates) ++ index_text (font_dicts (texts privates)
      (start + length set + length select + length (index_text (texts codes))))))))

pub record IsNamedBytes (name matrix : List ℕ) (identifiers : Identifiers) (codes : List (Vec ℕ Global)) (private bytes : List ℕ) :
    Type 0 where
  pub set : List ℕ
  pub start : ℕ
  pub is_set : IsSetText (drop 1 identifiers.numbers.items) set
  pub begins : start ≡ length (tables_text (name ∷ []) (named_text matrix (length private)
      (named_places start set (index_text (texts codes)))) (texts identifiers.strings.items))
  pub small : start + length set + length (index_text (texts codes)) + length private < 2 ^ 31
  pub is : bytes ≡ tables_text (name ∷ []) (named_text matrix (length private)
      (named_places start set (index_text (texts codes)))) (texts identifiers.strings.items)
      ++ (set ++ (index_text (texts codes) ++ private))

-- The bytes are opened as a font with these codes, without subroutines, whose charstrings have their advances as widths. Its names and the
-- Font DICTs of its glyphs are the intended ones.
pub record IsFontOf (font : Font) (naming : Naming) (codes : List (List ℕ)) (bytes : List ℕ) : Type 0 where
  pub view : View
  pub stands : IsLaidOut bytes 0 view
  pub are_codes : view.char_strings ≡ codes
  pub none : view.tables.subroutines ≡ []
  pub parts : ArePlainParts view.parts
  pub called : IsCalled naming bytes view
  pub dictionaries : KeepDictionaries font bytes view (length codes)

-- the nibble that is kept, if it is
abbrev pub one_or_none : Option ℕ → List ℕ
one_or_none None = []
one_or_none (Some nibble) = nibble ∷ []

-- bytes that are operations of hints
abbrev pub HasHints : List ℕ → Type 0
HasHints text = (hints : List Operation) × AreHints text hints

-- a Private DICT while it is read
abbrev pub shown : Reader → State
shown reader = record { index = reader.index; numbers = reader.numbers.items }
