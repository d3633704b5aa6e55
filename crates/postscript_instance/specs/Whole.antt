-- The parts of a written `CFF ` table, one after the other (Technical Note 5176, "CFF Data Layout", sections 2, 4 to 10, 13 to 16, 18 and
-- 19). No byte is between them or after them.
use Rattle.std.specs.Prelude.{◌≡◌, ◌≢◌, ◌⊎◌, ℕ, ◌+◌, ◌-◌, ◌*◌, ◌<◌, ◌≤◌, pos, List, [], ◌∷◌, ◌++◌, map, take, drop, length, All, Option, Some, None}
use Rattle.std.specs.List.{Contains, slice_range}
use Rattle.std.specs.Borrow.{Bor}
use Rattle.std.specs.Option.{MatchOption}
use Rattle.std.specs.declared.alloc.Global.{Global}
use Rattle.std.specs.declared.vec.Vec.{Vec}
use Rattle.postscript_base.specs.Compact1.Decimal.{Decimal}
use Rattle.postscript_base.specs.Compact1.DictionaryLaw.{OperationsAt}
use Rattle.postscript_base.specs.Compact1.Number.{whole}
use Rattle.postscript_base.specs.Compact1.Operation.{Operation}
use Rattle.postscript_base.specs.Index.{number_at, IsIndex}
use Rattle.postscript_base.specs.declared.compact1.operator.Operator.{Operator}
use Rattle.postscript_base.specs.declared.compact1.operator.Operator.TheVariants.{BlueFuzz, BlueScale, BlueShift, BlueValues, CIDCount, CharSet, CharStrings, ExpansionFactor, FDArray, FDSelect, FamilyBlues, FamilyOtherBlues, FontMatrix, LanguageGroup, OtherBlues, Private, ROS, StdHW, StdVW, StemSnapH, StemSnapV}
use Rattle.postscript_cff2.specs.Dictionary.{Entry, last_entry}
use Rattle.postscript_cff2.specs.Shown.{view_shown}
use Rattle.postscript_cff2.specs.Tokens.{byte_at, operand_size}
use Rattle.postscript_cff2.specs.declared.font.Font.{Font}
use Rattle.postscript_compact1.specs.StandardStrings.{standard_string}
use Rattle.postscript_view.specs.CharSet.{covered}
use Rattle.postscript_instance.specs.Reals.{real_text}
use Rattle.postscript_instance.specs.declared.naming.Naming.{Naming}

-- the header: version 1.0, four bytes long, with four-byte offsets (section 6)
abbrev pub header : List ℕ
header = 1 ∷ 0 ∷ 4 ∷ 4 ∷ []

-- an operation of a program, as operator and operands
abbrev pub told : Operator × Vec Decimal Global → Operation
told operation = (operation.0, operation.1.items)

-- The bytes of a DICT are exactly these operations, in this order (section 4).
abbrev pub IsDict : (text : List ℕ) → List Operation → Type 0
IsDict text operations = OperationsAt text 0 operations (length text)

-- operands that are whole numbers
abbrev pub integers : List ℕ → List Decimal
integers = map (λ n. whole (pos n))

-- After the header there are four INDEXes: one name, one Top DICT, the strings, and no global subroutines (sections 6 to 10 and 16).
pub record HasHead (bytes name top : List ℕ) (strings : List (List ℕ)) (next : ℕ) : Type 0 where
  pub begins : take 4 bytes ≡ header
  pub dictionaries : ℕ
  pub texts : ℕ
  pub subroutines : ℕ
  pub one_name : IsIndex bytes 4 (name ∷ []) dictionaries
  pub one_dictionary : IsIndex bytes dictionaries (top ∷ []) texts
  pub are_strings : IsIndex bytes texts strings subroutines
  pub no_subroutines : IsIndex bytes subroutines [] next

-- A charset of format 0 has two bytes for each glyph but the first. One of format 2 has ranges of four bytes, which cover exactly these
-- glyphs (section 13).
abbrev pub SetEnds : List ℕ → (glyphs place next : ℕ) → Type 0
SetEnds bytes glyphs place next =
    ((number_at bytes place 1 ≡ 0) × (next ≡ place + 1 + 2 * (glyphs - 1)))
    ⊎ ((number_at bytes place 1 ≡ 2) × ((ranges : ℕ) × (covered (drop (place + 1) bytes) 2 ranges ≡ glyphs - 1)
    × (next ≡ place + 1 + 4 * ranges)))

-- FDSelect of format 0 has a byte for each glyph, which is the number of a Font DICT (section 19).
abbrev pub SelectEnds : List ℕ → (glyphs dictionaries place next : ℕ) → Type 0
SelectEnds bytes glyphs dictionaries place next = (number_at bytes place 1 ≡ 0)
    × ((glyph : ℕ) → glyph < glyphs → number_at bytes (place + 1 + glyph) 1 < dictionaries) × (next ≡ place + 1 + glyphs)

-- These Private DICTs are there one after the other (section 15).
abbrev pub ArePrivates : List ℕ → (privates : List (List ℕ)) → (place next : ℕ) → Type 0
ArePrivates bytes [] place next = next ≡ place
ArePrivates bytes (text ∷ texts) place next = (slice_range bytes place (place + length text) ≡ text)
    × ArePrivates bytes texts (place + length text) next

-- Each Font DICT has only the size and the offset of its Private DICT (section 18).
abbrev pub AreFontDicts : (dictionaries privates : List (List ℕ)) → (place : ℕ) → Type 0
AreFontDicts [] [] place = Unit {0}
AreFontDicts (dictionary ∷ dictionaries) (text ∷ texts) place =
    IsDict dictionary ((Private, integers (length text ∷ place ∷ [])) ∷ []) × AreFontDicts dictionaries texts (place + length text)
AreFontDicts [] (text ∷ texts) place = ⊥
AreFontDicts (dictionary ∷ dictionaries) [] place = ⊥

-- the two strings of a CID-keyed table: `Adobe` and `Identity`
abbrev pub adobe : List ℕ
adobe = 0x41 ∷ 0x64 ∷ 0x6f ∷ 0x62 ∷ 0x65 ∷ []

abbrev pub identity : List ℕ
identity = 0x49 ∷ 0x64 ∷ 0x65 ∷ 0x6e ∷ 0x74 ∷ 0x69 ∷ 0x74 ∷ 0x79 ∷ []

-- FontMatrix, if there is one
abbrev pub matrix_operation : Option (List Decimal) → List Operation
matrix_operation None = []
matrix_operation (Some matrix) = (FontMatrix, matrix) ∷ []

-- The Top DICT of a CID-keyed font: ROS is Adobe, Identity, 0, by the first two SIDs of custom strings. It has no other operators, and no
-- encoding (section 18).
abbrev pub keyed_operations : (matrix : Option (List Decimal)) → (glyphs set select char_strings array : ℕ) → List Operation
keyed_operations matrix glyphs set select char_strings array =
    (ROS, integers (391 ∷ 392 ∷ 0 ∷ [])) ∷ matrix_operation matrix
    ++ (CIDCount, integers (glyphs ∷ [])) ∷ (CharSet, integers (set ∷ [])) ∷ (FDSelect, integers (select ∷ []))
    ∷ (CharStrings, integers (char_strings ∷ [])) ∷ (FDArray, integers (array ∷ [])) ∷ []

-- The Top DICT of a font with glyph names. It has no other operators, so the encoding is the standard one (section 9).
abbrev pub named_operations : (matrix : Option (List Decimal)) → (set char_strings size private : ℕ) → List Operation
named_operations matrix set char_strings size private =
    matrix_operation matrix ++ (CharSet, integers (set ∷ [])) ∷ (CharStrings, integers (char_strings ∷ []))
    ∷ (Private, integers (size ∷ private ∷ [])) ∷ []

-- A CID-keyed table: the head, the charset, FDSelect, the charstrings, the Private DICTs and the Font DICTs. The last part ends with the
-- bytes.
pub record IsKeyedTable (matrix : Option (List Decimal)) (name : List ℕ) (strings codes privates : List (List ℕ)) (bytes : List ℕ) : Type 0 where
  pub top : List ℕ
  pub dictionaries : List (List ℕ)
  pub set : ℕ
  pub select : ℕ
  pub char_strings : ℕ
  pub private : ℕ
  pub array : ℕ
  pub head : HasHead bytes name top strings set
  pub set_ends : SetEnds bytes (length codes) set select
  pub select_ends : SelectEnds bytes (length codes) (length privates) select char_strings
  pub are_codes : IsIndex bytes char_strings codes private
  pub are_privates : ArePrivates bytes privates private array
  pub are_dictionaries : IsIndex bytes array dictionaries (length bytes)
  pub name_privates : AreFontDicts dictionaries privates private
  pub dictionary : IsDict top (keyed_operations matrix (length codes) set select char_strings array)

-- A table with glyph names: the head, the charset, the charstrings and the only Private DICT, which ends with the bytes.
pub record IsNamedTable (matrix : Option (List Decimal)) (name : List ℕ) (strings codes privates : List (List ℕ)) (bytes : List ℕ) : Type 0 where
  pub top : List ℕ
  pub text : List ℕ
  pub set : ℕ
  pub char_strings : ℕ
  pub private : ℕ
  pub one_private : privates ≡ text ∷ []
  pub head : HasHead bytes name top strings set
  pub set_ends : SetEnds bytes (length codes) set char_strings
  pub are_codes : IsIndex bytes char_strings codes private
  pub are_privates : ArePrivates bytes privates private (length bytes)
  pub dictionary : IsDict top (named_operations matrix set char_strings (length text) private)

-- FontMatrix with these operands, which have this encoding (section 9)
abbrev pub matrix_text : (text : List ℕ) → List ℕ
matrix_text text = text ++ 0x0c ∷ 0x07 ∷ []

abbrev pub IsMatrix : (text : List ℕ) → (operands : List Decimal) → Type 0
IsMatrix text operands = IsDict (matrix_text text) ((FontMatrix, operands) ∷ [])

-- The operands of a DICT from an offset on, with at most 18 significant digits in each real.
pub data AreShortened (source : List ℕ) : (place : ℕ) → (text : List ℕ) → Type 0 where
  none_left : (place : ℕ) → length source ≤ place → AreShortened source place []
  real : (place next : ℕ) (text : List ℕ) → place < length source → byte_at source place ≡ 30 → next ≡ place + operand_size source place →
      AreShortened source next text → AreShortened source place (real_text (slice_range source place next) ++ text)
  other : (place next : ℕ) (text : List ℕ) → place < length source → byte_at source place ≢ 30 →
      next ≡ place + operand_size source place → AreShortened source next text →
      AreShortened source place (slice_range source place next ++ text)

-- the operands of an entry
abbrev pub operands_in : (dictionary : List ℕ) → Entry → List ℕ
operands_in dictionary entry = slice_range dictionary entry.start entry.place

-- FontMatrix, with its bytes, is that of the Top DICT of the CFF2 table, which has the same encoding (OpenType 1.9, "CFF2", "Top DICT
-- Data"). If it cannot be read, each real has at most 18 significant digits. There is none if it still cannot be read, or if that DICT has
-- none.
pub data IsMatrixOf (dictionary : List ℕ) : (text : List ℕ) → (matrix : Option (List Decimal)) → Type 0 where
  as_it_is : (entry : Entry) (operands : List Decimal) → last_entry dictionary 0x0c07 ≡ Some entry →
      IsMatrix (operands_in dictionary entry) operands →
      IsMatrixOf dictionary (matrix_text (operands_in dictionary entry)) (Some operands)
  shortened : (entry : Entry) (text : List ℕ) (operands : List Decimal) → last_entry dictionary 0x0c07 ≡ Some entry →
      ((others : List Decimal) → IsMatrix (operands_in dictionary entry) others → ⊥) →
      AreShortened (operands_in dictionary entry) 0 text → IsMatrix text operands →
      IsMatrixOf dictionary (matrix_text text) (Some operands)
  unreadable : (entry : Entry) (text : List ℕ) → last_entry dictionary 0x0c07 ≡ Some entry →
      ((others : List Decimal) → IsMatrix (operands_in dictionary entry) others → ⊥) →
      AreShortened (operands_in dictionary entry) 0 text → ((operands : List Decimal) → IsMatrix text operands → ⊥) →
      IsMatrixOf dictionary [] None
  without : last_entry dictionary 0x0c07 ≡ None → IsMatrixOf dictionary [] None

-- The strings are the names that are not standard strings, in the order of the glyphs (section 10).
pub data AreCustom : List (Bor (List ℕ)) → (strings : List (List ℕ)) → Type 0 where
  nothing : AreCustom [] []
  standard : (names : List (Bor (List ℕ))) (strings : List (List ℕ)) (name : Bor (List ℕ)) (sid : ℕ) → AreCustom names strings →
      standard_string sid ≡ Some name.now → AreCustom (names ++ name ∷ []) strings
  custom : (names : List (Bor (List ℕ))) (strings : List (List ℕ)) (name : Bor (List ℕ)) → AreCustom names strings →
      ((sid : ℕ) → sid < 391 → standard_string sid ≡ Some name.now → ⊥) → AreCustom (names ++ name ∷ []) (strings ++ name.now ∷ [])

-- a table with these names
abbrev pub IsTableNamed : List (Bor (List ℕ)) → (matrix : Option (List Decimal)) → (name : List ℕ) → (codes privates : List (List ℕ)) →
    (bytes : List ℕ) → Type 0
IsTableNamed names matrix name codes privates bytes =
    (strings : List (List ℕ)) × AreCustom names strings × IsNamedTable matrix name strings codes privates bytes

-- The whole table of a font with these charstrings and Private DICTs: with the given names, or CID-keyed if there are none.
pub record IsWhole (font : Font) (naming : Naming) (codes privates : List (List ℕ)) (bytes : List ℕ) : Type 0 where
  pub matrix_bytes : List ℕ
  pub matrix : Option (List Decimal)
  pub is_matrix : IsMatrixOf font.dictionary.bytes.now matrix_bytes matrix
  pub parts : MatchOption naming.glyphs (IsKeyedTable matrix naming.font.now (adobe ∷ identity ∷ []) codes privates bytes)
      (λ names. IsTableNamed names.now matrix naming.font.now codes privates bytes)

-- the operators of hints: zones, stem widths and their parameters (section 15)
abbrev pub hint_operators : List Operator
hint_operators =
    BlueValues ∷ OtherBlues ∷ FamilyBlues ∷ FamilyOtherBlues ∷ StdHW ∷ StdVW ∷ BlueScale ∷ BlueShift ∷ BlueFuzz ∷ StemSnapH ∷ StemSnapV
    ∷ LanguageGroup ∷ ExpansionFactor ∷ []

-- bytes that are operations of hints, one after the other
pub data AreHints : (text : List ℕ) → List Operation → Type 0 where
  no_hint : AreHints [] []
  one_more : (text more : List ℕ) (hints : List Operation) (hint : Operation) → AreHints text hints → Contains hint_operators hint.0 →
      IsDict more (hint ∷ []) → AreHints (text ++ more) (hints ++ hint ∷ [])

-- `defaultWidthX` and `nominalWidthX`, which are 0 (section 15)
abbrev pub widths_text : List ℕ
widths_text = 0x8b ∷ 0x14 ∷ 0x8b ∷ 0x15 ∷ []

-- A Private DICT has only hints and the two widths. So it has no local subroutines.
abbrev pub IsPrivate : (text : List ℕ) → Type 0
IsPrivate text = (front : List ℕ) × (hints : List Operation) × AreHints front hints × (text ≡ front ++ widths_text)

-- there is a Private DICT for each Font DICT of the CFF2 table
abbrev pub AreOfFont : Font → (privates : List (List ℕ)) → Type 0
AreOfFont font privates = (length privates ≡ length (view_shown font).font_dictionaries) × All IsPrivate privates
