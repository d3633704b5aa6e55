-- The layout of a font that is read as a view (Technical Note 5176, "CFF Data Layout"; "CID-keyed Fonts"). The font set begins the bytes,
-- and all offsets are relative to that. An INDEX is as it is opened: its items may be empty.
use Rattle.std.specs.Prelude.{◌≡◌, ◌↔◌, ℕ, ◌≤◌, ℤ, pos, ◌+ℤ◌, List, [], ◌∷◌, length, Option, Some, None, IsSome, slice_get}
use Rattle.postscript_base.specs.Tape.Outcome.{Got}
use Rattle.postscript_base.specs.Compact1.Defaults.{look, first_of, first_two_of}
use Rattle.postscript_base.specs.Compact1.Dictionary.{Dictionary, dictionary_of}
use Rattle.postscript_base.specs.Compact1.DictionaryLaw.{IsDictionary}
use Rattle.postscript_base.specs.declared.compact1.operator.Operator.{Operator}
use Rattle.postscript_base.specs.declared.compact1.operator.Operator.TheVariants as operators
use Rattle.postscript_compact1.specs.FontSet.Parts.{HasFirst, HasPrivate, IsPlace}
use Rattle.postscript_base.specs.Index.{number_at, IsOpened}
use Rattle.postscript_view.specs.Order.{view_of}
use Rattle.postscript_view.specs.Contents.{Tables, PrivateDict, View}

-- an INDEX of these items is at an offset
abbrev pub IsIndexAt : List ℕ → (offset : ℕ) → List (List ℕ) → Type 0
IsIndexAt bytes offset items = (next : ℕ) × IsPlace offset × IsOpened bytes offset items next

-- it is at the offset that an operator names
abbrev pub NamesIndex : List ℕ → Dictionary → Operator → List (List ℕ) → Type 0
NamesIndex bytes map operator items = (offset : ℕ) × HasFirst map operator (pos offset) × IsIndexAt bytes offset items

-- At the offset there are names, Top DICTs, strings and global subroutines, one after the other. The font has the Top DICT with this
-- number.
pub record AreTables (bytes : List ℕ) (place number : ℕ) (tables : Tables) : Type 0 where
  pub dictionaries : List (List ℕ)
  pub item : List ℕ
  pub names_next : ℕ
  pub dictionaries_next : ℕ
  pub strings_next : ℕ
  pub next : ℕ
  pub are_names : IsOpened bytes place tables.names names_next
  pub are_dictionaries : IsOpened bytes names_next dictionaries dictionaries_next
  pub are_strings : IsOpened bytes dictionaries_next tables.strings strings_next
  pub are_subroutines : IsOpened bytes strings_next tables.subroutines next
  pub there : slice_get dictionaries number ≡ Some item
  pub is_dictionary : IsDictionary item 0 tables.dictionary

-- the charstrings of a Top DICT, which are of Type 2
pub record AreCharStrings (bytes : List ℕ) (map : Dictionary) (codes : List (List ℕ)) : Type 0 where
  pub type : HasFirst map operators.CharStringType (pos 2)
  pub named : NamesIndex bytes map operators.CharStrings codes

-- the local subroutines, whose offset is relative to the Private DICT and may be negative
abbrev pub AreSubroutines : List ℕ → (base : ℕ) → Dictionary → List (List ℕ) → Type 0
AreSubroutines bytes base local subroutines =
    (z : ℤ) × (offset : ℕ) × HasFirst local operators.Subrs z × (pos base +ℤ z ≡ pos offset) × IsIndexAt bytes offset subroutines

-- The Private DICT that a dictionary names, and its local subroutines. Either may be missing.
pub data HasLocals (bytes : List ℕ) (map local : Dictionary) (subroutines : List (List ℕ)) : Type 0 where
  WithBoth : (offset : ℕ) → HasPrivate bytes 0 map offset local → AreSubroutines bytes offset local subroutines →
      HasLocals bytes map local subroutines
  WithoutSubrs : (offset : ℕ) → HasPrivate bytes 0 map offset local → first_of (look local operators.Subrs) ≡ None → subroutines ≡ [] →
      HasLocals bytes map local subroutines
  WithoutPrivate : first_two_of (look map operators.Private) ≡ None → local ≡ dictionary_of [] → subroutines ≡ [] →
      HasLocals bytes map local subroutines

-- the part of a Top DICT or of a Font DICT
abbrev pub IsPart : List ℕ → Dictionary → Option Dictionary → PrivateDict → Type 0
IsPart bytes map font part = HasLocals bytes map part.dictionary part.subroutines × (part.font ≡ font)

-- each item is a Font DICT, and has this part
abbrev pub ArePartsOf : List ℕ → List (List ℕ) → List PrivateDict → Type 0
ArePartsOf bytes [] [] = Unit {0}
ArePartsOf bytes (item ∷ items) (part ∷ parts) = (map : Dictionary) × IsDictionary item 0 map × IsPart bytes map (Some map) part
    × ArePartsOf bytes items parts
ArePartsOf bytes [] (part ∷ parts) = ⊥
ArePartsOf bytes (item ∷ items) [] = ⊥

-- A font has one part. If it is CID-keyed, it has a part for each of the Font DICTs that FDArray names.
pub data AreParts (bytes : List ℕ) (map : Dictionary) (parts : List PrivateDict) : Type 0 where
  OfFont : (part : PrivateDict) → look map operators.ROS ≡ None → IsPart bytes map None part → parts ≡ part ∷ [] → AreParts bytes map parts
  OfFontDictionaries : (items : List (List ℕ)) → IsSome (look map operators.ROS) → NamesIndex bytes map operators.FDArray items →
      ArePartsOf bytes items parts → AreParts bytes map parts

-- the font with this number is laid out in the bytes, whose third byte is the size of the header
pub record IsLaidOut (bytes : List ℕ) (number : ℕ) (view : View) : Type 0 where
  pub header : 3 ≤ length bytes
  pub tables : AreTables bytes (number_at bytes 2 1) number view.tables
  pub char_strings : AreCharStrings bytes view.tables.dictionary view.char_strings
  pub parts : AreParts bytes view.tables.dictionary view.parts

-- A law: a font is read as a view exactly if it is laid out.
abbrev pub ReadsLayout : Type 0
ReadsLayout = (bytes : List ℕ) (number : ℕ) (view : View) → (view_of number bytes 0 ≡ Got view 0) ↔ IsLaidOut bytes number view
