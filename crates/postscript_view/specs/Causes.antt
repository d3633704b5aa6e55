-- Why a font is not read: one step fails with the error, and the data before it is laid out (Technical Note 5176, "CFF Data Layout").
use Rattle.std.specs.Prelude.{◌≡◌, ◌⊎◌, ℕ, ◌+◌, ◌<◌, ◌≤◌, ℤ, pos, ◌+ℤ◌, List, [], ◌∷◌, length, Some, None, IsSome, slice_get}
use Rattle.postscript_base.specs.Refusal.{unexpected_eof, unknown_char_string_format}
use Rattle.postscript_base.specs.RefusalOf.{refusal_of}
use Rattle.postscript_base.specs.Tape.Outcome.{RefusedAs}
use Rattle.postscript_base.specs.Compact1.Defaults.{look, first_of, first_two_of}
use Rattle.postscript_base.specs.Compact1.Dictionary.{Dictionary}
use Rattle.postscript_base.specs.Compact1.DictionaryLaw.{IsDictionary, IsRefused}
use Rattle.postscript_base.specs.declared.compact1.operator.Operator.{Operator}
use Rattle.postscript_base.specs.declared.compact1.operator.Operator.TheVariants as operators
use Rattle.postscript_base.specs.declared.error.Error.{Error}
use Rattle.postscript_compact1.specs.FontSet.PartCauses.{NoFirst, NoOffset, NoBounds}
use Rattle.postscript_compact1.specs.FontSet.Parts.{HasFirst, HasTwo, HasPrivate, IsSlice}
use Rattle.postscript_base.specs.Index.{number_at, opened, IsOpened}
use Rattle.postscript_view.specs.Layout.{NamesIndex, AreTables, AreCharStrings, IsPart}
use Rattle.postscript_view.specs.Contents.{Tables, PrivateDict}

-- opening an INDEX at an offset fails with this error, for a reason that `IsNotOpened` of postscript_base names
abbrev pub NoIndex : Error → List ℕ → (place : ℕ) → Type 0
NoIndex e bytes place = RefusedAs e (opened bytes place)

-- an operator names no offset, or one at which no INDEX can be opened; offsets are relative to a base
pub data NamesNone (e : Error) (bytes : List ℕ) (base : ℕ) (map : Dictionary) (operator : Operator) : Type 0 where
  OfOffset : NoOffset e 0 base map operator → NamesNone e bytes base map operator
  OfIndex : (z : ℤ) (offset : ℕ) → HasFirst map operator z → pos base +ℤ z ≡ pos offset → NoIndex e bytes offset →
      NamesNone e bytes base map operator

-- the names, Top DICTs, strings and global subroutines, in this order, and then the Top DICT of the font with this number
pub data NoTables (e : Error) (bytes : List ℕ) (place number : ℕ) : Type 0 where
  OfNames : NoIndex e bytes place → NoTables e bytes place number
  OfDictionaries : (names : List (List ℕ)) (first : ℕ) → IsOpened bytes place names first → NoIndex e bytes first →
      NoTables e bytes place number
  OfStrings : (names maps : List (List ℕ)) (first second : ℕ) → IsOpened bytes place names first → IsOpened bytes first maps second →
      NoIndex e bytes second → NoTables e bytes place number
  OfSubroutines : (names maps strings : List (List ℕ)) (first second third : ℕ) → IsOpened bytes place names first →
      IsOpened bytes first maps second → IsOpened bytes second strings third → NoIndex e bytes third → NoTables e bytes place number
  OfNumber : (names maps : List (List ℕ)) (first second : ℕ) → IsOpened bytes place names first → IsOpened bytes first maps second →
      slice_get maps number ≡ None → refusal_of e ≡ unexpected_eof → NoTables e bytes place number
  OfDictionary : (names maps : List (List ℕ)) (item : List ℕ) (first second : ℕ) → IsOpened bytes place names first →
      IsOpened bytes first maps second → slice_get maps number ≡ Some item → IsRefused item 0 (refusal_of e) →
      NoTables e bytes place number

-- charstrings of a type other than 2
pub data NoType (e : Error) (map : Dictionary) : Type 0 where
  OfType : NoFirst e map operators.CharStringType → NoType e map
  OtherType : (z : ℤ) → HasFirst map operators.CharStringType z → (z ≡ pos 2 → ⊥) → refusal_of e ≡ unknown_char_string_format → NoType e map

pub data NoCharStrings (e : Error) (bytes : List ℕ) (map : Dictionary) : Type 0 where
  OfTheirOffset : NoOffset e 0 0 map operators.CharStrings → NoCharStrings e bytes map
  OfTheirType : NoType e map → NoCharStrings e bytes map
  OfTheirIndex : (offset : ℕ) → HasFirst map operators.CharStrings (pos offset) → HasFirst map operators.CharStringType (pos 2) →
      NoIndex e bytes offset → NoCharStrings e bytes map

-- the Private DICT that is named, or its subroutines
pub data NoPart (e : Error) (bytes : List ℕ) (map : Dictionary) : Type 0 where
  OfBounds : IsSome (first_two_of (look map operators.Private)) → NoBounds e 0 map → NoPart e bytes map
  OfSlice : (size offset : ℕ) → HasTwo map operators.Private (pos size) (pos offset) → 0 < size → length bytes < offset + size →
      refusal_of e ≡ unexpected_eof → NoPart e bytes map
  OfPrivate : (size offset : ℕ) (held : List ℕ) → HasTwo map operators.Private (pos size) (pos offset) → IsSlice bytes offset size held →
      IsRefused held 0 (refusal_of e) → NoPart e bytes map
  OfSubrs : (offset : ℕ) (local : Dictionary) → HasPrivate bytes 0 map offset local → IsSome (first_of (look local operators.Subrs)) →
      NamesNone e bytes offset local operators.Subrs → NoPart e bytes map

-- some Font DICT or its part fails, and those before it are valid
abbrev pub NoItem : Error → List ℕ → List (List ℕ) → Type 0
NoItem e bytes [] = ⊥
NoItem e bytes (item ∷ items) =
    IsRefused item 0 (refusal_of e)
    ⊎ (((map : Dictionary) × IsDictionary item 0 map × NoPart e bytes map)
    ⊎ ((map : Dictionary) × (part : PrivateDict) × IsDictionary item 0 map × IsPart bytes map (Some map) part × NoItem e bytes items))

pub data NoParts (e : Error) (bytes : List ℕ) (map : Dictionary) : Type 0 where
  OfFont : look map operators.ROS ≡ None → NoPart e bytes map → NoParts e bytes map
  OfArray : IsSome (look map operators.ROS) → NamesNone e bytes 0 map operators.FDArray → NoParts e bytes map
  OfItem : (items : List (List ℕ)) → IsSome (look map operators.ROS) → NamesIndex bytes map operators.FDArray items →
      NoItem e bytes items → NoParts e bytes map

-- the header, then the tables after it, then the charstrings, then the parts
pub data NoFont (e : Error) (bytes : List ℕ) (number : ℕ) : Type 0 where
  OfHeader : length bytes < 3 → refusal_of e ≡ unexpected_eof → NoFont e bytes number
  OfTables : 3 ≤ length bytes → NoTables e bytes (number_at bytes 2 1) number → NoFont e bytes number
  OfCharStrings : (tables : Tables) → AreTables bytes (number_at bytes 2 1) number tables → NoCharStrings e bytes tables.dictionary →
      NoFont e bytes number
  OfParts : (tables : Tables) (codes : List (List ℕ)) → AreTables bytes (number_at bytes 2 1) number tables →
      AreCharStrings bytes tables.dictionary codes → NoParts e bytes tables.dictionary → NoFont e bytes number
