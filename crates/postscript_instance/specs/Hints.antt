-- The hints of a CFF2 Private DICT at a location (OpenType 1.9, "CFF2", "DICT Data", "Private DICT Data"; Technical Note 5176, sections 4
-- and 15).
use Rattle.std.specs.List.{Contains, flat_map, list_all, slice_range}
use Rattle.std.specs.Prelude.{◌≡◌, ◌⊎◌, ℕ, suc, ◌+◌, ◌-◌, ◌*◌, ◌<◌, ◌≤◌, ◌==◌, ◌&&◌, ◌||◌, nat_lt, nat_le, Bool, true, false, ℤ, pos, negsuc, int_le, List, [], ◌∷◌, ◌++◌, length, take, drop, Option, Some, None, Vec, slice_get, Result, Ok, Err, if◌then◌else◌}
use Rattle.std.specs.declared.alloc.Global.{Global}
use Rattle.postscript_base.specs.Compact1.Operation.{Operation}
use Rattle.postscript_base.specs.Index.Lent.{items_of}
use Rattle.postscript_base.specs.Refusal.{Refusal}
use Rattle.postscript_cff2.specs.Parts.{IsPart, PrivateDict}
use Rattle.postscript_cff2.specs.Tokens.{byte_at, integer_at, operand_size, operator_size}
use Rattle.postscript_cff2.specs.declared.font.Font.{Font}
use Rattle.postscript_type2.specs.Number.{whole}
use Rattle.postscript_variable.specs.Blending.{value}
use Rattle.postscript_variable_font.specs.declared.place.Place.{Place}
use Rattle.postscript_instance.specs.Far.{AreEdges}
use Rattle.postscript_instance.specs.Numbers.{numbers_text}
use Rattle.postscript_instance.specs.Private.{rounded_edges}
use Rattle.postscript_instance.specs.Reals.{real_text}
use Rattle.postscript_instance.specs.Whole.{IsDict, hint_operators, widths_text}
use Rattle.postscript_instance.specs.declared.privates.Number.{Number}
use Rattle.postscript_instance.specs.declared.privates.Number.TheVariants.{Blended, Real, Unknown, Whole}

-- The operand at an offset: a whole number or a real, with the offsets of its first byte and after its last byte. Any other operand is
-- unknown.
abbrev pub number_or : (is_real : Bool) → (from to : ℕ) → Option ℤ → Number
number_or is_real from to (Some n) = Whole n from to
number_or true from to None = Real from to
number_or false from to None = Unknown

abbrev pub operand_at : List ℕ → (place : ℕ) → Number
operand_at bytes place =
    number_or (byte_at bytes place == 30) place (place + operand_size bytes place) (integer_at bytes place (length bytes))

-- The 16.16 number of an operand that is blended or a whole number of 16 bits. Reals cannot be blended.
abbrev pub bits_of : Number → Option ℤ
bits_of (Whole n from to) = if int_le (negsuc 32767) n && int_le n (pos 32767) then Some (whole n) else None
bits_of (Blended bits) = Some bits
bits_of (Real from to) = None
bits_of Unknown = None

-- those of all operands, if each has one
abbrev pub with_bits : Option ℤ → Option (List ℤ) → Option (List ℤ)
with_bits (Some bits) (Some more) = Some (bits ∷ more)
with_bits (Some bits) None = None
with_bits None more = None

abbrev pub all_bits : List Number → Option (List ℤ)
all_bits [] = Some []
all_bits (number ∷ numbers) = with_bits (bits_of number) (all_bits numbers)

-- A blended operand: the default, and each delta times the scalar of its region ("blend"). It is unknown if it does not fit into 16.16 bits.
abbrev pub number_of : Result ℤ Refusal → Number
number_of (Ok bits) = Blended bits
number_of (Err e) = Unknown

abbrev pub value_of : (default : Option ℤ) → (deltas : Option (List ℤ)) → (scalars : List ℕ) → Number
value_of (Some default) (Some deltas) scalars = number_of (value default deltas scalars)
value_of (Some default) None scalars = Unknown
value_of None deltas scalars = Unknown

abbrev pub blended : (default : Number) → (deltas : List Number) → (scalars : List ℕ) → Number
blended default deltas scalars = value_of (bits_of default) (all_bits deltas) scalars

-- The blended operands of defaults. If there are k regions, the first k deltas belong to the first default, and so on.
abbrev pub blended_each : (defaults deltas : List Number) → (scalars : List ℕ) → List Number
blended_each [] deltas scalars = []
blended_each (default ∷ defaults) deltas scalars =
    blended default (take (length scalars) deltas) scalars ∷ blended_each defaults (drop (length scalars) deltas) scalars

-- `blend` with `count` defaults replaces them and their deltas, which are the last operands. If there are too few, all operands are dropped.
abbrev pub blend_of : (count : ℕ) → List Number → (scalars : List ℕ) → List Number
blend_of count numbers scalars =
    let base = length numbers - count * suc (length scalars) in
    let group = drop base numbers in
    if nat_lt (length numbers) (count * suc (length scalars)) then []
    else take base numbers ++ blended_each (take count group) (drop count group) scalars

-- the number of defaults, which is the last operand
abbrev pub natural : Option Number → ℕ
natural (Some (Whole (pos n) from to)) = n
natural number = 0

abbrev pub blend : List Number → (scalars : List ℕ) → List Number
blend numbers scalars =
    let front = length numbers - 1 in blend_of (natural (slice_get numbers front)) (take front numbers) scalars

-- the scalars of item variation data, which are none if there are no such data
abbrev pub scalars_or : Option (Vec ℕ Global) → List ℕ
scalars_or None = []
scalars_or (Some scalars) = scalars.items

abbrev pub scalars_in : List (Vec ℕ Global) → (index : ℕ) → List ℕ
scalars_in tables index = scalars_or (slice_get tables index)

-- the item variation data that `vsindex` chooses: its first operand; there are none with a negative number
abbrev pub chosen : (index : ℕ) → List Number → ℕ
chosen index (Whole (pos n) from to ∷ numbers) = n
chosen index (Whole (negsuc n) from to ∷ numbers) = 18446744073709551615
chosen index numbers = index

-- the operand is in the DICT as it is
abbrev pub is_encoded : Number → Bool
is_encoded (Whole n from to) = true
is_encoded (Real from to) = true
is_encoded (Blended bits) = false
is_encoded Unknown = false

-- the bytes of such an operand, with 18 significant digits in a real
abbrev pub text_of : (bytes : List ℕ) → Number → List ℕ
text_of bytes (Whole n from to) = slice_range bytes from to
text_of bytes (Real from to) = real_text (slice_range bytes from to)
text_of bytes number = []

-- The operands of a hint in the written DICT. If none was blended they are as in the DICT. Otherwise all are whole numbers. A hint with
-- several numbers has edges, each as the distance from the one before, the first from 0. Each edge is rounded to the nearest whole number,
-- the upper one if it is halfway.
pub data AreOperands (bytes : List ℕ) (numbers : List Number) : (text : List ℕ) → Type 0 where
  as_they_are : list_all is_encoded numbers ≡ true → AreOperands bytes numbers (flat_map (text_of bytes) numbers)
  at_location : (bits : List ℤ) → list_all is_encoded numbers ≡ false → all_bits numbers ≡ Some bits → AreEdges (pos 0) bits →
      AreOperands bytes numbers (numbers_text (rounded_edges (pos 0) bits))

-- the bytes are an operation of a hint
abbrev pub IsHintOperation : List ℕ → Type 0
IsHintOperation text = (hint : Operation) × Contains hint_operators hint.0 × IsDict text (hint ∷ [])

-- The operation of a hint in the written DICT. It is left out if it has no operands or more than 48, if an operand is unknown, if an edge or
-- a distance does not fit into 16.16 bits, or if it cannot be read.
pub data IsHintAt (bytes operator : List ℕ) (numbers : List Number) : (text : List ℕ) → Type 0 where
  written : (operands : List ℕ) → 0 < length numbers → length numbers ≤ 48 → AreOperands bytes numbers operands →
      IsHintOperation (operands ++ operator) → IsHintAt bytes operator numbers (operands ++ operator)
  without_operands : length numbers ≡ 0 → IsHintAt bytes operator numbers []
  too_many : 48 < length numbers → IsHintAt bytes operator numbers []
  unknown : ((operands : List ℕ) → AreOperands bytes numbers operands → ⊥) → IsHintAt bytes operator numbers []
  unreadable : (operands : List ℕ) → AreOperands bytes numbers operands → (IsHintOperation (operands ++ operator) → ⊥) →
      IsHintAt bytes operator numbers []

-- the operators of hints: zones, stem widths, and the parameters of both
abbrev pub is_hint_operator : List ℕ → Bool
is_hint_operator (first ∷ []) = nat_le 6 first && nat_le first 11
is_hint_operator (first ∷ second ∷ []) =
    (first == 12) && ((nat_le 9 second && nat_le second 13) || (nat_le 17 second && nat_le second 18))
is_hint_operator operator = false

-- Where a DICT is read: the item variation data in use, and the operands so far.
pub record State : Type 0 where
  pub index : ℕ
  pub numbers : List Number

-- What an operator does, and what is written for it. `blend` leaves operands, and all other operators use all of them.
pub data Acts (tables : List (Vec ℕ Global)) (bytes operator : List ℕ) (now : State) : (text : List ℕ) → State → Type 0 where
  blends : operator ≡ 23 ∷ [] →
      Acts tables bytes operator now [] (record { index = now.index; numbers = blend now.numbers (scalars_in tables now.index) })
  chooses : operator ≡ 22 ∷ [] → Acts tables bytes operator now [] (record { index = chosen now.index now.numbers; numbers = [] })
  hints : (text : List ℕ) → is_hint_operator operator ≡ true → IsHintAt bytes operator now.numbers text →
      Acts tables bytes operator now text (record { index = now.index; numbers = [] })
  skips : (operator ≡ 23 ∷ [] → ⊥) → (operator ≡ 22 ∷ [] → ⊥) → is_hint_operator operator ≡ false →
      Acts tables bytes operator now [] (record { index = now.index; numbers = [] })

-- The hints from an offset on, as they are written one after the other. A truncated operator is ignored.
pub data HintsAt (tables : List (Vec ℕ Global)) (bytes : List ℕ) : (place : ℕ) → State → (text : List ℕ) → Type 0 where
  ends : (place : ℕ) (now : State) → length bytes ≤ place → HintsAt tables bytes place now []
  cut_off : (place : ℕ) (now : State) → place < length bytes → byte_at bytes place < 28 →
      length bytes < place + operator_size (byte_at bytes place) → HintsAt tables bytes place now []
  operand : (place : ℕ) (now : State) (text : List ℕ) → place < length bytes → 28 ≤ byte_at bytes place →
      HintsAt tables bytes (place + operand_size bytes place)
      (record { index = now.index; numbers = now.numbers ++ operand_at bytes place ∷ [] }) text →
      HintsAt tables bytes place now text
  operator : (place next : ℕ) (now after : State) (text more : List ℕ) → place < length bytes → byte_at bytes place < 28 →
      next ≡ place + operator_size (byte_at bytes place) → next ≤ length bytes →
      Acts tables bytes (slice_range bytes place next) now text after → HintsAt tables bytes next after more →
      HintsAt tables bytes place now (text ++ more)

-- A Private DICT that is written has the hints of a CFF2 one at a location, in the same order, and the two widths. Item variation data 0
-- are in use at first. `tables` are the scalars of all item variation data.
abbrev pub IsPrivateAt : (tables : List (Vec ℕ Global)) → (source text : List ℕ) → Type 0
IsPrivateAt tables source text =
    (front : List ℕ) × HintsAt tables source 0 (record { index = 0; numbers = [] }) front × (text ≡ front ++ widths_text)

-- the CFF2 Private DICT of a Font DICT, or no bytes if there is none
abbrev pub IsSource : Font → (number : ℕ) → (source : List ℕ) → Type 0
IsSource font number source =
    ((dictionary : List ℕ) × (part : PrivateDict) × (slice_get (items_of font.font_dictionaries) number ≡ Some dictionary)
    × IsPart font.bytes.now dictionary part × (source ≡ part.private_dictionary))
    ⊎ ((source ≡ []) × ((dictionary : List ℕ) (part : PrivateDict) → slice_get (items_of font.font_dictionaries) number ≡ Some dictionary →
    IsPart font.bytes.now dictionary part → ⊥))

-- each of the first `count` Private DICTs has the hints of the CFF2 Private DICT with the same number at the location
abbrev pub AreHintsAt : Font → Place → (privates : List (List ℕ)) → (count : ℕ) → Type 0
AreHintsAt font place privates count = (number : ℕ) → number < count → (source : List ℕ) × (text : List ℕ) × IsSource font number source
    × (slice_get privates number ≡ Some text) × IsPrivateAt place.tables.items source text
