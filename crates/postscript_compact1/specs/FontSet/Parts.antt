-- The parts of a font that belong to one of its Top DICTs, and their layout (Technical Note 5176, "CFF Data Layout"). Offsets are relative
-- to the start of the font set.
use Rattle.std.specs.Prelude.{◌≡◌, ◌⊎◌, ℕ, ◌+◌, ◌^◌, ◌<◌, ◌≤◌, ℤ, pos, ◌+ℤ◌, List, [], ◌∷◌, length, take, drop, Option, Some, None, map}
use Rattle.postscript_base.specs.Tape.Outcome.{Got, Reading}
use Rattle.postscript_base.specs.Compact1.Decimal.{Decimal, to_i32}
use Rattle.postscript_base.specs.Compact1.Defaults.{look, first_of, first_two_of}
use Rattle.postscript_base.specs.Compact1.Dictionary.{Dictionary, dictionary_of}
use Rattle.postscript_base.specs.Compact1.DictionaryLaw.{IsDictionary}
use Rattle.postscript_base.specs.declared.compact1.operator.Operator.{Operator}
use Rattle.postscript_base.specs.declared.compact1.operator.Operator.TheVariants as operators
use Rattle.postscript_compact1.specs.Index.{Index, empty}
use Rattle.postscript_compact1.specs.IndexAt.{IsIndex}
use Rattle.postscript_compact1.specs.CharSetAt.{IsCharSet}
use Rattle.postscript_compact1.specs.declared.char_set.CharSet.{CharSet}
use Rattle.postscript_compact1.specs.declared.char_set.CharSet.TheVariants as sets
use Rattle.postscript_compact1.specs.declared.encoding.Encoding.{Encoding}
use Rattle.postscript_compact1.specs.declared.encoding.Encoding.TheVariants as encodings
use Rattle.postscript_compact1.specs.declared.font_set.manner.Manner.{Manner}
use Rattle.postscript_compact1.specs.declared.font_set.manner.Manner.TheVariants.{Lenient}
use Rattle.postscript_compact1.specs.FontSet.Font.{Part}

-- the first operand of an operator, or its first two, from the dictionary or the defaults, as integers of 32 bits
abbrev pub HasFirst : Dictionary → Operator → ℤ → Type 0
HasFirst map operator n = (x : Decimal) × (first_of (look map operator) ≡ Some x) × (to_i32 x ≡ Some n)

abbrev pub HasTwo : Dictionary → Operator → ℤ → ℤ → Type 0
HasTwo map operator m n = (x : Decimal) × (y : Decimal) × (first_two_of (look map operator) ≡ Some (x, y)) × (to_i32 x ≡ Some m)
    × (to_i32 y ≡ Some n)

-- a value is at the offset `place`, and `next` is the offset after it
abbrev pub Stands : {A : Type 0} → Reading A → List ℕ → ℕ → A → ℕ → Type 0
Stands reading bytes place value next = reading bytes place ≡ Got value next

-- `slice` is the `size` bytes at an offset. The empty slice is at any offset.
abbrev pub IsSlice : List ℕ → ℕ → ℕ → List ℕ → Type 0
IsSlice bytes place size slice = (0 < size → place + size ≤ length bytes) × (slice ≡ take size (drop place bytes))

-- an offset that fits in 64 bits
abbrev pub IsPlace : ℕ → Type 0
IsPlace place = place < 2 ^ 64

-- the operand of Encoding is 0 or 1, for this encoding
abbrev pub HasEncoding : Dictionary → Encoding → Type 0
HasEncoding map encoding =
    (HasFirst map operators.Encoding (pos 0) × (encoding ≡ encodings.Standard))
    ⊎ (HasFirst map operators.Encoding (pos 1) × (encoding ≡ encodings.Expert))

-- the charstrings of a Top DICT, which are of Type 2
abbrev pub HasCharStrings : List ℕ → ℕ → Dictionary → Index → ℕ → Type 0
HasCharStrings bytes start map char_strings next =
    (offset : ℕ) × HasFirst map operators.CharStrings (pos offset) × HasFirst map operators.CharStringType (pos 2)
    × IsPlace (start + offset)
    × IsIndex bytes (start + offset) char_strings next

-- the charset of a Top DICT for a number of glyphs: 0, 1 and 2 are the predefined ones, and any other is at its offset
pub data HasCharSet (bytes : List ℕ) (start glyphs : ℕ) (map : Dictionary) (set : CharSet) : Type 0 where
  Is_0 : HasFirst map operators.CharSet (pos 0) → set ≡ sets.ISOAdobe → HasCharSet bytes start glyphs map set
  Is_1 : HasFirst map operators.CharSet (pos 1) → set ≡ sets.Expert → HasCharSet bytes start glyphs map set
  Is_2 : HasFirst map operators.CharSet (pos 2) → set ≡ sets.ExpertSubset → HasCharSet bytes start glyphs map set
  Own : (offset next : ℕ) → HasFirst map operators.CharSet (pos offset) → 3 ≤ offset → IsPlace (start + offset) →
      IsCharSet bytes (start + offset) glyphs set next → HasCharSet bytes start glyphs map set

-- the Private DICT of a Top DICT, and its offset
abbrev pub HasPrivate : List ℕ → ℕ → Dictionary → ℕ → Dictionary → Type 0
HasPrivate bytes start map offset local =
    (size : ℕ) × (slice : List ℕ) × HasTwo map operators.Private (pos size) (pos offset) × IsPlace (start + offset)
    × IsSlice bytes (start + offset) size slice × IsDictionary slice 0 local

-- The local subroutines, and the offset after them. Their own offset is relative to the Private DICT, and may be negative.
abbrev pub HasSubroutines : List ℕ → ℕ → ℕ → Dictionary → Index → ℕ → Type 0
HasSubroutines bytes start base local subroutines next =
    (z : ℤ) × (offset : ℕ) × HasFirst local operators.Subrs z × (pos base +ℤ z ≡ pos offset) × IsPlace (start + offset)
    × IsIndex bytes (start + offset) subroutines next

-- operands are missing, and the font may lack them
abbrev pub IsLacking : {A : Type 0} → Manner → Option A → Type 0
IsLacking manner operands = (manner ≡ Lenient) × (operands ≡ None)

-- The Private DICT and the local subroutines of a Top DICT, and the offset after these. A font that may lack them has no subroutines if
-- Subrs has no operand. It has no Private DICT either if Private has fewer than two operands. The next offset is then not specified.
pub data HasLocals (manner : Manner) (bytes : List ℕ) (start : ℕ) (map local : Dictionary) (subroutines : Index) (next : ℕ) : Type 0 where
  WithBoth : (offset : ℕ) → HasPrivate bytes start map offset local → HasSubroutines bytes start offset local subroutines next →
      HasLocals manner bytes start map local subroutines next
  WithoutSubrs : (offset : ℕ) → HasPrivate bytes start map offset local → IsLacking manner (first_of (look local operators.Subrs)) →
      subroutines ≡ empty → HasLocals manner bytes start map local subroutines next
  WithoutPrivate : IsLacking manner (first_two_of (look map operators.Private)) → local ≡ dictionary_of [] → subroutines ≡ empty →
      HasLocals manner bytes start map local subroutines next

-- the parts of a font that belong to one Top DICT, and the offset after its local subroutines
pub record IsPart (manner : Manner) (bytes : List ℕ) (start : ℕ) (map : Dictionary) (part : Part) (next : ℕ) : Type 0 where
  pub char_strings_next : ℕ
  pub encoding : HasEncoding map part.encoding
  pub char_strings : HasCharStrings bytes start map part.char_strings char_strings_next
  pub char_set : HasCharSet bytes start (length part.char_strings.items) map part.char_set
  pub locals : HasLocals manner bytes start map part.local_dictionary part.local_subroutines next

-- the parts of each Top DICT, and the offset after the last one, or the same offset if there are no Top DICTs
abbrev pub AreParts : Manner → List ℕ → ℕ → List Dictionary → List Part → ℕ → ℕ → Type 0
AreParts manner bytes start [] [] place next = place ≡ next
AreParts manner bytes start (m ∷ ms) (p ∷ ps) place next = (behind : ℕ) × IsPart manner bytes start m p behind
    × AreParts manner bytes start ms ps behind next
AreParts manner bytes start [] (p ∷ ps) place next = ⊥
AreParts manner bytes start (m ∷ ms) [] place next = ⊥
