-- Why the parts of a font that belong to one Top DICT are rejected: one step fails with the error, and each step before it succeeds as the
-- layout says.
use Rattle.std.specs.Prelude.{◌≡◌, ◌⊎◌, ℕ, ◌+◌, ◌<◌, ◌≤◌, ℤ, pos, negsuc, ◌+ℤ◌, List, [], ◌∷◌, length, Option, Some, None}
use Rattle.postscript_base.specs.Error.{code}
use Rattle.postscript_base.specs.Refusal.{OfPart, OfMalformed, OfMissing, out_of_range_offset, unknown_char_string_format}
use Rattle.postscript_base.specs.RefusalOf.{refusal_of}
use Rattle.postscript_base.specs.Numbers.{slice}
use Rattle.postscript_base.specs.Tape.Outcome.{Reading, RefusedAs}
use Rattle.postscript_base.specs.Compact1.Decimal.{Decimal, to_i32}
use Rattle.postscript_base.specs.Compact1.Defaults.{look, first_of, first_two_of}
use Rattle.postscript_base.specs.Compact1.Dictionary.{Dictionary}
use Rattle.postscript_base.specs.Compact1.DictionaryLaw.{IsRefused}
use Rattle.postscript_base.specs.declared.compact1.operator.Operator.{Operator}
use Rattle.postscript_base.specs.declared.compact1.operator.Operator.TheVariants as operators
use Rattle.postscript_base.specs.declared.error.Error.{Error}
use Rattle.postscript_base.specs.declared.error.Part.TheVariants as unsupported
use Rattle.postscript_compact1.specs.Index.{Index, index}
use Rattle.postscript_compact1.specs.CharSets.{char_set}
use Rattle.postscript_compact1.specs.declared.char_set.CharSet.{CharSet}
use Rattle.postscript_compact1.specs.declared.encoding.Encoding.{Encoding}
use Rattle.postscript_compact1.specs.declared.font_set.manner.Manner.{Manner}
use Rattle.postscript_compact1.specs.FontSet.Font.{Part}
use Rattle.postscript_compact1.specs.FontSet.Parts.{HasFirst, HasTwo, IsSlice, IsPlace, HasEncoding, HasCharStrings, HasCharSet, HasPrivate, IsLacking, IsPart}

-- the offset is past the end, or reading there fails with this error
abbrev pub RefusedAt : {A : Type 0} → Error → Reading A → List ℕ → ℕ → Type 0
RefusedAt e reading bytes place = ((length bytes < place) × (code e ≤ 2)) ⊎ ((place ≤ length bytes) × RefusedAs e (reading bytes place))

-- an operator has no first operand, or it is not an integer
pub data NoFirst (e : Error) (map : Dictionary) (op : Operator) : Type 0 where
  Missing : first_of (look map op) ≡ None → refusal_of e ≡ OfMissing op → NoFirst e map op
  Malformed : (x : Decimal) → first_of (look map op) ≡ Some x → to_i32 x ≡ None → refusal_of e ≡ OfMalformed op → NoFirst e map op

-- an offset is negative, or its sum with `start` does not fit in 64 bits
abbrev pub NoPlace : Error → ℕ → ℤ → Type 0
NoPlace e start offset = (refusal_of e ≡ out_of_range_offset) × ((n : ℕ) → offset ≡ pos n → IsPlace (start + n) → ⊥)

pub data NoOffset (e : Error) (start base : ℕ) (map : Dictionary) (op : Operator) : Type 0 where
  OfOperand : NoFirst e map op → NoOffset e start base map op
  OutOfRange : (z : ℤ) → HasFirst map op z → NoPlace e start (pos base +ℤ z) → NoOffset e start base map op

pub data NoEncoding (e : Error) (map : Dictionary) : Type 0 where
  EncodingOperand : NoFirst e map operators.Encoding → NoEncoding e map
  OtherEncoding : (z : ℤ) → HasFirst map operators.Encoding z → (z ≡ pos 0 → ⊥) → (z ≡ pos 1 → ⊥) →
      refusal_of e ≡ OfPart unsupported.CustomEncoding → NoEncoding e map

pub data NoCharStrings (e : Error) (bytes : List ℕ) (start : ℕ) (map : Dictionary) : Type 0 where
  StringsOffset : NoOffset e start 0 map operators.CharStrings → NoCharStrings e bytes start map
  TypeOperand : (n : ℕ) → HasFirst map operators.CharStrings (pos n) → IsPlace (start + n) → NoFirst e map operators.CharStringType →
      NoCharStrings e bytes start map
  OtherType : (n : ℕ) (z : ℤ) → HasFirst map operators.CharStrings (pos n) → IsPlace (start + n) →
      HasFirst map operators.CharStringType z → (z ≡ pos 2 → ⊥) → refusal_of e ≡ unknown_char_string_format →
      NoCharStrings e bytes start map
  StringsRefused : (n : ℕ) → HasFirst map operators.CharStrings (pos n) → IsPlace (start + n) →
      HasFirst map operators.CharStringType (pos 2) → RefusedAt e index bytes (start + n) → NoCharStrings e bytes start map

pub data NoCharSet (e : Error) (bytes : List ℕ) (start glyphs : ℕ) (map : Dictionary) : Type 0 where
  SetOperand : NoFirst e map operators.CharSet → NoCharSet e bytes start glyphs map
  SetNegative : (n : ℕ) → HasFirst map operators.CharSet (negsuc n) → refusal_of e ≡ out_of_range_offset →
      NoCharSet e bytes start glyphs map
  SetFar : (n : ℕ) → HasFirst map operators.CharSet (pos n) → 3 ≤ n → (IsPlace (start + n) → ⊥) → refusal_of e ≡ out_of_range_offset →
      NoCharSet e bytes start glyphs map
  SetRefused : (n : ℕ) → HasFirst map operators.CharSet (pos n) → 3 ≤ n → IsPlace (start + n) →
      RefusedAt e (char_set glyphs) bytes (start + n) → NoCharSet e bytes start glyphs map

pub data NoBounds (e : Error) (start : ℕ) (map : Dictionary) : Type 0 where
  TooFew : first_two_of (look map operators.Private) ≡ None → refusal_of e ≡ OfMissing operators.Private → NoBounds e start map
  NotWhole : (x y : Decimal) → first_two_of (look map operators.Private) ≡ Some (x, y) → (to_i32 x ≡ None) ⊎ (to_i32 y ≡ None) →
      refusal_of e ≡ OfMalformed operators.Private → NoBounds e start map
  BoundsRange : (m n : ℤ) → HasTwo map operators.Private m n → refusal_of e ≡ out_of_range_offset →
      ((size offset : ℕ) → m ≡ pos size → n ≡ pos offset → IsPlace (start + offset) → ⊥) → NoBounds e start map

pub data NoPrivate (e : Error) (bytes : List ℕ) (start : ℕ) (map : Dictionary) : Type 0 where
  PrivateBounds : NoBounds e start map → NoPrivate e bytes start map
  PrivateSlice : (size offset : ℕ) → HasTwo map operators.Private (pos size) (pos offset) → IsPlace (start + offset) → 0 < size →
      RefusedAt e (slice size) bytes (start + offset) → NoPrivate e bytes start map
  PrivateRefused : (size offset : ℕ) (held : List ℕ) → HasTwo map operators.Private (pos size) (pos offset) → IsPlace (start + offset) →
      IsSlice bytes (start + offset) size held → IsRefused held 0 (refusal_of e) → NoPrivate e bytes start map

pub data NoSubroutines (e : Error) (bytes : List ℕ) (start base : ℕ) (local : Dictionary) : Type 0 where
  SubrsOffset : NoOffset e start base local operators.Subrs → NoSubroutines e bytes start base local
  SubrsRefused : (z : ℤ) (n : ℕ) → HasFirst local operators.Subrs z → pos base +ℤ z ≡ pos n → IsPlace (start + n) →
      RefusedAt e index bytes (start + n) → NoSubroutines e bytes start base local

-- the operands exist, or must not be missing
abbrev pub IsSought : {A : Type 0} → Manner → Option A → Type 0
IsSought manner operands = IsLacking manner operands → ⊥

pub data NoPart (manner : Manner) (e : Error) (bytes : List ℕ) (start : ℕ) (map : Dictionary) : Type 0 where
  OfEncoding : NoEncoding e map → NoPart manner e bytes start map
  OfStrings : (encoding : Encoding) → HasEncoding map encoding → NoCharStrings e bytes start map → NoPart manner e bytes start map
  OfSet : (encoding : Encoding) (strings : Index) (next : ℕ) → HasEncoding map encoding → HasCharStrings bytes start map strings next →
      NoCharSet e bytes start (length strings.items) map → NoPart manner e bytes start map
  OfPrivate : (encoding : Encoding) (strings : Index) (next : ℕ) (set : CharSet) → HasEncoding map encoding →
      HasCharStrings bytes start map strings next → HasCharSet bytes start (length strings.items) map set
      → IsSought manner (first_two_of (look map operators.Private)) → NoPrivate e bytes start map → NoPart manner e bytes start map
  OfSubroutines : (encoding : Encoding) (strings : Index) (next : ℕ) (set : CharSet) (offset : ℕ) (local : Dictionary) →
      HasEncoding map encoding → HasCharStrings bytes start map strings next → HasCharSet bytes start (length strings.items) map set
      → HasPrivate bytes start map offset local → IsSought manner (first_of (look local operators.Subrs)) →
      NoSubroutines e bytes start offset local → NoPart manner e bytes start map

-- the parts of a Top DICT are rejected, and the Top DICTs before it have theirs
abbrev pub NoParts : Manner → Error → List ℕ → ℕ → List Dictionary → Type 0
NoParts manner e bytes start [] = ⊥
NoParts manner e bytes start (m ∷ ms) = NoPart manner e bytes start m
    ⊎ ((p : Part) × (next : ℕ) × IsPart manner bytes start m p next × NoParts manner e bytes start ms)
