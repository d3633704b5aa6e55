-- Why a font has no charset, or no encoding (Technical Note 5176, section 12, "Encodings", and section 13, "Charsets").
use Rattle.std.specs.Prelude.{◌≡◌, ◌⊎◌, ℕ, ◌+◌, ◌-◌, ◌*◌, ◌%◌, ◌<◌, ◌≤◌, negsuc, List, length, Some}
use Rattle.postscript_base.specs.Compact1.Dictionary.{Dictionary}
use Rattle.postscript_base.specs.Refusal.{OfPart, out_of_range_offset, unexpected_eof, unknown_char_set_format}
use Rattle.postscript_base.specs.RefusalOf.{refusal_of}
use Rattle.postscript_base.specs.declared.compact1.operator.Operator.{Operator}
use Rattle.postscript_base.specs.declared.compact1.operator.Operator.TheVariants as operators
use Rattle.postscript_base.specs.declared.error.Error.{Error}
use Rattle.postscript_base.specs.declared.error.Part.TheVariants as unsupported
use Rattle.postscript_compact1.specs.FontSet.PartCauses.{NoFirst}
use Rattle.postscript_compact1.specs.FontSet.Parts.{HasFirst}
use Rattle.postscript_base.specs.Index.{number_at}
use Rattle.postscript_view.specs.Encodings.{AreCodesAt}
use Rattle.postscript_view.specs.Select.{offset_of}
use Rattle.postscript_view.specs.declared.encoding.Codes.{Codes}

-- an operator names no offset: its first operand is missing, is not an integer of 32 bits, or is negative
pub data NamesNoOffset (e : Error) (map : Dictionary) (operator : Operator) : Type 0 where
  OfOperand : NoFirst e map operator → NamesNoOffset e map operator
  OfNegative : (n : ℕ) → HasFirst map operator (negsuc n) → refusal_of e ≡ out_of_range_offset → NamesNoOffset e map operator

-- the format byte is truncated, or the SIDs of format 0 are
abbrev pub AreCutIdentifiers : List ℕ → (place glyphs : ℕ) → Type 0
AreCutIdentifiers bytes place glyphs =
    (length bytes < place + 1)
    ⊎ ((place + 1 ≤ length bytes) × (number_at bytes place 1 ≡ 0) × (length bytes < place + 1 + 2 * (glyphs - 1)))

-- no SIDs are at an offset: they are truncated, or the format is not 0, 1 or 2
pub data NoIdentifiers (e : Error) (bytes : List ℕ) (place glyphs : ℕ) : Type 0 where
  OfCut : AreCutIdentifiers bytes place glyphs → refusal_of e ≡ unexpected_eof → NoIdentifiers e bytes place glyphs
  OfFormat : place + 1 ≤ length bytes → 2 < number_at bytes place 1 → refusal_of e ≡ unknown_char_set_format →
      NoIdentifiers e bytes place glyphs

-- why a font with this number of glyphs has no charset
pub data NoCharSet (e : Error) (bytes : List ℕ) (map : Dictionary) (glyphs : ℕ) : Type 0 where
  OfItsOffset : NamesNoOffset e map operators.CharSet → NoCharSet e bytes map glyphs
  OfIdentifiers : (offset : ℕ) → offset_of map operators.CharSet ≡ Some offset → 3 ≤ offset → NoIdentifiers e bytes offset glyphs →
      NoCharSet e bytes map glyphs

-- the format byte, the count after it, or the codes are truncated
abbrev pub AreCutCodes : List ℕ → (place : ℕ) → Type 0
AreCutCodes bytes place =
    (length bytes < place + 2)
    ⊎ ((place + 2 ≤ length bytes) × (number_at bytes place 1 % 128 ≡ 0) × (length bytes < place + 2 + number_at bytes (place + 1) 1))
    ⊎ ((place + 2 ≤ length bytes) × (number_at bytes place 1 % 128 ≡ 1) × (length bytes < place + 2 + 2 * number_at bytes (place + 1) 1))

-- no codes are at an offset: they are truncated, or the format is not 0 or 1
pub data NoCodes (e : Error) (bytes : List ℕ) (place : ℕ) : Type 0 where
  OfCutCodes : AreCutCodes bytes place → refusal_of e ≡ unexpected_eof → NoCodes e bytes place
  OfOtherFormat : place + 2 ≤ length bytes → 1 < number_at bytes place 1 % 128 → refusal_of e ≡ OfPart unsupported.CustomEncoding →
      NoCodes e bytes place

-- the supplements that the format announces are truncated: their count, or the supplements themselves
abbrev pub AreCutSupplements : List ℕ → (format next : ℕ) → Type 0
AreCutSupplements bytes format next =
    (128 ≤ format) × ((length bytes < next + 1) ⊎ ((next + 1 ≤ length bytes) × (length bytes < next + 1 + 3 * number_at bytes next 1)))

-- no encoding is at an offset: its codes are not there, or its supplements after them are not
pub data NoOwnEncoding (e : Error) (bytes : List ℕ) (place : ℕ) : Type 0 where
  OfCodes : NoCodes e bytes place → NoOwnEncoding e bytes place
  OfSupplements : (codes : Codes) (next : ℕ) → place + 2 ≤ length bytes → AreCodesAt codes bytes place next →
      AreCutSupplements bytes (number_at bytes place 1) next → refusal_of e ≡ unexpected_eof → NoOwnEncoding e bytes place

-- why a font has no encoding
pub data NoEncoding (e : Error) (bytes : List ℕ) (map : Dictionary) : Type 0 where
  OfNoOffset : NamesNoOffset e map operators.Encoding → NoEncoding e bytes map
  OfOwn : (offset : ℕ) → offset_of map operators.Encoding ≡ Some offset → 2 ≤ offset → NoOwnEncoding e bytes offset → NoEncoding e bytes map
