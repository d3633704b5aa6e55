-- The encoding of a font (Technical Note 5176, section 12, "Encodings").
use Rattle.std.specs.Prelude.{◌≡◌, ◌⊎◌, ℕ, ◌+◌, ◌*◌, ◌%◌, ◌<◌, ◌≤◌, List, [], length, take, drop, Some}
use Rattle.postscript_base.specs.Compact1.Dictionary.{Dictionary}
use Rattle.postscript_base.specs.declared.compact1.operator.Operator.TheVariants as operators
use Rattle.postscript_compact1.specs.declared.encoding.Encoding.TheVariants.{Standard, Expert}
use Rattle.postscript_base.specs.Index.{number_at}
use Rattle.postscript_view.specs.Select.{offset_of}
use Rattle.postscript_view.specs.declared.encoding.Codes.{Codes}
use Rattle.postscript_view.specs.declared.encoding.Codes.TheVariants.{Predefined, Listed, Ranges}
use Rattle.postscript_view.specs.declared.encoding.EncodingView.{EncodingView}

-- `held` is the `size` bytes at an offset
pub record IsHeld (bytes : List ℕ) (place size : ℕ) (held : List ℕ) : Type 0 where
  pub within : place + size ≤ length bytes
  pub bytes_are : held ≡ take size (drop place bytes)

-- After the format byte there is a count, and that number of codes, or of ranges of two bytes. `next` is the offset after them. The low
-- seven bits of the byte are the format. The predefined encodings are not at any offset.
abbrev pub AreCodesAt : Codes → List ℕ → (place next : ℕ) → Type 0
AreCodesAt (Predefined encoding) bytes place next = ⊥
AreCodesAt (Listed codes) bytes place next =
    (number_at bytes place 1 % 128 ≡ 0) × IsHeld bytes (place + 2) (number_at bytes (place + 1) 1) codes.now
    × (next ≡ place + 2 + number_at bytes (place + 1) 1)
AreCodesAt (Ranges ranges) bytes place next =
    (number_at bytes place 1 % 128 ≡ 1) × IsHeld bytes (place + 2) (2 * number_at bytes (place + 1) 1) ranges.now
    × (next ≡ place + 2 + 2 * number_at bytes (place + 1) 1)

-- If the high bit of the format is set, a count of supplements follows the codes, and that number of supplements of three bytes.
abbrev pub AreSupplementsAt : List ℕ → (format next : ℕ) → List ℕ → Type 0
AreSupplementsAt bytes format next supplements =
    ((format < 128) × (supplements ≡ []))
    ⊎ ((128 ≤ format) × (next + 1 ≤ length bytes) × IsHeld bytes (next + 1) (3 * number_at bytes next 1) supplements)

abbrev pub EncodingStandsAt : EncodingView → List ℕ → (place : ℕ) → Type 0
EncodingStandsAt encoding bytes place =
    (next : ℕ) × (place + 2 ≤ length bytes) × AreCodesAt encoding.codes bytes place next
    × AreSupplementsAt bytes (number_at bytes place 1) next encoding.supplements.now

-- The offsets 0 and 1 are the predefined encodings. At any other offset there is an encoding of the font's own.
abbrev pub IsEncodingAtOffset : EncodingView → List ℕ → (offset : ℕ) → Type 0
IsEncodingAtOffset encoding bytes offset =
    ((offset ≡ 0) × (encoding.codes ≡ Predefined Standard) × (encoding.supplements.now ≡ []))
    ⊎ ((offset ≡ 1) × (encoding.codes ≡ Predefined Expert) × (encoding.supplements.now ≡ []))
    ⊎ ((2 ≤ offset) × EncodingStandsAt encoding bytes offset)

-- the encoding that a Top DICT names
abbrev pub IsEncodingOf : EncodingView → List ℕ → Dictionary → Type 0
IsEncodingOf encoding bytes map = (offset : ℕ) × (offset_of map operators.Encoding ≡ Some offset) × IsEncodingAtOffset encoding bytes offset
