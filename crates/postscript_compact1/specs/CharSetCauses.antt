-- Why there is no charset at an offset (Technical Note 5176, "Charsets").
use Rattle.std.specs.Prelude.{◌≡◌, ◌≢◌, ℕ, ◌+◌, ◌<◌, ◌≤◌, List, length, sum_by}
use Rattle.postscript_base.specs.Numbers.{number}
use Rattle.postscript_base.specs.Refusal.{Refusal, malformed_char_set, unknown_char_set_format}
use Rattle.postscript_base.specs.Tape.Outcome.{Got, Fault, Reading}
use Rattle.postscript_compact1.specs.CharSets.{glyphs_of_1, glyphs_of_2, range_1, range_2}
use Rattle.postscript_compact1.specs.CharSetAt.{StandAt}

-- Why ranges of a format do not cover the glyphs. After ranges for fewer glyphs, the next range is truncated (CutRange) or covers more
-- glyphs than are left (TooManyGlyphs).
pub data NoCover {A : Type 0} (format : ℕ) (size : A → ℕ) (one : Reading A) (bytes : List ℕ) (place glyphs : ℕ)
    (refusal : Refusal) : Type 0 where
  CutRange : (behind : ℕ) (ranges : List A) (next : ℕ) → number 1 bytes place ≡ Got format behind → StandAt one bytes behind ranges next →
      1 + sum_by size ranges < glyphs
      → one bytes next ≡ Fault refusal → NoCover format size one bytes place glyphs refusal
  TooManyGlyphs : (behind : ℕ) (ranges : List A) (next : ℕ) (last : A) (end : ℕ) → number 1 bytes place ≡ Got format behind →
      StandAt one bytes behind ranges next → 1 + sum_by size ranges < glyphs
      → one bytes next ≡ Got last end → glyphs < 1 + sum_by size ranges + size last → refusal ≡ malformed_char_set →
      NoCover format size one bytes place glyphs refusal

-- Why there is no charset at an offset for a number of glyphs. The format byte is truncated, or greater than 2. There are no glyphs,
-- although the first one always exists. After SIDs for fewer glyphs the next SID is truncated. Or ranges do not cover the glyphs.
pub data NoCharSet (bytes : List ℕ) (place glyphs : ℕ) (refusal : Refusal) : Type 0 where
  NoFormat : number 1 bytes place ≡ Fault refusal → NoCharSet bytes place glyphs refusal
  NoGlyphs : (format behind : ℕ) → number 1 bytes place ≡ Got format behind → format ≤ 2 → glyphs ≡ 0 → refusal ≡ malformed_char_set →
      NoCharSet bytes place glyphs refusal
  CutIdentifier : (behind : ℕ) (identifiers : List ℕ) (next : ℕ) → number 1 bytes place ≡ Got 0 behind →
      StandAt (number 2) bytes behind identifiers next → 1 + length identifiers < glyphs
      → number 2 bytes next ≡ Fault refusal → NoCharSet bytes place glyphs refusal
  NoRanges1 : NoCover 1 glyphs_of_1 range_1 bytes place glyphs refusal → NoCharSet bytes place glyphs refusal
  NoRanges2 : NoCover 2 glyphs_of_2 range_2 bytes place glyphs refusal → NoCharSet bytes place glyphs refusal
  OtherFormat : (format behind : ℕ) → number 1 bytes place ≡ Got format behind → 2 < format → refusal ≡ unknown_char_set_format →
      NoCharSet bytes place glyphs refusal

-- Why there is no charset of one format at an offset. The format byte is truncated, or is another one. There are no glyphs, although the
-- first one always exists. Or the data after the byte does not name them.
pub data NoneOfFormat (format : ℕ) (NotNamed : Type 0) (bytes : List ℕ) (place glyphs : ℕ) (refusal : Refusal) : Type 0 where
  CutFormat : number 1 bytes place ≡ Fault refusal → NoneOfFormat format NotNamed bytes place glyphs refusal
  WrongFormat : (first behind : ℕ) → number 1 bytes place ≡ Got first behind → first ≢ format → refusal ≡ malformed_char_set →
      NoneOfFormat format NotNamed bytes place glyphs refusal
  NoneToName : (behind : ℕ) → number 1 bytes place ≡ Got format behind → glyphs ≡ 0 → refusal ≡ malformed_char_set →
      NoneOfFormat format NotNamed bytes place glyphs refusal
  BehindFormat : NotNamed → NoneOfFormat format NotNamed bytes place glyphs refusal

-- after SIDs for fewer glyphs than there are, the next one is truncated
abbrev pub NoList : List ℕ → ℕ → ℕ → Refusal → Type 0
NoList bytes place glyphs refusal =
    (behind : ℕ) × (identifiers : List ℕ) × (next : ℕ) × (number 1 bytes place ≡ Got 0 behind)
    × StandAt (number 2) bytes behind identifiers next
    × (1 + length identifiers < glyphs) × (number 2 bytes next ≡ Fault refusal)

-- a charset of format 0, and of the formats with ranges
abbrev pub NoCharSet0 : List ℕ → ℕ → ℕ → Refusal → Type 0
NoCharSet0 bytes place glyphs refusal = NoneOfFormat 0 (NoList bytes place glyphs refusal) bytes place glyphs refusal

abbrev pub NoRangesOf : {A : Type 0} → ℕ → (A → ℕ) → Reading A → List ℕ → ℕ → ℕ → Refusal → Type 0
NoRangesOf format size one bytes place glyphs refusal =
    NoneOfFormat format (NoCover format size one bytes place glyphs refusal) bytes place glyphs refusal

abbrev pub NoCharSet1 : List ℕ → ℕ → ℕ → Refusal → Type 0
NoCharSet1 bytes place glyphs refusal = NoRangesOf 1 glyphs_of_1 range_1 bytes place glyphs refusal

abbrev pub NoCharSet2 : List ℕ → ℕ → ℕ → Refusal → Type 0
NoCharSet2 bytes place glyphs refusal = NoRangesOf 2 glyphs_of_2 range_2 bytes place glyphs refusal
