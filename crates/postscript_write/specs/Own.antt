-- A custom charset and a custom encoding of a font (Technical Note 5176, sections 12 and 13).
use Rattle.std.specs.Prelude.{◌≡◌, ℕ, ◌<◌, ◌≤◌, List, Option, Some, None, length}
use Rattle.std.specs.List.{slice_range}
use Rattle.postscript_base.specs.Compact1.Dictionary.{Dictionary}
use Rattle.postscript_base.specs.declared.compact1.operator.Operator.{Operator}
use Rattle.postscript_base.specs.declared.compact1.operator.Operator.TheVariants as operators
use Rattle.postscript_view.specs.Select.{offset_of}
use Rattle.postscript_write.specs.Whole.{CharSetEnds, EncodingEnds}

-- the bytes from one offset up to another
pub record IsCutFrom (bytes : List ℕ) (from to : ℕ) (cut : List ℕ) : Type 0 where
  pub order : from ≤ to
  pub within : to ≤ length bytes
  pub is : cut ≡ slice_range bytes from to

-- A custom part goes from the offset in the DICT to its end. There is none if the offset is below the least: then it is the number of a
-- predefined one.
abbrev pub IsOwn : List ℕ → Dictionary → Operator → (least : ℕ) → (ends : ℕ → ℕ → Type 0) → Option (List ℕ) → Type 0
IsOwn bytes map operator least ends None = (offset : ℕ) × (offset_of map operator ≡ Some offset) × (offset < least)
IsOwn bytes map operator least ends (Some own) = (place : ℕ) × (next : ℕ) × (offset_of map operator ≡ Some place) × (least ≤ place)
    × ends place next × IsCutFrom bytes place next own

abbrev pub IsOwnEncoding : List ℕ → Dictionary → Option (List ℕ) → Type 0
IsOwnEncoding bytes map own = IsOwn bytes map operators.Encoding 2 (EncodingEnds bytes) own

abbrev pub IsOwnCharSet : List ℕ → Dictionary → (glyphs : ℕ) → Option (List ℕ) → Type 0
IsOwnCharSet bytes map glyphs own = IsOwn bytes map operators.CharSet 3 (CharSetEnds bytes glyphs) own
