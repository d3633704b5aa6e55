-- Why there is no INDEX at an offset (Technical Note 5176, "INDEX Data").
use Rattle.std.specs.Prelude.{◌≡◌, ◌≢◌, ◌⊎◌, ℕ, ◌+◌, ◌*◌, ◌<◌, ◌≤◌, List, [], ◌∷◌, length}
use Rattle.postscript_base.specs.Refusal.{Refusal, unexpected_eof, malformed_offset, malformed_index}
use Rattle.postscript_compact1.specs.IndexAt.{AreOffsets, NumberAt, OffsetsAt, last_of}

-- At the offset there are a count that is not 0 and an offset size.
pub record IsCounted (bytes : List ℕ) (place count size : ℕ) : Type 0 where
  pub some : 0 < count
  pub counts : NumberAt bytes place 2 count
  pub sizes : NumberAt bytes (place + 2) 1 size

-- fewer than `size` bytes are at an offset
abbrev pub IsCut : List ℕ → ℕ → ℕ → Type 0
IsCut bytes place size = length bytes < place + size

-- the offset size is 0 or greater than 4
pub record HasBadSize (bytes : List ℕ) (place : ℕ) : Type 0 where
  pub count : ℕ
  pub size : ℕ
  pub counted : IsCounted bytes place count size
  pub bad : (size ≡ 0) ⊎ (4 < size)

-- valid first offsets: none, or they begin with 1 and increase
abbrev pub AreFirstOffsets : List ℕ → Type 0
AreFirstOffsets [] = Unit {0}
AreFirstOffsets (first ∷ offsets) = AreOffsets (first ∷ offsets)

-- The INDEX begins with a count that is not 0, a valid offset size and these valid offsets, which are not all of its offsets.
pub record BeginsOffsets (bytes : List ℕ) (place size : ℕ) (offsets : List ℕ) : Type 0 where
  pub count : ℕ
  pub counted : IsCounted bytes place count size
  pub least : 1 ≤ size
  pub most : size ≤ 4
  pub few : length offsets < count + 1
  pub stand : OffsetsAt bytes (place + 3) size offsets
  pub rise : AreFirstOffsets offsets

-- the offset in the bytes after these offsets
abbrev pub behind_offsets : ℕ → ℕ → List ℕ → ℕ
behind_offsets place size offsets = place + 3 + length offsets * size

-- an offset that is not valid after others: the first one is not 1, or a next one is not greater than the last
abbrev pub FallsBehind : List ℕ → ℕ → Type 0
FallsBehind [] next = next ≢ 1
FallsBehind (first ∷ offsets) next = next ≤ last_of first offsets

-- after valid offsets there is one that is not valid
pub record HasBadOffset (bytes : List ℕ) (place : ℕ) : Type 0 where
  pub size : ℕ
  pub offsets : List ℕ
  pub begin : BeginsOffsets bytes place size offsets
  pub next : ℕ
  pub stands : NumberAt bytes (behind_offsets place size offsets) size next
  pub falls : FallsBehind offsets next

-- after a count that is not 0, the offset size is truncated
pub record HasCutSize (bytes : List ℕ) (place : ℕ) : Type 0 where
  pub count : ℕ
  pub some : 0 < count
  pub stands : NumberAt bytes place 2 count
  pub cut : IsCut bytes (place + 2) 1

-- after valid offsets, the next one is truncated
pub record HasCutOffset (bytes : List ℕ) (place : ℕ) : Type 0 where
  pub size : ℕ
  pub offsets : List ℕ
  pub begin : BeginsOffsets bytes place size offsets
  pub cut : IsCut bytes (behind_offsets place size offsets) size

-- all offsets are valid, and fewer bytes follow than the last one says
pub record HasCutItems (bytes : List ℕ) (place : ℕ) : Type 0 where
  pub count : ℕ
  pub size : ℕ
  pub counted : IsCounted bytes place count size
  pub least : 1 ≤ size
  pub most : size ≤ 4
  pub offsets : List ℕ
  pub many : length offsets ≡ count + 1
  pub stand : OffsetsAt bytes (place + 3) size offsets
  pub rise : AreOffsets offsets
  pub cut : IsCut bytes (place + 2 + (count + 1) * size) (last_of 0 offsets)

-- the input ends early: in the count, the offset size, an offset or the items
abbrev pub WantsBytes : List ℕ → ℕ → Type 0
WantsBytes bytes place = IsCut bytes place 2 ⊎ (HasCutSize bytes place ⊎ (HasCutOffset bytes place ⊎ HasCutItems bytes place))

-- Why there is no INDEX at an offset: each error with its cause.
abbrev pub IsNoIndex : List ℕ → ℕ → Refusal → Type 0
IsNoIndex bytes place refusal =
    ((refusal ≡ unexpected_eof) × WantsBytes bytes place) ⊎
    (((refusal ≡ malformed_offset) × HasBadSize bytes place) ⊎ ((refusal ≡ malformed_index) × HasBadOffset bytes place))
