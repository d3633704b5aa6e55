-- An INDEX: a count, offsets, and the items between them (Technical Note 5176, "INDEX Data").
use Rattle.std.specs.Prelude.{ℕ, ◌+◌, ◌-◌, List, [], ◌∷◌, None, ◌==◌, if◌then◌else◌}
use Rattle.postscript_base.specs.Numbers.{number, slice}
use Rattle.postscript_base.specs.Tape.Outcome.{Reading, ◌>>=◌, pure}
use Rattle.postscript_base.specs.Tape.Loops.{chain, each}
use Rattle.postscript_base.specs.Compact1.Offset.{rising, behind}

-- an INDEX as contracts see it
pub record Index : Type 0 where
  pub count : ℕ
  pub offset_size : ℕ
  pub offsets : List ℕ
  pub items : List (List ℕ)

-- an INDEX without items: only its count
abbrev pub empty : Index
empty = record { count = 0; offset_size = 0; offsets = []; items = [] }

-- the length of an item is the difference between the offset after it and its own
abbrev pub lengths_from : ℕ → List ℕ → List ℕ
lengths_from low [] = []
lengths_from low (high ∷ offsets) = (high - low) ∷ lengths_from high offsets

abbrev pub lengths : List ℕ → List ℕ
lengths [] = []
lengths (low ∷ offsets) = lengths_from low offsets

-- A number of offsets of this size. The first one is 1, and each next one is greater than the last.
unfoldable pub offsets : ℕ → ℕ → Reading (List ℕ)
offsets size count = chain rising behind (size, None) count

-- The rest of an INDEX after a count that is not 0: the offset size, the offsets (one more than there are items), and the items one after
-- the other.
unfoldable pub filled : ℕ → Reading Index
filled count = do
  size ← number 1
  offsets ← offsets size (count + 1)
  items ← each slice (lengths offsets)
  pure (record { count = count; offset_size = size; offsets = offsets; items = items })

unfoldable pub index : Reading Index
index = number 2 >>= λ count. if count == 0 then pure empty else filled count
