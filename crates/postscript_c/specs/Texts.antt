-- Items that are copied to a buffer of the caller.
use Rattle.std.specs.Prelude.{◌≡◌, ◌⊎◌, ℕ, ◌<◌, ℤ, pos, List, ◌++◌, length, drop}

-- the buffer and the count of the caller, at one time
pub record Lent (A : Type 0) : Type 0 where
  pub room : List A
  pub count : ℕ

abbrev pub lent : {A : Type 0} → List A → ℕ → Lent A
lent room count = record { room = room; count = count }

-- The count is the number of items. On 0 they are at the front of the buffer, and the rest of the buffer is unchanged. On 32 there are more
-- items than the buffer has space for, and it is unchanged.
pub record HandsOver {A : Type 0} (items : List A) (status : ℤ) (old new : Lent A) : Type 0 where
  pub counted : new.count ≡ length items
  pub handed : ((status ≡ pos 0) × (new.room ≡ items ++ drop (length items) old.room))
      ⊎ ((status ≡ pos 32) × (length old.room < new.count) × (new.room ≡ old.room))
