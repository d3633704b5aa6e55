-- Why no table is written.
use Rattle.std.specs.Prelude.{◌≡◌, ◌⊎◌, ℕ, ◌<◌, List, length}
use Rattle.postscript_kern.specs.Kept.{IsKept}
use Rattle.postscript_kern.specs.Pairs.{HasPairs, count_of, subtable_at}
use Rattle.postscript_kern.specs.declared.error.Error.{Error}
use Rattle.postscript_kern.specs.declared.error.Error.TheVariants.{Memory, TooLarge, TooLong}

-- nothing is left of the limit
pub record IsUsedUp (left : ℕ) (e : Error) : Type 0 where
  pub too_long : e ≡ TooLong
  pub none : left ≡ 0

-- a subtable has more pairs of kept glyphs than fit: a length of 16 bits allows 14 + 10,920 * 6 bytes
pub record HasTooMany (table kept : List ℕ) (at : ℕ) : Type 0 where
  pub has : HasPairs table at
  pub pairs : List (ℕ × ℕ)
  pub are : IsKept table kept at pairs
  pub many : 10920 < length pairs

-- why a subtable is not written
abbrev pub RefusesSubtable : (table kept : List ℕ) → (at left : ℕ) → Error → Type 0
RefusesSubtable table kept at left Memory = Unit {0}
RefusesSubtable table kept at left TooLong = left ≡ 0
RefusesSubtable table kept at left TooLarge = HasTooMany table kept at

-- The cause of each error. Running out of memory may be the error at any time.
abbrev pub Refuses : Error → (table kept : List ℕ) → (left : ℕ) → Type 0
Refuses Memory table kept left = Unit {0}
Refuses TooLong table kept left = left ≡ 0
Refuses TooLarge table kept left = (65535 < length kept) ⊎ ((i : ℕ) × (i < count_of table) × HasTooMany table kept (subtable_at table i))
