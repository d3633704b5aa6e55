-- Why no table is written.
use Rattle.std.specs.Prelude.{◌≡◌, ℕ, ◌<◌, ◌≤◌, List, length}
use Rattle.postscript_layout_write.specs.ScriptLists.{ListsEnd}
use Rattle.postscript_layout_write.specs.declared.error.Error.{Error}
use Rattle.postscript_layout_write.specs.declared.error.Error.TheVariants.{ListsTooLong, Memory, TooLarge, TooLong}

-- nothing is left of the limit
pub record IsUsedUp (left : ℕ) (e : Error) : Type 0 where
  pub too_long : e ≡ TooLong
  pub none : left ≡ 0

-- the limit is used up, an offset is too large, or memory could not be allocated
abbrev pub Fails : (left : ℕ) → Error → Type 0
Fails left Memory = Unit {0}
Fails left TooLong = left ≡ 0
Fails left TooLarge = Unit {0}
Fails left ListsTooLong = ⊥

-- the cause of each error
abbrev pub Refuses : Error → (gpos : List ℕ) → (left : ℕ) → Type 0
Refuses Memory gpos left = Unit {0}
Refuses TooLong gpos left = left ≡ 0
Refuses TooLarge gpos left = Unit {0}
Refuses ListsTooLong gpos left = (end : ℕ) → end < 65536 → end ≤ length gpos → ListsEnd gpos end → ⊥
