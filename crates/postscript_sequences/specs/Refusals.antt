-- Why no list or table is returned.
use Rattle.std.specs.Prelude.{◌≡◌, ℕ}
use Rattle.postscript_sequences.specs.declared.error.Error.{Error}
use Rattle.postscript_sequences.specs.declared.error.Error.TheVariants.{Memory, TooLarge, TooLong}

-- memory could not be allocated, or nothing is left of the limit
abbrev pub Fails : (left : ℕ) → Error → Type 0
Fails left Memory = Unit {0}
Fails left TooLong = left ≡ 0
Fails left TooLarge = ⊥

-- memory could not be allocated, nothing is left of the limit, or the new table is too large
abbrev pub KeepFails : (left : ℕ) → Error → Type 0
KeepFails left Memory = Unit {0}
KeepFails left TooLong = left ≡ 0
KeepFails left TooLarge = Unit {0}
