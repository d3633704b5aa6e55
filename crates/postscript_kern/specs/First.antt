-- The first of several values that may be missing.
use Rattle.std.specs.Prelude.{ℕ, zero, suc, Option, None, Some}

-- the first value, or the second one if there is no first
abbrev pub or_else : {X : Type 0} → Option X → Option X → Option X
or_else None y = y
or_else (Some x) y = Some x

-- the first of the values 0 to count - 1 that is there
abbrev pub first_some : {X : Type 0} → (ℕ → Option X) → (count : ℕ) → Option X
first_some f zero = None
first_some f (suc n) = or_else (first_some f n) (f n)
