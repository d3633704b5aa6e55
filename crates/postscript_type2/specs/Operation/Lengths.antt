-- Tests for the number of operands that an operator that clears the stack takes, and the greatest number that passes (Technical Note 5177,
-- "Path Construction Operators" and "Hint Operators").
use Rattle.std.specs.Prelude.{ℕ, zero, suc, ◌-◌, ◌%◌, Bool, nat_lt, ◌==◌, ◌&&◌, ◌||◌, Option, Some, None, if◌then◌else◌}

abbrev pub exactly : ℕ → ℕ → Bool
exactly m n = n == m

-- one or more
abbrev pub some : ℕ → Bool
some n = nat_lt 0 n

-- m more than a positive multiple of k
abbrev pub groups_and : (k m : ℕ) → ℕ → Bool
groups_and k m n = nat_lt m n && ((n - m) % k == 0)

abbrev pub groups : (k : ℕ) → ℕ → Bool
groups k n = groups_and k 0 n

-- curves of four operands each, and possibly one more operand
abbrev pub curves_of_four : ℕ → Bool
curves_of_four n = groups 4 n || groups_and 4 1 n

-- the greatest number up to n that passes a test
abbrev pub greatest : (ℕ → Bool) → ℕ → Option ℕ
greatest test zero = if test 0 then Some 0 else None
greatest test (suc n) = if test (suc n) then Some (suc n) else greatest test n
