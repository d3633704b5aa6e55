-- The meaning of a row in the table of lengths.
use Rattle.std.specs.Prelude.{ℕ, ◌-◌, ◌%◌, nat_lt, nat_eq, Option, Some, None, if◌then◌else◌}
use Rattle.postscript_type2.specs.declared.operation.Lengths.{Lengths}

-- the number of operands past the last step
abbrev pub past : (step more : ℕ) → ℕ
past step more = if nat_eq step 0 then more else more % step

-- the greatest length up to n that a row allows, if there is one
abbrev pub longest : Option Lengths → ℕ → Option ℕ
longest None n = None
longest (Some row) n = if nat_lt n row.least then None else Some (n - (past row.step (n - row.least) - row.spare))
