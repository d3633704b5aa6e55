use Rattle.std.proofs.Common.{◌≡◌, ℕ, ◌+◌}
use Rattle.postscript_c.specs.Costs.{Costs}
use Rattle.postscript_c.proofs.costs.is_within.Given as goal

-- what the data so far cost is gone
abbrev pub invariant-loop-number : goal.invariant-loop-number
invariant-loop-number l = (cost : ℕ) × Costs l.store l.number cost × (cost + l.left ≡ l.limit)
