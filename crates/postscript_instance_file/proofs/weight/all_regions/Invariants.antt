use Rattle.std.proofs.Common.{◌≡◌, ℕ, ◌-◌, ◌^◌, min}
use Rattle.postscript_instance_file.specs.Weights.{UseInAll}
use Rattle.postscript_instance_file.proofs.weight.all_regions.Given as goal

-- the sum so far
abbrev pub invariant-loop-number : goal.invariant-loop-number
invariant-loop-number l = (total : ℕ) × UseInAll l.store l.number total × (l.sum ≡ min total (2 ^ 64 - 1))
