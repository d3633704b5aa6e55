use Rattle.std.proofs.Common.{ℕ, ◌*◌, ◌<◌, ◌≤◌}
use Rattle.postscript_instance_file.specs.Weights.{UseRegions}
use Rattle.postscript_instance_file.specs.declared.weight.TheConstants.{STEPS}
use Rattle.postscript_instance_file.proofs.weight.has_wide_data.Given as goal

-- the item variation data so far are narrow
abbrev pub invariant-loop-number : goal.invariant-loop-number
invariant-loop-number l =
    (number : ℕ) → number < l.number → (regions : ℕ) × UseRegions l.store number regions × (regions * l.sums ≤ STEPS)
