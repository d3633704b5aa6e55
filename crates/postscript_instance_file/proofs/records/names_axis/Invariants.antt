use Rattle.std.proofs.Common.{◌≡◌, ℕ, ◌<◌}
use Rattle.postscript_variation.specs.Axes.{axis_at}
use Rattle.postscript_variation.specs.LentAxes.{axis_place, bytes_of}
use Rattle.postscript_instance_file.proofs.records.names_axis.Given as goal

-- the axes so far have other names
abbrev pub invariant-loop-i : goal.invariant-loop-i
invariant-loop-i l = (i : ℕ) → i < l.i → (axis_at (bytes_of l.axes) (axis_place l.axes i)).name ≡ l.identifier → ⊥
