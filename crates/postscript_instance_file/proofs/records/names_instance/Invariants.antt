use Rattle.std.proofs.Common.{◌≡◌, ◌⊎◌, ℕ, ◌<◌, unwrap_or}
use Rattle.postscript_variation.specs.Axes.{IsInstance}
use Rattle.postscript_variation.specs.LentAxes.{axis_count, bytes_of, instance_place, instance_size}
use Rattle.postscript_variation.specs.declared.axes.Instance.{Instance}
use Rattle.postscript_instance_file.proofs.records.names_instance.Given as goal

-- the instances so far have other names
abbrev pub invariant-loop-i : goal.invariant-loop-i
invariant-loop-i l =
    (i : ℕ) → i < l.i → (instance : Instance) →
    IsInstance (bytes_of l.axes) (instance_place l.axes i) (axis_count l.axes) (instance_size l.axes) instance →
    (instance.name ≡ l.identifier) ⊎ (unwrap_or instance.postscript_name 0 ≡ l.identifier) → ⊥
