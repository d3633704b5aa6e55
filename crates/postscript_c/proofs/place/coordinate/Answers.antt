use Rattle.std.proofs.Common.{◌≡◌, rules, ap, ◌∙◌, ℤ, slice_get, to_z, of_z, w16, w32}
use Rattle.postscript_c.specs.Placed.{value_along}
use Rattle.postscript_c.proofs.place.coordinate.Goals as goal
use Rattle.postscript_variation.specs.Axes.{axis_at}
use Rattle.postscript_variation.specs.Coordinates.{mapped_with}
use Rattle.postscript_variation.specs.LentAxes.{axis_place, bytes_of}
use Rattle.postscript_variation.specs.Normalized.{normalized, shortened}
use Rattle.postscript_variation.specs.declared.axes.Axis.{Axis}

pub returns : goal.returns
returns c =
    let at = axis_at (bytes_of c.args.axes.now) (axis_place c.args.axes.now c.args.axis) in
    let by : Axis → ℤ → ℤ = λ found value. shortened
    (mapped_with c.args.maps c.args.axis (normalized found.minimum found.default found.maximum value)) in
    let same : to_z w16 (of_z w16 c.coordinate_on.result) ≡ c.coordinate_on.result = search rules in
    let kept : to_z w32 (of_z w32 c.value_along-value.result) ≡ c.value_along-value.result = search rules in
    let asked : c.value_along-value.result ≡ value_along c.in-Some.found (slice_get c.args.values.now c.args.axis) =
    c.value_along-value.ensures ∙ ap (value_along c.in-Some.found) c.value_at.ensures in
    let found : by c.in-Some.found
    (value_along c.in-Some.found
    (slice_get c.args.values.now c.args.axis)) ≡ by at (value_along at (slice_get c.args.values.now c.args.axis)) =
    ap (λ (axis : Axis). by axis (value_along axis (slice_get c.args.values.now c.args.axis))) c.in-Some.ensures.1 in
    same ∙ c.coordinate_on.ensures ∙ ap (by c.in-Some.found) (kept ∙ asked) ∙ found
