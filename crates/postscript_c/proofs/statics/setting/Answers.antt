use Rattle.std.proofs.Common.{◌≡◌, rules, ap, ◌∙◌, ℤ, slice_get, to_z, of_z, w32}
use Rattle.postscript_c.specs.Placed.{value_along}
use Rattle.postscript_c.proofs.statics.setting.Goals as goal
use Rattle.postscript_variation.specs.declared.axes.Axis.{Axis}
use Rattle.postscript_variation.specs.declared.coordinates.Setting.{Setting}

pub returns : goal.returns
returns c =
    let by : Axis → ℤ → Setting = λ found value. record { tag = found.tag; value = value } in
    let kept : to_z w32 (of_z w32 c.value_along-value.result) ≡ c.value_along-value.result = search rules in
    let asked : c.value_along-value.result ≡ value_along c.in-Some.found (slice_get c.args.values.now c.args.axis) =
    c.value_along-value.ensures ∙ ap (value_along c.in-Some.found) c.value_at.ensures in
    ap (by c.in-Some.found) (kept ∙ asked)
    ∙ ap (λ (axis : Axis). by axis (value_along axis (slice_get c.args.values.now c.args.axis))) c.in-Some.ensures.1
