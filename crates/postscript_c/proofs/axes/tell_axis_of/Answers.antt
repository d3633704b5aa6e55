use Rattle.std.proofs.Common.{◌≡◌, rules, inl, sym, subst, ℤ, Option, Some, to_z, of_z, w32}
use Rattle.postscript_c.specs.Axes.{HasAxes, TellsAxisIn, axis_told}
use Rattle.postscript_c.proofs.axes.tell_axis_of.Goals as goal
use Rattle.postscript_variation.specs.declared.axes.Axes.{Axes}

pub returns-in-Ok-Some : goal.returns-in-Ok-Some
returns-in-Ok-Some c =
    let same : to_z w32 (of_z w32 c.tell_axis_in.result) ≡ c.tell_axis_in.result = search rules in
    let P : ℤ → Type 0 = λ status. TellsAxisIn c.in-Ok-Some.axes c.args.i status (axis_told c.args.axis.now c.args.count.now)
    (axis_told c.tell_axis_in.new.axis c.tell_axis_in.new.count) in
    let has : HasAxes c.args.file.now (Some c.in-Ok-Some.axes) = subst
    (λ (axes : Option Axes). HasAxes c.args.file.now axes) c.in-Ok-Some.field-0-is c.in-Ok-Some.ensures.found in
    inl (c.in-Ok-Some.axes, has, subst P (sym same) c.tell_axis_in.ensures)
