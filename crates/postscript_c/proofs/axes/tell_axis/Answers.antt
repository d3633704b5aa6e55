use Rattle.std.proofs.Common.{◌≡◌, rules, inl, sym, subst, ℤ, to_z, of_z, w32}
use Rattle.postscript_c.specs.Axes.{TellsAxisOf, axis_told}
use Rattle.postscript_c.proofs.axes.tell_axis.Goals as goal

pub returns-in-Ok : goal.returns-in-Ok
returns-in-Ok c =
    let same : to_z w32 (of_z w32 c.tell_axis_of.result) ≡ c.tell_axis_of.result = search rules in
    let P : ℤ → Type 0 = λ status. TellsAxisOf c.in-Ok.file c.args.i status (axis_told c.args.axis.now c.args.count.now)
    (axis_told c.tell_axis_of.new.axis c.tell_axis_of.new.count) in
    inl (c.in-Ok.file, c.in-Ok.ensures.exact, subst P (sym same) c.tell_axis_of.ensures)
