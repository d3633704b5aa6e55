use Rattle.std.proofs.Common.{◌≡◌, rules, inl, sym, subst, ℤ, Option, Some, to_z, of_z, w32}
use Rattle.postscript_c.specs.Axes.{HasAxes}
use Rattle.postscript_c.specs.Instances.{TellsInstanceIn, instance_room}
use Rattle.postscript_c.proofs.instances.tell_instance_of.Goals as goal
use Rattle.postscript_variation.specs.declared.axes.Axes.{Axes}

pub returns-in-Ok-Some : goal.returns-in-Ok-Some
returns-in-Ok-Some c =
    let same : to_z w32 (of_z w32 c.tell_instance_in.result) ≡ c.tell_instance_in.result = search rules in
    let P : ℤ → Type 0 = λ status. TellsInstanceIn c.in-Ok-Some.axes c.args.i status
    (instance_room c.args.instance.now c.args.room.now c.args.count.now)
    (instance_room c.tell_instance_in.new.instance c.tell_instance_in.new.room c.tell_instance_in.new.count) in
    let has : HasAxes c.args.file.now (Some c.in-Ok-Some.axes) = subst
    (λ (axes : Option Axes). HasAxes c.args.file.now axes) c.in-Ok-Some.field-0-is c.in-Ok-Some.ensures.found in
    inl (c.in-Ok-Some.axes, has, subst P (sym same) c.tell_instance_in.ensures)
