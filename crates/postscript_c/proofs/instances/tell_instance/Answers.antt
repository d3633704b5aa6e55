use Rattle.std.proofs.Common.{◌≡◌, rules, inl, sym, subst, ℤ, to_z, of_z, w32}
use Rattle.postscript_c.specs.Instances.{TellsInstanceOf, instance_room}
use Rattle.postscript_c.proofs.instances.tell_instance.Goals as goal

pub returns-in-Ok : goal.returns-in-Ok
returns-in-Ok c =
    let same : to_z w32 (of_z w32 c.tell_instance_of.result) ≡ c.tell_instance_of.result = search rules in
    let P : ℤ → Type 0 = λ status. TellsInstanceOf c.in-Ok.file c.args.i status
    (instance_room c.args.instance.now c.args.room.now c.args.count.now)
    (instance_room c.tell_instance_of.new.instance c.tell_instance_of.new.room c.tell_instance_of.new.count) in
    inl (c.in-Ok.file, c.in-Ok.ensures.exact, subst P (sym same) c.tell_instance_of.ensures)
