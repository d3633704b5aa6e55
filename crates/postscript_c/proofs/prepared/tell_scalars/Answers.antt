use Rattle.std.proofs.Common.{◌≡◌, rules, inl, sym, subst, ℤ, to_z, of_z, w32}
use Rattle.postscript_c.specs.LocatedTold.{TellsScalarsOf}
use Rattle.postscript_c.specs.Texts.{lent}
use Rattle.postscript_c.proofs.prepared.tell_scalars.Goals as goal

pub returns-in-Ok : goal.returns-in-Ok
returns-in-Ok c =
    let same : to_z w32 (of_z w32 c.tell_scalars_of.result) ≡ c.tell_scalars_of.result = search rules in
    let P : ℤ → Type 0 = λ status. TellsScalarsOf c.in-Ok.file c.args.values.now c.args.limit status
    (lent c.args.room.now c.args.count.now) (lent c.tell_scalars_of.new.room c.tell_scalars_of.new.count) in
    inl (c.in-Ok.file, c.in-Ok.ensures.exact, subst P (sym same) c.tell_scalars_of.ensures)
