use Rattle.std.proofs.Common.{◌≡◌, rules, inl, sym, subst, ℤ, to_z, of_z, w32}
use Rattle.postscript_c.specs.Either.{TellsEitherOf}
use Rattle.postscript_c.specs.VariedTold.{outline_room}
use Rattle.postscript_c.proofs.either.tell_either.Goals as goal

pub returns-in-Ok : goal.returns-in-Ok
returns-in-Ok c =
    let same : to_z w32 (of_z w32 c.tell_either_of.result) ≡ c.tell_either_of.result = search rules in
    let P : ℤ → Type 0 = λ status. TellsEitherOf c.in-Ok.file c.args.values.now c.args.glyph c.args.limit status
    (outline_room c.args.segments.now c.args.count.now c.args.bounds.now)
    (outline_room c.tell_either_of.new.segments c.tell_either_of.new.count c.tell_either_of.new.bounds) in
    inl (c.in-Ok.file, c.in-Ok.ensures.exact, subst P (sym same) c.tell_either_of.ensures)
