use Rattle.std.proofs.Common.{◌≡◌, inl, rules, subst, sym, ℤ, to_z, of_z, w32}
use Rattle.postscript_c.specs.Either.{TellsCountEitherOf}
use Rattle.postscript_c.proofs.either.tell_count.Goals as goal

pub returns-in-Ok : goal.returns-in-Ok
returns-in-Ok c =
    let same : to_z w32 (of_z w32 c.tell_count_either_of.result) ≡ c.tell_count_either_of.result = search rules in
    let P : ℤ → Type 0 = λ status. TellsCountEitherOf c.in-Ok.file status c.args.count.now c.tell_count_either_of.new.count in
    inl (c.in-Ok.file, c.in-Ok.ensures.exact, subst P (sym same) c.tell_count_either_of.ensures)
