use Rattle.std.proofs.Common.{◌≡◌, rules, inl, sym, subst, ℤ, to_z, of_z, w32}
use Rattle.postscript_c.specs.Counted.{TellsCountOf}
use Rattle.postscript_c.proofs.either.tell_count_either_of.Goals as goal

pub returns-in-None : goal.returns-in-None
returns-in-None c =
    let same : to_z w32 (of_z w32 c.tell_count_of.result) ≡ c.tell_count_of.result = search rules in
    let P : ℤ → Type 0 = λ status. TellsCountOf c.args.file.now status c.args.count.now c.tell_count_of.new.count in
    inl (c.in-None.ensures, subst P (sym same) c.tell_count_of.ensures)
