use Rattle.std.proofs.Common.{◌≡◌, rules, inl, inr, sym, subst, ℤ, to_z, of_z, w32}
use Rattle.postscript_c.specs.Either.{TellsPlainAt}
use Rattle.postscript_c.specs.VariedTold.{TellsVariedOf, outline_room}
use Rattle.postscript_c.proofs.either.tell_either_of.Goals as goal

pub returns-in-Some : goal.returns-in-Some
returns-in-Some c =
    let same : to_z w32 (of_z w32 c.tell_plain_at.result) ≡ c.tell_plain_at.result = search rules in
    let P : ℤ → Type 0 = λ status. TellsPlainAt c.args.file.now c.in-Some.table.now c.args.values.now c.args.glyph c.args.limit status
    (outline_room c.args.segments.now c.args.count.now c.args.bounds.now)
    (outline_room c.tell_plain_at.new.segments c.tell_plain_at.new.count c.tell_plain_at.new.bounds) in
    inr (c.in-Some.table.now, c.in-Some.ensures, subst P (sym same) c.tell_plain_at.ensures)

pub returns-in-None : goal.returns-in-None
returns-in-None c =
    let same : to_z w32 (of_z w32 c.tell_varied_of.result) ≡ c.tell_varied_of.result = search rules in
    let P : ℤ → Type 0 = λ status. TellsVariedOf c.args.file.now c.args.values.now c.args.glyph c.args.limit status
    (outline_room c.args.segments.now c.args.count.now c.args.bounds.now)
    (outline_room c.tell_varied_of.new.segments c.tell_varied_of.new.count c.tell_varied_of.new.bounds) in
    inl (c.in-None.ensures, subst P (sym same) c.tell_varied_of.ensures)
