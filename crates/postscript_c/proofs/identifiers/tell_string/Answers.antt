use Rattle.std.proofs.Common.{◌≡◌, rules, inl, sym, subst, ℤ, to_z, of_z, w32}
use Rattle.postscript_c.specs.Identifiers.{TellsString}
use Rattle.postscript_c.specs.Texts.{lent}
use Rattle.postscript_view.specs.Value.{view_shown}
use Rattle.postscript_c.proofs.identifiers.tell_string.Goals as goal

pub returns-in-Ok : goal.returns-in-Ok
returns-in-Ok c =
    let same : to_z w32 (of_z w32 c.tell_string_in.result) ≡ c.tell_string_in.result = search rules in
    let Q : ℤ → Type 0 = λ status. TellsString c.args.bytes.now c.args.identifier status (lent c.args.room.now c.args.count.now)
    (lent c.tell_string_in.new.room c.tell_string_in.new.count) in
    subst Q (sym same) (inl (view_shown c.in-Ok.view, 0, c.in-Ok.ensures.exact, c.tell_string_in.ensures))
