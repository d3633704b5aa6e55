use Rattle.std.proofs.Common.{◌≡◌, rules, inl, sym, subst, ℕ, ℤ, List, to_z, of_z, w32}
use Rattle.postscript_c.specs.Identifiers.{TellsIdentifiers, TellsIdentifiersIn}
use Rattle.postscript_c.specs.Texts.{lent}
use Rattle.postscript_view.specs.Contents.{View}
use Rattle.postscript_view.specs.Value.{view_shown}
use Rattle.postscript_c.proofs.identifiers.tell_identifiers.Goals as goal

pub returns-in-Ok : goal.returns-in-Ok
returns-in-Ok c =
    let same : to_z w32 (of_z w32 c.tell_identifiers_in.result) ≡ c.tell_identifiers_in.result = search rules in
    let v : View = view_shown c.in-Ok.view in
    let P : List ℕ → Type 0 = λ bytes. TellsIdentifiersIn bytes v c.tell_identifiers_in.result (lent c.args.room.now c.args.count.now)
    (lent c.tell_identifiers_in.new.room c.tell_identifiers_in.new.count) in
    let Q : ℤ → Type 0 = λ status. TellsIdentifiers c.args.bytes.now status (lent c.args.room.now c.args.count.now)
    (lent c.tell_identifiers_in.new.room c.tell_identifiers_in.new.count) in
    subst Q (sym same) (inl (v, 0, c.in-Ok.ensures.exact, subst P c.in-Ok.ensures.bytes c.tell_identifiers_in.ensures))
