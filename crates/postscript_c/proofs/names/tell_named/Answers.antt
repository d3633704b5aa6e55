use Rattle.std.proofs.Common.{◌≡◌, rules, inl, sym, subst, ℕ, ℤ, List, to_z, of_z, w32}
use Rattle.postscript_c.specs.Naming.{TellsNamed, TellsNamedIn}
use Rattle.postscript_view.specs.Contents.{View}
use Rattle.postscript_view.specs.Value.{view_shown}
use Rattle.postscript_c.proofs.names.tell_named.Goals as goal

pub returns-in-Ok : goal.returns-in-Ok
returns-in-Ok c =
    let same : to_z w32 (of_z w32 c.tell_named_in.result) ≡ c.tell_named_in.result = search rules in
    let v : View = view_shown c.in-Ok.view in
    let P : List ℕ → Type 0 = λ bytes. TellsNamedIn bytes v c.args.name.now c.tell_named_in.result c.args.glyph.now
    c.tell_named_in.new.glyph in
    let Q : ℤ → Type 0 = λ status. TellsNamed c.args.bytes.now c.args.name.now status c.args.glyph.now c.tell_named_in.new.glyph in
    subst Q (sym same) (inl (v, 0, c.in-Ok.ensures.exact, subst P c.in-Ok.ensures.bytes c.tell_named_in.ensures))
