use Rattle.std.proofs.Common.{◌≡◌, rules, inl, sym, subst, ℤ, List, to_z, of_z, w32}
use Rattle.postscript_c.specs.Texts.{HandsOver, lent}
use Rattle.postscript_c.specs.declared.characters.PsfCharacter.{PsfCharacter}
use Rattle.postscript_c.proofs.characters.tell_characters.Goals as goal

pub returns-in-Ok : goal.returns-in-Ok
returns-in-Ok c =
    let rows = c.in-Ok.found.items in
    let same : to_z w32 (of_z w32 c.hand_over.result) ≡ c.hand_over.result = search rules in
    let H : List PsfCharacter → ℤ → Type 0 = λ items status. HandsOver items status (lent c.args.room.now c.args.count.now)
    (lent c.hand_over.new.room c.hand_over.new.count) in
    let handed = subst (λ (items : List PsfCharacter). H items c.hand_over.result) c.deref.ensures.value c.hand_over.ensures in
    inl (c.in-Some.map, c.in-Some.ensures.found, (rows, c.in-Ok.ensures, subst (H rows) (sym same) handed))
