use Rattle.std.proofs.Common.{◌≡◌, rules, inl, sym, subst, ℕ, ℤ, List, to_z, of_z, w32}
use Rattle.postscript_c.specs.Texts.{HandsOver, lent}
use Rattle.postscript_c.proofs.prepared.tell_scalars_of.Goals as goal

pub returns-in-Ok : goal.returns-in-Ok
returns-in-Ok c =
    let same : to_z w32 (of_z w32 c.hand_over.result) ≡ c.hand_over.result = search rules in
    let P : List ℕ → ℤ → Type 0 = λ items status. HandsOver items status (lent c.args.room.now c.args.count.now)
    (lent c.hand_over.new.room c.hand_over.new.count) in
    let handed = subst (λ (items : List ℕ). P items c.hand_over.result) c.deref.ensures.value c.hand_over.ensures in
    inl (c.in-Ok.all.items, c.in-Ok.ensures.found, subst (P c.in-Ok.all.items) (sym same) handed)
