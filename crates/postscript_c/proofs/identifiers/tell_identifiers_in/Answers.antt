use Rattle.std.proofs.Common.{◌≡◌, ◌∙◌, refl, rules, inl, inr, sym, subst, ℤ, List, to_z, of_z, w32}
use Rattle.postscript_c.specs.Identifiers.{AreIdentifiers}
use Rattle.postscript_c.specs.Texts.{HandsOver, lent}
use Rattle.postscript_c.proofs.identifiers.tell_identifiers_in.Goals as goal

pub returns-in-Ok-all_told : goal.returns-in-Ok-all_told
returns-in-Ok-all_told c =
    let all = c.in-Ok-all_told.all.items in
    let same : to_z w32 (of_z w32 c.hand_over.result) ≡ c.hand_over.result = search rules in
    let H : List ℤ → ℤ → Type 0 = λ items status. HandsOver items status (lent c.args.room.now c.args.count.now)
    (lent c.hand_over.new.room c.hand_over.new.count) in
    let handed = subst (λ (items : List ℤ). H items c.hand_over.result) c.deref.ensures.value c.hand_over.ensures in
    let each = subst (λ glyphs. AreIdentifiers c.in-Ok.set glyphs all) c.len.ensures c.in-Ok-all_told.ensures in
    inl (c.in-Ok.set, all, c.in-Ok.ensures.found, each, subst (H all) (sym same) handed)

pub returns-in-Err : goal.returns-in-Err
returns-in-Err c =
    let same : to_z w32 (of_z w32 c.status.result) ≡ c.status.result = search rules in
    inr (inl ((c.in-Err.e, same ∙ c.status.ensures, c.in-Err.ensures.why, c.in-Err.ensures.none), refl))
