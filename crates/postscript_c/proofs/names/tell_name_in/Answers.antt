use Rattle.std.proofs.Common.{◌≡◌, ◌∙◌, inl, inr, refl, rules, subst, sym, ℤ, to_z, of_z, w32}
use Rattle.postscript_c.specs.Texts.{HandsOver, lent}
use Rattle.postscript_c.proofs.names.tell_name_in.Goals as goal

pub returns-in-Some : goal.returns-in-Some
returns-in-Some c =
    let same : to_z w32 (of_z w32 c.hand_over.result) ≡ c.hand_over.result = search rules in
    let P : ℤ → Type 0 = λ status. HandsOver c.in-Some.name.now status (lent c.args.room.now c.args.count.now)
    (lent c.hand_over.new.room c.hand_over.new.count) in
    inl (c.in-Ok.set, c.in-Some.name.now, c.in-Ok.ensures.found, c.in-Some.ensures.found, subst P (sym same) c.hand_over.ensures)

pub returns-in-None : goal.returns-in-None
returns-in-None c = inr (inl (c.in-Ok.set, c.in-Ok.ensures.found, refl, c.in-None.ensures.none, refl))

pub returns-in-Err : goal.returns-in-Err
returns-in-Err c =
    let same : to_z w32 (of_z w32 c.status.result) ≡ c.status.result = search rules in
    inr (inr ((c.in-Err.e, same ∙ c.status.ensures, c.in-Err.ensures.why, c.in-Err.ensures.none), refl))
