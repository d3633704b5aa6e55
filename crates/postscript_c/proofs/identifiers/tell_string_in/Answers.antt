use Rattle.std.proofs.Common.{◌≡◌, rules, inl, inr, refl, sym, subst, ℤ, to_z, of_z, w32}
use Rattle.postscript_c.specs.Texts.{HandsOver, lent}
use Rattle.postscript_c.proofs.identifiers.tell_string_in.Goals as goal

pub returns-in-Some : goal.returns-in-Some
returns-in-Some c =
    let same : to_z w32 (of_z w32 c.hand_over.result) ≡ c.hand_over.result = search rules in
    let P : ℤ → Type 0 = λ status. HandsOver c.in-Some.string.now status (lent c.args.room.now c.args.count.now)
    (lent c.hand_over.new.room c.hand_over.new.count) in
    inl (c.in-Some.string.now, sym c.in-Some.ensures, subst P (sym same) c.hand_over.ensures)

pub returns-in-None : goal.returns-in-None
returns-in-None c = inr (refl, sym c.in-None.ensures, refl)
