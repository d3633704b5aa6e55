use Rattle.std.proofs.Common.{◌≡◌, ◌∙◌, inl, inr, refl, rules, to_z, of_z, w32}
use Rattle.postscript_c.proofs.names.tell_named_in.Goals as goal

pub returns-in-Some : goal.returns-in-Some
returns-in-Some c = inl (c.in-Ok.set, c.in-Ok.ensures.found, refl, c.in-Some.ensures.found)

pub returns-in-None : goal.returns-in-None
returns-in-None c = inr (inl (c.in-Ok.set, c.in-Ok.ensures.found, refl, c.in-None.ensures.none, refl))

pub returns-in-Err : goal.returns-in-Err
returns-in-Err c =
    let same : to_z w32 (of_z w32 c.status.result) ≡ c.status.result = search rules in
    inr (inr ((c.in-Err.e, same ∙ c.status.ensures, c.in-Err.ensures.why, c.in-Err.ensures.none), refl))
