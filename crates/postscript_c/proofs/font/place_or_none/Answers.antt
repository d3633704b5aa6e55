use Rattle.std.proofs.Common.{[], inl, inr, refl}
use Rattle.postscript_c.proofs.Keying.{no-place}
use Rattle.postscript_c.proofs.font.place_or_none.Goals as goal

pub returns-in-Ok : goal.returns-in-Ok
returns-in-Ok c = inl (c.in-Ok.ensures.exact [] 0)

pub returns-in-Err : goal.returns-in-Err
returns-in-Err c = inr (no-place c.in-Err._e _ c.in-Err.ensures.listed (c.in-Err.ensures.exact [] 0), refl)
