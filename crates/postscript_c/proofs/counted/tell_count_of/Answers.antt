use Rattle.std.proofs.Common.{inl, refl}
use Rattle.postscript_c.proofs.counted.tell_count_of.Goals as goal

pub returns-in-Ok : goal.returns-in-Ok
returns-in-Ok c = inl (c.in-Ok.font, c.in-Ok.ensures.found, refl, c.len.ensures)
