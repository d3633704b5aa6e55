use Rattle.std.proofs.Common.{inr, refl}
use Rattle.postscript_files.proofs.face.Face.number_of_glyphs.Goals as goal

pub returns-in-Ok-clause-counted : goal.returns-in-Ok-clause-counted
returns-in-Ok-clause-counted c =
    (c.in-Ok.font, record { laid = c.in-Ok.ensures.found; there = c.in-Ok.ensures.bytes }, c.len.ensures)

pub returns-in-Err-clause-refused : goal.returns-in-Err-clause-refused
returns-in-Err-clause-refused c = inr (c.in-Err.error, refl, λ other. inr (c.in-Err.ensures.exact other))
