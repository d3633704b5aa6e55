use Rattle.postscript_variable_font.specs.Places.{AreScalars}
use Rattle.postscript_variable_font.proofs.place.scalars.Given as goal

-- the scalars so far
abbrev pub invariant-loop-j : goal.invariant-loop-j
invariant-loop-j l = AreScalars l.table l.coordinates l.j l.scalars.items
