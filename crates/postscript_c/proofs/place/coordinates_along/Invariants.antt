use Rattle.postscript_c.specs.Placed.{AreAlong}
use Rattle.postscript_c.proofs.place.coordinates_along.Given as goal

-- the coordinates so far
abbrev pub invariant-loop-axis : goal.invariant-loop-axis
invariant-loop-axis l = AreAlong l.axes l.maps l.values l.axis l.all.items
