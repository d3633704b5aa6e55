use Rattle.postscript_c.specs.Instances.{AreCoordinatesOf}
use Rattle.postscript_c.proofs.instances.coordinates_of.Given as goal

-- the coordinates so far
abbrev pub invariant-loop-axis : goal.invariant-loop-axis
invariant-loop-axis l = AreCoordinatesOf l.axes l.i l.axis l.all.items
