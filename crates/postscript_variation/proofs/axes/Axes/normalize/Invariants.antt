use Rattle.postscript_variation.specs.Coordinates.{AreCoordinates}
use Rattle.postscript_variation.proofs.axes.Axes.normalize.Given as goal

-- the coordinates so far
abbrev pub invariant-loop-axis : goal.invariant-loop-axis
invariant-loop-axis l = AreCoordinates l.self l.maps l.settings l.coordinates l.axis
