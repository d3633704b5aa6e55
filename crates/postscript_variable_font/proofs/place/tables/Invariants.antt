use Rattle.postscript_variable_font.specs.Places.{AreTables}
use Rattle.postscript_variable_font.proofs.place.tables.Given as goal

-- the item variation data so far
abbrev pub invariant-loop-number : goal.invariant-loop-number
invariant-loop-number l = AreTables l.store l.coordinates l.number l.tables.items
