use Rattle.postscript_vertical.specs.Listed.{AreListed}
use Rattle.postscript_vertical.proofs.origins.records_of.Given as goal

-- the records so far
abbrev pub invariant-loop-i : goal.invariant-loop-i
invariant-loop-i l = AreListed l.vorg l.origins l.i l.records.items
