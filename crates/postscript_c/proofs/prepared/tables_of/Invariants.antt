use Rattle.postscript_c.specs.Located.{AreLent}
use Rattle.postscript_c.proofs.prepared.tables_of.Given as goal

-- the scalars so far
abbrev pub invariant-loop-number : goal.invariant-loop-number
invariant-loop-number l = AreLent l.store l.scalars l.number l.tables.items l.rest
