use Rattle.std.specs.Prelude.{◌≡◌, take}
use Rattle.postscript_c.specs.Located.{all_scalars}
use Rattle.postscript_c.proofs.prepared.all_of.Given as goal

-- the scalars so far
abbrev pub invariant-loop-number : goal.invariant-loop-number
invariant-loop-number l = l.all.items ≡ all_scalars (take l.number l.place.tables.items)
