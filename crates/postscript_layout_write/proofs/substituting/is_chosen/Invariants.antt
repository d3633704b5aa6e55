use Rattle.std.proofs.Common.{◌≡◌, drop}
use Rattle.postscript_layout_write.specs.Substituting.{is_chosen}
use Rattle.postscript_layout_write.proofs.substituting.is_chosen.Given as goal

abbrev pub invariant-loop-lookup : goal.invariant-loop-lookup
invariant-loop-lookup l = is_chosen l.lookups l.i ≡ is_chosen (drop l.lookup-index l.lookups) l.i
