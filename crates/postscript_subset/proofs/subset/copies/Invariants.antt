use Rattle.std.proofs.Common.{◌≡◌, take}
use Rattle.std.specs.Prelude.{map}
use Rattle.postscript_subset.specs.Subsets.{shown}
use Rattle.postscript_subset.proofs.subset.copies.Given as goal

abbrev pub invariant-loop-table : goal.invariant-loop-table
invariant-loop-table l = map shown l.copies.items ≡ map shown (take l.table-index l.given)
