use Rattle.std.proofs.Common.{◌≡◌, ◌++◌, take}
use Rattle.postscript_subset.proofs.closing.put_varied.Given as goal

abbrev pub invariant-loop-i : goal.invariant-loop-i
invariant-loop-i l = l.named.items ≡ l.initial.named.items ++ take l.i l.varied
