use Rattle.std.proofs.Common.{◌≡◌, ◌++◌, take}
use Rattle.postscript_c.proofs.operations.put.Given as goal

abbrev pub invariant-loop-i : goal.invariant-loop-i
invariant-loop-i l = l.all.items ≡ l.fn.all.items ++ take l.i l.operands
