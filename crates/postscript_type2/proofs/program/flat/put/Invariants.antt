use Rattle.std.proofs.Common.{◌≡◌, ◌++◌, take}
use Rattle.postscript_type2.proofs.program.flat.put.Given as goal

abbrev pub invariant-loop-byte : goal.invariant-loop-byte
invariant-loop-byte l = l.flat.items ≡ l.fn.flat.items ++ take l.byte-index l.bytes
