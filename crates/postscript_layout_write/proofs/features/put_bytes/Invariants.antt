use Rattle.std.proofs.Common.{◌≡◌, ◌++◌}
use Rattle.postscript_layout_write.specs.Features.{bytes_at}
use Rattle.postscript_layout_write.proofs.features.put_bytes.Given as goal

abbrev pub invariant-loop-k : goal.invariant-loop-k
invariant-loop-k l = l.out.items ≡ l.fn.out.items ++ bytes_at l.table l.offset l.k
