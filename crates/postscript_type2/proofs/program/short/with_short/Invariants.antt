use Rattle.std.proofs.Common.{◌≤◌, ◌+◌, ◌-◌, length}
use Rattle.std.specs.Vec.{vec_len, vec_capacity}
use Rattle.postscript_type2.specs.Private.Tokens.{Puts}
use Rattle.postscript_type2.proofs.program.short.with_short.Given as goal

-- so many bytes are read, and their numbers are on the stack, which has room for as many numbers as bytes are left up to the limit; a byte
-- stands behind it
abbrev pub invariant-loop-next : goal.invariant-loop-next
invariant-loop-next l = record {
  within : l.next ≤ length l.code;
  short : l.limit ≤ l.place + (length l.code - l.place - 1);
  room : vec_len l.stack + (l.limit - l.next) ≤ vec_capacity l.stack;
  passed : Puts l.code l.place l.fn.stack.items l.next l.stack.items;
}

abbrev pub decreases-loop-next : goal.decreases-loop-next
decreases-loop-next l = length l.code - l.next
