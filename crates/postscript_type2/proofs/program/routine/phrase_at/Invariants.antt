use Rattle.std.proofs.Common.{◌≤◌, ◌-◌, length}
use Rattle.postscript_type2.specs.Private.Tokens.{Puts}
use Rattle.postscript_type2.proofs.program.routine.phrase_at.Given as goal

-- so many bytes are read, and their numbers are on the stack
abbrev pub invariant-loop-first : goal.invariant-loop-first
invariant-loop-first l = record {
  within : l.next ≤ length l.code;
  passed : Puts l.code l.fn.place l.fn.stack.items l.next l.stack.items;
}

abbrev pub decreases-loop-first : goal.decreases-loop-first
decreases-loop-first l = length l.code - l.next
