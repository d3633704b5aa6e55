use Rattle.std.proofs.Common.{◌≤◌, ◌-◌, ◌+◌, drop, length}
use Rattle.postscript_variable.specs.Private.Numbers.{PutsNumbers}
use Rattle.postscript_variable.proofs.routine.numbers_at.Given as goal

-- the numbers before a place are on the stack, no more than they have bytes
abbrev pub invariant-loop-next : goal.invariant-loop-next
invariant-loop-next l = record {
  from : l.fn.place ≤ l.next;
  within : l.next ≤ length l.code;
  few : length l.stack.items + l.fn.place ≤ length l.fn.stack.items + l.next;
  puts : PutsNumbers (drop l.fn.place l.code) l.fn.stack.items l.fn.limit (drop l.next l.code) l.stack.items
      (l.fn.limit - (l.next - l.fn.place));
}

abbrev pub decreases-loop-next : goal.decreases-loop-next
decreases-loop-next l = length l.code - l.next
