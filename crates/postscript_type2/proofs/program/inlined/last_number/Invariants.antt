use Rattle.std.proofs.Common.{◌≡◌, ◌-◌, ◌≤◌, length, IfSome}
use Rattle.postscript_type2.specs.Program.Inlined.{before_last}
use Rattle.postscript_type2.proofs.Written.{so_far}
use Rattle.postscript_type2.proofs.program.inlined.last_number.Given as goal

-- the numbers before the last, by what was found so far
abbrev pub invariant-loop-next : goal.invariant-loop-next
invariant-loop-next l = record {
  found : before_last l.numbers ≡ so_far l.numbers l.last l.next;
  within : IfSome l.last (λ place. place ≤ length l.numbers);
}

abbrev pub decreases-loop-next : goal.decreases-loop-next
decreases-loop-next l = length l.numbers - l.next
