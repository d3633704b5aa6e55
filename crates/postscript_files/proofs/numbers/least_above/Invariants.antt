use Rattle.std.proofs.Common.{◌<◌, ◌≤◌, ℕ, get_or}
use Rattle.postscript_files.proofs.numbers.least_above.Given as goal

abbrev pub invariant-loop-i : goal.invariant-loop-i
invariant-loop-i l = record {
  small : l.above ≤ 65536;
  above : (k : ℕ) → k < l.i → get_or l.origins k 0 < l.above;
}
