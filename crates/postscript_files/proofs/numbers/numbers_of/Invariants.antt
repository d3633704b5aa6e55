use Rattle.std.proofs.Common.{◌<◌, ℕ, length, get_or}
use Rattle.postscript_files.specs.Renumbered.{AreBelow, IsNumbered}
use Rattle.postscript_files.proofs.numbers.numbers_of.Given as goal

abbrev pub invariant-loop-i : goal.invariant-loop-i
invariant-loop-i l = record {
  room : AreBelow l.origins (length l.numbers.items);
  numbered : (k : ℕ) → k < l.i → IsNumbered l.origins l.numbers.items (get_or l.origins k 0);
}
