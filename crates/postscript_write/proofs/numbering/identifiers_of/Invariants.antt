use Rattle.std.proofs.Common.{◌≡◌, ◌-◌, ◌+◌, ◌<◌, ℕ, get_or, length, None}
use Rattle.postscript_write.specs.Identified.{IsNamedSource}
use Rattle.postscript_write.proofs.numbering.identifiers_of.Given as goal

abbrev pub invariant-loop-i : goal.invariant-loop-i
invariant-loop-i l = record {
  many : length l.identifiers.items ≡ l.i - 1;
  each : (k : ℕ) → k < l.i - 1 → IsNamedSource l.set (get_or l.sources (k + 1) None)
      (get_or l.identifiers.items k 0) × (get_or l.identifiers.items k 0 < 65536);
}
