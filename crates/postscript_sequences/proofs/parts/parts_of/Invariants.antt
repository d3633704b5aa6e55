use Rattle.std.proofs.Common.{◌≡◌, ℕ, ◌<◌, ◌≤◌, ◌+◌, length}
use Rattle.postscript_sequences.specs.Parts.{AreParts}
use Rattle.postscript_sequences.specs.Tables.{selector_at}
use Rattle.postscript_sequences.specs.Units.{units_to}
use Rattle.postscript_sequences.proofs.parts.parts_of.Given as goal

-- the parts of the records so far; the next selector is the least that is above all of theirs
abbrev pub invariant-loop-i : goal.invariant-loop-i
invariant-loop-i l = record {
  spends : l.limit ≤ l.fn.limit;
  most : l.fn.limit ≤ l.limit + units_to l.table (length l.chars) l.i;
  are : AreParts l.table l.chars l.i l.parts.items;
  above : (k : ℕ) → k < l.i → selector_at l.table k < l.next;
  reached : 0 < l.next → (k : ℕ) × (k < l.i) × (selector_at l.table k + 1 ≡ l.next);
}
