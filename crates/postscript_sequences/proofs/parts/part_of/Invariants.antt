use Rattle.std.proofs.Common.{◌≡◌, ℕ, ◌+◌, ◌<◌, ◌≤◌, length, get_or, take}
use Rattle.postscript_sequences.specs.Parts.{AreSaid}
use Rattle.postscript_sequences.specs.Said.{IsBehind}
use Rattle.postscript_sequences.specs.Tables.{default_at, mappings_of, other_at, ranges_of, selector_at}
use Rattle.postscript_sequences.proofs.parts.part_of.Given as goal

-- the part has the characters so far, and the cursor is not past those that are left
abbrev pub invariant-loop-char : goal.invariant-loop-char
invariant-loop-char l = record {
  spends : l.limit ≤ l.fn.limit;
  most : l.fn.limit ≤ l.limit + l.char-index + l.cursor.range + l.cursor.mapping;
  range : l.cursor.range ≤ ranges_of l.table (default_at l.table l.i);
  mapping : l.cursor.mapping ≤ mappings_of l.table (other_at l.table l.i);
  selector : l.part.selector ≡ selector_at l.table l.i;
  said : AreSaid l.table l.i (take l.char-index l.chars) l.part.defaults.items l.part.mapped.items;
  behind : (k : ℕ) → l.char-index ≤ k → k < length l.chars → IsBehind l.table l.i l.cursor (get_or l.chars k 0);
}
