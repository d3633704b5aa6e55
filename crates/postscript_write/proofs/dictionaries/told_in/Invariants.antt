use Rattle.std.proofs.Common.{◌≡◌, ◌≤◌, ◌-◌, length}
use Rattle.postscript_write.proofs.Without.{AreToldTo}
use Rattle.postscript_write.proofs.dictionaries.told_in.Given as goal

abbrev pub invariant-operations : goal.invariant-operations
invariant-operations l = record {
  inner : l.tape.inner.now ≡ l.text;
  within : l.tape.pos ≤ length l.text;
  so_far : AreToldTo l.text l.tape.pos l.told.items;
}

abbrev pub decreases-operations : goal.decreases-operations
decreases-operations l = length l.text - l.tape.pos
