use Rattle.std.proofs.Common.{◌≡◌, ◌≤◌, ◌-◌, ◌++◌, ℕ, List, length}
use Rattle.postscript_write.specs.LeftOut.{IsLeftText}
use Rattle.postscript_write.proofs.Without.{IsSoFar}
use Rattle.postscript_write.proofs.dictionaries.operations_without.Given as goal

abbrev pub invariant-operations : goal.invariant-operations
invariant-operations l = record {
  inner : l.tape.inner.now ≡ l.text;
  position : l.tape.pos ≡ l.place;
  within : l.place ≤ length l.text;
  so_far : IsSoFar l.text l.left_out l.told.items l.place l.count l.out.items;
  spelled : (rest : List ℕ) → IsLeftText l.text l.left_out l.place rest → IsLeftText l.text l.left_out 0 (l.out.items ++ rest);
}

abbrev pub decreases-operations : goal.decreases-operations
decreases-operations l = length l.text - l.place
