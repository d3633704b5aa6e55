use Rattle.std.proofs.Common.{◌≡◌, ◌≤◌}
use Rattle.postscript_view.specs.CharSet.{covered}
use Rattle.postscript_view.proofs.marks.Marks.last_before.Given as goal

abbrev pub invariant-loop-m : goal.invariant-loop-m
invariant-loop-m l = record { counted : l.covered ≡ covered l.ranges l.size l.place; there : l.covered ≤ l.glyph }
