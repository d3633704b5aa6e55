use Rattle.std.proofs.Common.{◌≡◌, ◌≤◌}
use Rattle.postscript_view.specs.CharSet.{covered}
use Rattle.postscript_view.specs.Marks.{AreEvery, AreSet}
use Rattle.postscript_view.proofs.marks.Marks.of_ranges.Given as goal

abbrev pub invariant-loop-r : goal.invariant-loop-r
invariant-loop-r l =
    record {
      marked : AreSet l.ranges l.size l.marks.places l.marks.covers l.marks.set;
      counted : l.covered ≡ covered l.ranges l.size l.r;
      spread : AreEvery l.step l.marks l.next;
      reached : l.r ≤ l.next;
    }
