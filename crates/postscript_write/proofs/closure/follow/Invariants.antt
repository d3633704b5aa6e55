use Rattle.std.proofs.Common.{◌+◌, ◌-◌, length}
use Rattle.postscript_write.specs.Closure.{unmarked_in}
use Rattle.std.specs.Prelude.{take}
use Rattle.postscript_write.specs.Components.{AreKnown}
use Rattle.postscript_write.specs.Costs.{AreDistinct}
use Rattle.postscript_write.specs.Stepping.{Share}
use Rattle.postscript_write.proofs.Reaching.{Follows}
use Rattle.postscript_write.proofs.closure.follow.Given as goal

abbrev pub invariant-loop-next : goal.invariant-loop-next
invariant-loop-next l = record {
  follows : Follows l.font l.fn.glyphs.items l.marks.items l.glyphs.items l.next;
  known : AreKnown l.font l.known.items;
  distinct : AreDistinct l.glyphs.items;
  shared : Share l.font l.fn.limit (take l.next l.glyphs.items) l.limit;
}

abbrev pub decreases-loop-next : goal.decreases-loop-next
decreases-loop-next l = (unmarked_in l.marks.items + length l.glyphs.items) - l.next
