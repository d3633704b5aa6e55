use Rattle.std.proofs.Common.{◌≡◌, ◌≤◌, true}
use Rattle.std.specs.List.{All, Contains}
use Rattle.std.specs.List.Sorted.{IsStrictlyIncreasing}
use Rattle.postscript_layout.specs.Closure.{IsClosure}
use Rattle.postscript_layout_write.specs.Calls.{HasCalled}
use Rattle.postscript_layout_write.proofs.Calling.{IsLeast}
use Rattle.postscript_layout_write.proofs.reached.closure_with_called.Given as goal

abbrev pub invariant-loop-is_done : goal.invariant-loop-is_done
invariant-loop-is_done l = record {
  chosen : All (Contains l.found.lookups.items) l.lookups;
  least : IsLeast l.gsub l.lookups l.glyphs l.found.lookups.items;
  done : l.is_done ≡ true → IsClosure l.gsub l.found.lookups.items l.glyphs l.closed.items × HasCalled l.gsub l.closed.items l.found.lookups.items
      × IsStrictlyIncreasing l.closed.items;
  spent : l.limit ≤ l.fn.limit;
}

abbrev pub decreases-loop-is_done : goal.decreases-loop-is_done
decreases-loop-is_done l = l.limit
