use Rattle.std.proofs.Common.{◌≡◌}
use Rattle.postscript_layout_write.specs.Leaving.{left_by}
use Rattle.postscript_layout_write.proofs.leaving.left_of.Given as goal

abbrev pub invariant-loop-i : goal.invariant-loop-i
invariant-loop-i l = l.left.items ≡ left_by l.whole l.gsub l.lookups l.i
