use Rattle.std.proofs.Common.{◌≡◌, take}
use Rattle.postscript_base.specs.Index.Lent.{items_of}
use Rattle.postscript_view.specs.Fitting.{longest}
use Rattle.postscript_view.proofs.fitting.longest_of.Given as goal

-- that of the items so far
abbrev pub invariant-loop-i : goal.invariant-loop-i
invariant-loop-i l = l.most ≡ longest (take l.i (items_of l.items))
