use Rattle.std.proofs.Common.{◌≡◌, ◌+◌, ◌<◌, take}
use Rattle.postscript_base.specs.Index.Lent.{items_of}
use Rattle.postscript_write.specs.Sizes.{bytes_in}
use Rattle.postscript_write.proofs.sizes.with_items.Given as goal

abbrev pub invariant-loop-i : goal.invariant-loop-i
invariant-loop-i l = (l.all ≡ l.sum + bytes_in (take l.i (items_of l.items))) × (l.all < 2000000000)
