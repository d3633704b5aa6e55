use Rattle.std.proofs.Common.{◌≡◌, ◌+◌, ◌<◌, take}
use Rattle.postscript_write.specs.Sizes.{codes_size}
use Rattle.postscript_write.proofs.sizes.with_codes.Given as goal

abbrev pub invariant-loop-i : goal.invariant-loop-i
invariant-loop-i l = (l.all ≡ l.sum + codes_size (take l.i l.codes)) × (l.all < 2000000000)
