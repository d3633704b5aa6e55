use Rattle.std.proofs.Common.{◌≡◌, ◌+◌, ◌<◌, take}
use Rattle.postscript_instance.specs.Rooms.{names_size}
use Rattle.postscript_instance.proofs.rooms.with_names.Given as goal

abbrev pub invariant-loop-i : goal.invariant-loop-i
invariant-loop-i l = (l.all ≡ l.sum + names_size (take l.i l.names)) × (l.all < 2000000000)
