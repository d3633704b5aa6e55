use Rattle.std.proofs.Common.{◌≡◌, take}
use Rattle.postscript_write.specs.Privates.{privates_text}
use Rattle.postscript_write.proofs.layout.join_privates.Given as goal

abbrev pub invariant-loop-private : goal.invariant-loop-private
invariant-loop-private l = l.out.items ≡ privates_text (take l.private-index l.privates)
