use Rattle.std.proofs.Common.{◌≡◌, ◌++◌, drop}
use Rattle.std.specs.List.{concat}
use Rattle.postscript_type2.specs.Program.Routines.{texts}
use Rattle.postscript_instance.proofs.layout.join_privates.Given as goal

-- the bytes so far, and those of the rest, are all
abbrev pub invariant-loop-private : goal.invariant-loop-private
invariant-loop-private l = l.out.items ++ concat (texts (drop l.private-index l.privates)) ≡ concat (texts l.privates)
