use Rattle.postscript_files.proofs.LookingUp.{IsSoFar}
use Rattle.postscript_files.proofs.lookup.each_looked_up.Given as goal

abbrev pub invariant-loop-char : goal.invariant-loop-char
invariant-loop-char l = IsSoFar l.map l.chars l.char-index l.pairs.items
