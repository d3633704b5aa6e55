use Rattle.postscript_files.proofs.Marking.{AreMarkedTo}
use Rattle.postscript_files.proofs.choice.marked_chars.Given as goal

abbrev pub invariant-loop-char : goal.invariant-loop-char
invariant-loop-char l = AreMarkedTo l.chars l.char-index l.count l.marks.items
