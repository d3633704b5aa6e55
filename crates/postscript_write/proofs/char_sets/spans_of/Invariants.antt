use Rattle.postscript_write.specs.Firsts.{AreFirsts}
use Rattle.postscript_write.specs.SetTexts.{Continue}
use Rattle.postscript_write.proofs.char_sets.spans_of.Given as goal

abbrev pub invariant-loop-i : goal.invariant-loop-i
invariant-loop-i l = AreFirsts (Continue l.identifiers) l.firsts.items l.i
