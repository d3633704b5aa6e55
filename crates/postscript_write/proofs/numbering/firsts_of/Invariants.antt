use Rattle.postscript_write.specs.Firsts.{AreFirsts}
use Rattle.postscript_write.specs.Selected.{HaveSame}
use Rattle.postscript_write.proofs.numbering.firsts_of.Given as goal

abbrev pub invariant-loop-i : goal.invariant-loop-i
invariant-loop-i l = AreFirsts (HaveSame l.numbers) l.firsts.items l.i
