use Rattle.std.proofs.Common.{sym, subst, arith, get_or}
use Rattle.postscript_files.specs.Renumbered.{AreBelow}
use Rattle.std.proofs.Math.ListN.{length-set}
use Rattle.postscript_files.proofs.Numbering.{numbered-more}
use Rattle.postscript_files.proofs.numbers.numbers_of.Goals as goal

pub loop-i-preserved : goal.loop-i-preserved
loop-i-preserved c = record {
  room = subst (AreBelow c.args.origins.now)
      (sym (length-set c.loop-i.numbers.items (get_or c.args.origins.now c.loop-i.i 0) c.loop-i.i)) c.loop-i.invariant.room;
  numbered = numbered-more c.args.origins.now c.loop-i.numbers.items c.loop-i.i c.loop-i-test.true
      (c.loop-i.invariant.room c.loop-i.i c.loop-i-test.true)
      c.loop-i.invariant.numbered;
}

pub returns-clause-numbers : goal.returns-clause-numbers
returns-clause-numbers c = λ k h. let past = c.loop-i-test.false in c.loop-i.invariant.numbered k (omega (arith, h, past))
