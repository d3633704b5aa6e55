use Rattle.std.proofs.Common.{refl, arith}
use Rattle.postscript_files.proofs.choice.refuse_missing.Goals as goal

pub returns-then-is_missing-clause-missing : goal.returns-then-is_missing-clause-missing
returns-then-is_missing-clause-missing c = record {
  place = c.loop-char.char-index;
  there = omega arith;
  is = refl;
  missing = c.is_missing.ensures.0 c.if-is_missing.true;
  before = c.loop-char.invariant;
}
