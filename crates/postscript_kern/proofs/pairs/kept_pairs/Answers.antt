use Rattle.std.proofs.Common.{arith}
use Rattle.postscript_kern.proofs.Collecting.{all-kept}
use Rattle.postscript_kern.proofs.pairs.kept_pairs.Goals as goal

pub returns-then-len-gt-MOST-clause-why : goal.returns-then-len-gt-MOST-clause-why
returns-then-len-gt-MOST-clause-why c = record {
  has = c.requires.has;
  pairs = c.in_ok-pairs.pairs.entries;
  are = all-kept c.args.table.now c.args.kept.now c.args.at c.in_ok-pairs.pairs c.requires.few c.len.ensures.ordered c.in_ok-pairs.ensures.exact;
  many = omega arith;
}

pub returns-clause-exact : goal.returns-clause-exact
returns-clause-exact c =
    all-kept c.args.table.now c.args.kept.now c.args.at c.in_ok-pairs.pairs c.requires.few c.len.ensures.ordered c.in_ok-pairs.ensures.exact
