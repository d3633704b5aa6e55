use Rattle.std.proofs.Common.{arith}
use Rattle.postscript_files.proofs.Others.{listed-more}
use Rattle.postscript_files.proofs.flat.put_others.Goals as goal

pub loop-i-preserved : goal.loop-i-preserved
loop-i-preserved c = record {
  others = c.in_ok-put_other.ensures.others;
  listed = listed-more c.args.file.now c.loop-i.i c.tag_at.result c.loop-i.tables.items c.put_other.new.tables.items c.tag_at.ensures
      c.loop-i.invariant.listed c.in_ok-put_other.ensures.kept c.in_ok-put_other.ensures.there;
}

pub returns-clause-listed : goal.returns-clause-listed
returns-clause-listed c = λ k below other table h.
    let a = c.tables-i-end.ensures in let b = c.loop-i-test.false in
    c.loop-i.invariant.listed k (omega (arith, a, b, below)) other table h
