use Rattle.postscript_files.proofs.Keeping.{filtered-end, filtered-step, low-step}
use Rattle.postscript_files.proofs.choice.kept_of_list.Goals as goal

pub loop-pair-preserved : goal.loop-pair-preserved
loop-pair-preserved c = record {
  so_far = filtered-step _ _ _ _ _ _ _ _ c.loop-pair-test.true c.keeps-kept.ensures.exact c.in_ok-push_if.ensures.pushed
      c.loop-pair.invariant.so_far;
  low = low-step _ _ _ c.loop-pair-test.true c.keeps-kept.ensures.low c.loop-pair.invariant.low;
}

pub returns-clause-kept : goal.returns-clause-kept
returns-clause-kept c =
    filtered-end c.args.chars.now c.args.glyphs.now c.args.all.now c.loop-pair.pair-index c.loop-pair.pairs.items c.loop-pair-test.false
    c.loop-pair.invariant.so_far
