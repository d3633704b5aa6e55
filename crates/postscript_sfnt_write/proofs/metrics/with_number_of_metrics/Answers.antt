use Rattle.std.proofs.Common.{arith}
use Rattle.postscript_sfnt_write.proofs.Measuring.{has_word, keeps_but}
use Rattle.postscript_sfnt_write.proofs.metrics.with_number_of_metrics.Goals as goal

pub returns-clause-told : goal.returns-clause-told
returns-clause-told c = has_word 34 c.args.metrics c.args.hhea.now c.in_ok-new.new.items (omega arith) (omega arith) c.in_ok-new.ensures

pub returns-clause-kept : goal.returns-clause-kept
returns-clause-kept c = keeps_but 34 c.args.metrics c.args.hhea.now c.in_ok-new.new.items (omega arith) c.in_ok-new.ensures
