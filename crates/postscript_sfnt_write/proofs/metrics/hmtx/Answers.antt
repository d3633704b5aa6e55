use Rattle.std.proofs.Common.{◌∙◌, ap, length}
use Rattle.postscript_sfnt_write.proofs.Measuring.{can_be_read, length-metrics_text, tells_advances, tells_bearings}
use Rattle.postscript_sfnt_write.proofs.metrics.hmtx.Goals as goal

pub returns-clause-size : goal.returns-clause-size
returns-clause-size c = ap length c.in_ok-table.ensures.text ∙ length-metrics_text c.args.metrics.now

pub returns-clause-read : goal.returns-clause-read
returns-clause-read c = can_be_read c.in_ok-table.table.items c.args.metrics.now c.in_ok-table.ensures.text

pub returns-clause-advances : goal.returns-clause-advances
returns-clause-advances c = tells_advances c.in_ok-table.table.items c.args.metrics.now c.in_ok-table.ensures.text c.in_ok-table.ensures.fit

pub returns-clause-bearings : goal.returns-clause-bearings
returns-clause-bearings c = tells_bearings c.in_ok-table.table.items c.args.metrics.now c.in_ok-table.ensures.text c.in_ok-table.ensures.fit
