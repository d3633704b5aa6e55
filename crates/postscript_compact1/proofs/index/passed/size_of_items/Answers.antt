use Rattle.std.proofs.Common.{arith}
use Rattle.postscript_compact1.proofs.Passed.{size_is}
use Rattle.postscript_compact1.proofs.index.passed.size_of_items.Goals as goal

pub returns-in-len1-up : goal.returns-in-len1-up
returns-in-len1-up c = let is = size_is c.args.offsets.now c.last-item.result c.in-len1-up.len_at_least c.last-item.is in grind arith
