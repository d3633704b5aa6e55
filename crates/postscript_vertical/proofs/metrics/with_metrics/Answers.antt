use Rattle.std.proofs.Common.{rules}
use Rattle.postscript_vertical.proofs.Headers.{header-is}
use Rattle.postscript_vertical.proofs.metrics.with_metrics.Goals as goal

pub returns-clause-exact : goal.returns-clause-exact
returns-clause-exact c =
    header-is c.args.vhea.now c.extend_from_slice.new.self.items c.put_word.new.out.items c.extend_from_slice-2.new.self.items c.args.metrics
    c.requires (search rules) c.in_ok-put_word.ensures.put c.in_ok-extend_from_slice-2.ensures.items
