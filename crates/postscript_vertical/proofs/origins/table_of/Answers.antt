use Rattle.std.proofs.Common.{rules, arith}
use Rattle.postscript_vertical.proofs.Tables.{table-is}
use Rattle.postscript_vertical.proofs.origins.table_of.Goals as goal

pub returns-clause-exact : goal.returns-clause-exact
returns-clause-exact c =
    table-is c.put_pair.new.out.items c.put_pair-2.new.out.items c.args.records.now c.extend_from_slice.new.self.items c.args.default _
    (search rules) c.in_ok-put_pair-2.ensures.put (omega arith) (search rules)
