use Rattle.std.proofs.Common.{arith, rules}
use Rattle.postscript_vertical.proofs.Words.{puts}
use Rattle.postscript_vertical.proofs.numbers.put_word.Goals as goal

pub returns-clause-put : goal.returns-clause-put
returns-clause-put c = puts c.args.number c.args.out.now.items c.extend_from_slice.new.self.items (omega arith) (search rules)
