use Rattle.std.proofs.Common.{rules}
use Rattle.psfont_session.proofs.answer.load.Goals as goal

pub returns-in_ok-writeln-in-Some-clause-changed : goal.returns-in_ok-writeln-in-Some-clause-changed
returns-in_ok-writeln-in-Some-clause-changed g c = search rules
