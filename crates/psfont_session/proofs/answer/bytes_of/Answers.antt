use Rattle.std.proofs.Common.{rules}
use Rattle.psfont_session.proofs.answer.bytes_of.Goals as goal

pub returns-in-Err-OutOfMemory-clause-malformed : goal.returns-in-Err-OutOfMemory-clause-malformed
returns-in-Err-OutOfMemory-clause-malformed c = search rules
