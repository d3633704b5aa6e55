use Rattle.std.proofs.Common.{rules, []}
use Rattle.postscript_type2.proofs.program.inlined.inlined_code.Goals as goal

pub returns-in-EndChar-clause-text : goal.returns-in-EndChar-clause-text
returns-in-EndChar-clause-text c = let last = (c.in_ok-append-in-EndChar.ensures).ok [] in search rules
