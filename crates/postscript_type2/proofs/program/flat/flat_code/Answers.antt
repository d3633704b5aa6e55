use Rattle.std.proofs.Common.{rules}
use Rattle.postscript_type2.proofs.program.flat.flat_code.Goals as goal

pub returns-in-UsedUp-clause-refused : goal.returns-in-UsedUp-clause-refused
returns-in-UsedUp-clause-refused c = search rules

pub returns-in-UsedUp-clause-text : goal.returns-in-UsedUp-clause-text
returns-in-UsedUp-clause-text c = search rules

pub returns-in-EndChar-clause-text : goal.returns-in-EndChar-clause-text
returns-in-EndChar-clause-text c = search rules
