use Rattle.postscript_text.proofs.Naming.{empty}
use Rattle.postscript_text.proofs.names.NameTable.new.Goals as goal

pub returns : goal.returns
returns c = empty _ c.new.ensures.items c.new-2.ensures.items c.new-3.ensures.items
