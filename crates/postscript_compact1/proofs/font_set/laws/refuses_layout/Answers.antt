use Rattle.postscript_compact1.proofs.FontCauses.{refuses_layout}
use Rattle.postscript_compact1.proofs.font_set.laws.refuses_layout.Goals as goal

pub returns : goal.returns
returns c = record { law = refuses_layout c.reads_dictionaries.ensures.law }
