use Rattle.postscript_compact1.proofs.FontLaws.{reads_layout}
use Rattle.postscript_compact1.proofs.font_set.laws.reads_layout.Goals as goal

pub returns : goal.returns
returns c = record { law = reads_layout c.reads_dictionaries.ensures.law }
