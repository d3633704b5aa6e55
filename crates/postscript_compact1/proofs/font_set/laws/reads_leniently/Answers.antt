use Rattle.postscript_compact1.proofs.FontLaws.{reads_leniently}
use Rattle.postscript_compact1.proofs.font_set.laws.reads_leniently.Goals as goal

pub returns : goal.returns
returns c = record { law = reads_leniently c.reads_dictionaries.ensures.law }
