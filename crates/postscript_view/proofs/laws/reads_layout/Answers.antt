use Rattle.postscript_view.proofs.LayoutLaws.{reads_layout}
use Rattle.postscript_view.proofs.laws.reads_layout.Goals as goal

pub returns : goal.returns
returns c = record { law = reads_layout }
