use Rattle.postscript_view.proofs.Wider.{counted}
use Rattle.postscript_view.proofs.font.FontView.fonts.Goals as goal

pub returns-clause-count : goal.returns-clause-count
returns-clause-count c = counted c.count_fonts.result c.args.bytes.now (c.count_fonts.ensures.exact 0) c.count_fonts.ensures.listed
