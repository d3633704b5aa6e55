use Rattle.postscript_view.proofs.SameEncodings.{tied}
use Rattle.postscript_view.proofs.font.FontView.encoding.Goals as goal

pub returns-clause-same : goal.returns-clause-same
returns-clause-same c = let font = c.args.self.now in tied c.open.result font.bytes font.dictionary c.open.ensures.found c.open.ensures.none
