use Rattle.postscript_view.proofs.Coding.{cid_none}
use Rattle.postscript_view.proofs.font.FontView.cid.Goals as goal

pub returns-then-glyph-len-clause-none : goal.returns-then-glyph-len-clause-none
returns-then-glyph-len-clause-none c = cid_none c.identifier.result c.args.self.now c.args.set.now c.args.glyph c.identifier.ensures.none
