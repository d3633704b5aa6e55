use Rattle.std.proofs.Common.{refl}
use Rattle.postscript_view.proofs.font.FontView.private.Goals as goal

pub returns-clause-found : goal.returns-clause-found
returns-clause-found c = (c.in_ok-glyph.field-0.code.now, c.in_ok-glyph.field-0.part.now, c.in_ok-glyph.ensures.found, refl)
