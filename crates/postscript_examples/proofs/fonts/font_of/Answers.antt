use Rattle.std.proofs.Common.{rules, sym}
use Rattle.postscript_examples.proofs.fonts.font_of.Goals as goal

pub returns-clause-only : goal.returns-clause-only
returns-clause-only c = rw (sym c.new-tape.ensures.inner, sym c.new-tape.ensures.position) (c.read.ensures.only (search rules))
