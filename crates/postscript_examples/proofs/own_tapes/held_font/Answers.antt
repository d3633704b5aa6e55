use Rattle.std.proofs.Common.{rules, sym}
use Rattle.postscript_examples.proofs.own_tapes.held_font.Goals as goal

pub returns-clause-only : goal.returns-clause-only
returns-clause-only c = rw (sym c.new.ensures.inner, sym c.new.ensures.position) (c.read.ensures.only (search rules))
