use Rattle.postscript_sequences.specs.Sequences.{table_of}
use Rattle.postscript_sequences.proofs.Glyphs.{all_done, glyphs_are}
use Rattle.postscript_sequences.proofs.sequences.Sequences.glyphs_of.Goals as goal

pub returns-clause-exact : goal.returns-clause-exact
returns-clause-exact c =
    glyphs_are (table_of c.args.self.now) c.args.chars.now c.in_ok-parts.parts.items c.loop-part.glyphs.items c.in_ok-parts.ensures.are
    (all_done c.loop-part.glyphs.items c.loop-part.part-index c.deref-part-items.result.now c.in_ok-parts.parts.items c.loop-part.invariant
    c.loop-part-test.false c.deref-part-items.ensures.value)
