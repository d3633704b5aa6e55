use Rattle.postscript_instance.proofs.Dicts.{select-more}
use Rattle.postscript_instance.proofs.layout.select.Goals as goal

pub loop-glyph-preserved : goal.loop-glyph-preserved
loop-glyph-preserved c =
    select-more c.args.font.now c.loop-glyph.glyph c.loop-glyph.select.items c.push-in-loop-glyph.new.self.items c.number_of.result
    c.loop-glyph.invariant c.in_ok-push-2.ensures.items c.number_of.ensures
