use Rattle.std.proofs.Common.{◌∙◌, ap, List, Bool, false, get_or}
use Rattle.std.specs.Prelude.{◌==◌, ◌||◌}
use Rattle.postscript_write.proofs.Marks.{kept_pushed}
use Rattle.postscript_write.proofs.sources.kept_of.Goals as goal

pub loop-glyph-preserved : goal.loop-glyph-preserved
loop-glyph-preserved c =
    let glyph = c.loop-glyph.glyph in
    let keeps = c.is_kept-keeps.ensures ∙ ap (λ (marks : List Bool). get_or marks glyph false || (glyph == 0)) c.deref.ensures.value
    ∙ c.in_ok-marks.ensures.marks.each glyph c.loop-glyph-test.true in
    kept_pushed c.args.named.now c.loop-glyph.kept.items c.push_if.new.kept.items glyph c.is_kept-keeps.result c.loop-glyph.invariant
    keeps c.in_ok-push_if.ensures.kept
