use Rattle.std.proofs.Common.{◌∙◌, ap, ◌++◌, [], ◌∷◌, List, Bool, false, get_or}
use Rattle.std.specs.Prelude.{◌==◌, ◌||◌}
use Rattle.postscript_write.proofs.Marks.{keeping_more}
use Rattle.postscript_write.proofs.sources.sources_in_place.Goals as goal

pub loop-glyph-preserved : goal.loop-glyph-preserved
loop-glyph-preserved c =
    let glyph = c.loop-glyph.glyph in
    let kept = c.is_kept-kept.ensures ∙ ap (λ (marks : List Bool). get_or marks glyph false || (glyph == 0)) c.deref.ensures.value
    ∙ c.in_ok-marks.ensures.marks.each glyph c.loop-glyph-test.true in
    keeping_more c.args.named.now c.loop-glyph.sources.items c.push.new.self.items glyph c.is_kept-kept.result c.loop-glyph.invariant kept
    (c.in_ok-push.ensures.items ∙ ap (λ o. c.loop-glyph.sources.items ++ o ∷ []) c.kept_or_none.ensures)
