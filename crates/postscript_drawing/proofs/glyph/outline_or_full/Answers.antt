use Rattle.std.proofs.Common.{◌≡◌, [], ◌++◌, ap, subst, sym, ◌∙◌, rules}
use Rattle.postscript_drawing.specs.Drawn.{IsDrawnAs}
use Rattle.postscript_drawing.proofs.GlyphSpending.{nothing-spent}
use Rattle.postscript_outline.proofs.Receiving.{list-received}
use Rattle.postscript_drawing.proofs.glyph.outline_or_full.Goals as goal

pub returns-in_err-segments-clause-spends : goal.returns-in_err-segments-clause-spends
returns-in_err-segments-clause-spends c = nothing-spent c.args.font.now 2 c.args.limit.now

pub returns-clause-found : goal.returns-clause-found
returns-clause-found c =
    let drawn = c.in_ok-width.ensures.drawn in
    let empty : c.in_ok-segments.segments.items ≡ [] = search rules in
    let same : c.draw_glyph.new.sink.items ≡ drawn.0 = list-received drawn.0 _ _ drawn.2 ∙ ap (λ xs. xs ++ drawn.0) empty in
    subst (λ xs. IsDrawnAs c.args.font.now c.args.glyph xs c.in_ok-width.width) (sym same) drawn.1
