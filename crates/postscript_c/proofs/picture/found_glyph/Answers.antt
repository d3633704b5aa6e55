use Rattle.std.proofs.Common.{◌≡◌, ℤ, [], ◌∷◌, ◌++◌, Option, ap, map, refl, subst, sym}
use Rattle.std.specs.Prelude.{MatchOption}
use Rattle.postscript_c.specs.Drawn.{HasNone, IsDrawnOver}
use Rattle.postscript_c.specs.Segments.{meant}
use Rattle.postscript_c.proofs.Sketching.{all-given}
use Rattle.postscript_c.proofs.picture.found_glyph.Goals as goal
use Rattle.postscript_drawing.specs.Drawn.{Takes}

pub returns-in-Some : goal.returns-in-Some
returns-in-Some c =
    let Found : Option (Option ℤ) → Type 0 = λ found. MatchOption found (HasNone c.args.bytes.now c.args.font.now c.args.part c.args.glyph)
    (λ width. Takes (λ xs segment next. next ≡ xs ++ segment ∷ []) (map meant c.in_ok-sketch.sketch.segments.items)
    (map meant c.draw_over.new.sink.segments.items)
    (λ segments. IsDrawnOver c.args.bytes.now c.args.font.now c.args.part c.args.glyph segments width)) in
    let drawn = subst Found c.in-Some.is c.in_ok-width.ensures.drawn in
    let same = all-given (map meant c.in_ok-sketch.sketch.segments.items) (map meant c.draw_over.new.sink.segments.items) drawn.0
    (ap (map meant) c.in_ok-sketch.ensures.empty) drawn.2 in (
      refl,
      subst (λ segments. IsDrawnOver c.args.bytes.now c.args.font.now c.args.part c.args.glyph segments c.in-Some.width)
          (sym same) drawn.1,
    )
