use Rattle.std.proofs.Common.{ℤ, Option, subst}
use Rattle.std.specs.Prelude.{MatchOption}
use Rattle.postscript_c.specs.Drawn.{HasNone, IsDrawnOver}
use Rattle.postscript_drawing.specs.Drawn.{Takes}
use Rattle.postscript_outline.specs.Sinks.{Receives}
use Rattle.postscript_outline.specs.Tight.{TakesIn}
use Rattle.postscript_c.proofs.tight.traced_glyph.Goals as goal

pub returns-in-Some-clause-found : goal.returns-in-Some-clause-found
returns-in-Some-clause-found c =
    let new = c.draw_over.new.sink in
    let Found : Option (Option ℤ) → Type 0 = λ found. MatchOption found
    (HasNone c.args.bytes.now c.args.font.now c.args.part.now c.args.glyph)
    (λ width. Takes TakesIn c.new-tight.result new
    (λ segments. IsDrawnOver c.args.bytes.now c.args.font.now c.args.part.now c.args.glyph segments width)) in
    let drawn = subst Found c.in-Some.is c.in_ok-draw_over.ensures.drawn in (
      drawn.0,
      (_, drawn.1),
      c.tight_bounds_take_in_curves.ensures drawn.0 new
          (subst (λ old. Receives TakesIn old drawn.0 new) c.new-tight.ensures drawn.2),
    )
