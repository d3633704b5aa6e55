use Rattle.std.proofs.Common.{List, Err, map, ap, sym, subst}
use Rattle.postscript_c.specs.Segments.{meant}
use Rattle.postscript_c.proofs.Sketching.{all-given}
use Rattle.postscript_c.proofs.varied.draw_within.Goals as goal
use Rattle.postscript_outline.specs.declared.segment.Segment.{Segment}
use Rattle.postscript_variable_font.specs.GlyphDrawings.{DrawsGlyph}

pub returns-in-Ok : goal.returns-in-Ok
returns-in-Ok c =
    let gives = c.in-Ok.ensures.drawn in
    let same = all-given (map meant c.args.sketch.segments.items) (map meant c.draw_glyph.new.sink.segments.segments.items) gives.segments
    (ap (map meant) c.requires) gives.taken in
    record {
      left = c.draw_glyph.new.limit;
      drawn = subst (λ (segments : List Segment). DrawsGlyph c.args.font.now c.args.glyph c.args.place.now segments) (sym same) gives.drawn;
      why = tt;
      spends = c.in-Ok.ensures.spends;
      suffices = tt;
    }

pub returns-in-Err : goal.returns-in-Err
returns-in-Err c = record {
  left = c.draw_glyph.new.limit;
  drawn = tt;
  why = c.in-Err.ensures.why;
  spends = c.in-Err.ensures.spends;
  suffices = λ fits is. c.in-Err.ensures.suffices fits (ap Err is);
}
