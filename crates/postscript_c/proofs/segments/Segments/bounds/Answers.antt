use Rattle.std.proofs.Common.{None, sym, subst, map, fold}
use Rattle.postscript_c.specs.Segments.{meant}
use Rattle.postscript_outline.specs.Bounds.{IsBoundsOf, points, taking}
use Rattle.postscript_outline.proofs.Receiving.{folded}
use Rattle.postscript_c.proofs.segments.Segments.bounds.Goals as goal

pub returns : goal.returns
returns c =
    let segments = map meant c.args.self.now.segments.items in
    let taken = c.bounds_take_in_points.ensures segments _ (folded taking None segments) in
    subst (λ b. IsBoundsOf b (points segments))
    (sym (c.bounds.ensures (fold taking None segments) (points segments) c.args.self.now.bounded taken)) taken
