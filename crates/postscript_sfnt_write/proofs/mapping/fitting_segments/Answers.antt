use Rattle.std.proofs.Common.{◌∙◌, ap, length, arith}
use Rattle.postscript_sfnt_write.proofs.Segments.{segments_counted}
use Rattle.postscript_sfnt_write.proofs.mapping.fitting_segments.Goals as goal

pub returns-then-len-gt-SEGMENTS-clause-none : goal.returns-then-len-gt-SEGMENTS-clause-none
returns-then-len-gt-SEGMENTS-clause-none c = λ fit.
    let few = fit.few in
    let counted = ap length c.in_ok-segments.ensures.exact ∙ segments_counted c.args.mappings.now fit.below in
    absurd (omega (arith, few, counted, c.if-len-gt-SEGMENTS.true))
