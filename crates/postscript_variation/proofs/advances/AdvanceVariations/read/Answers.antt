use Rattle.std.proofs.Common.{sym, ◌∙◌, arith}
use Rattle.postscript_variation.proofs.Advancing.{no_cause}
use Rattle.postscript_variation.proofs.advances.AdvanceVariations.read.Goals as goal

pub returns-clause-each : goal.returns-clause-each
returns-clause-each c e no' =
    absurd (no_cause c.args.hvar.now c.number_at-2.result c.number_at-3.result c.number_at-2.ensures.value c.number_at-3.ensures.value
    (omega arith) (sym c.number_at.ensures.value ∙ c.if-number_at-ne1.false)
    (λ e n. let k = c.in_ok-store.ensures.each e n in cc)
    (λ e p n. let k = c.in_ok-map.ensures.each e p n in cc) e no')
