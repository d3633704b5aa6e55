use Rattle.std.proofs.Common.{◌∙◌, ap, sym, ◌+◌, ◌<◌, ◌≤◌, ◌++◌, length, drop, arith}
use Rattle.std.proofs.lemmas.List.{append_assoc, append-nil}
use Rattle.postscript_sfnt_write.specs.Layout.{metrics_text}
use Rattle.postscript_sfnt_write.proofs.Measuring.{metric_below, metric_is, metrics_done, metrics_more, none}
use Rattle.postscript_sfnt_write.proofs.metrics.put_metrics.Goals as goal

pub loop-metric-preserved : goal.loop-metric-preserved
loop-metric-preserved c =
    let less : c.loop-metric.metric-index < length c.args.metrics.now = omega arith in (
      ap (λ xs. xs ++ metrics_text (drop (c.loop-metric.metric-index + 1) c.args.metrics.now)) c.in_ok-put_metric.ensures.text
          ∙ append_assoc c.loop-metric.table.items _ _
          ∙ ap (λ xs. c.loop-metric.table.items ++ xs) (sym (metrics_more c.args.metrics.now c.loop-metric.metric-index less))
          ∙ c.loop-metric.invariant.0,
      λ k m within given. grind
          (arith, c.loop-metric.invariant.1 k m, metric_is c.args.metrics.now k m none given, c.in_ok-put_metric.ensures.fits),
    )

pub returns-clause-text : goal.returns-clause-text
returns-clause-text c =
    let past : length c.args.metrics.now ≤ c.loop-metric.metric-index = omega arith in
    sym (append-nil c.loop-metric.table.items)
    ∙ ap (λ xs. c.loop-metric.table.items ++ xs) (sym (metrics_done c.args.metrics.now c.loop-metric.metric-index past))
    ∙ c.loop-metric.invariant.0

pub returns-clause-fit : goal.returns-clause-fit
returns-clause-fit c = λ i m given.
    let less = metric_below c.args.metrics.now i m given in
    c.loop-metric.invariant.1 i m (omega (arith, less)) given
