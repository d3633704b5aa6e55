use Rattle.std.proofs.Common.{◌≡◌, ◌<◌, ℕ, ◌++◌, drop}
use Rattle.postscript_sfnt_write.specs.Layout.{MetricFits, metrics_text}
use Rattle.postscript_sfnt_write.specs.Metrics.{IsMetric}
use Rattle.postscript_sfnt_write.specs.declared.metrics.Metric.{Metric}
use Rattle.postscript_sfnt_write.proofs.metrics.put_metrics.Given as goal

-- what is still to be written completes the metrics
abbrev pub invariant-loop-metric : goal.invariant-loop-metric
invariant-loop-metric l = (l.table.items ++ metrics_text (drop l.metric-index l.metrics) ≡ metrics_text l.metrics)
    × ((k : ℕ) (m : Metric) → k < l.metric-index → IsMetric l.metrics k m → MetricFits m)
