use Rattle.std.proofs.Common.{◌∙◌}
use Rattle.postscript_files.proofs.subset.hmtx_of.Goals as goal

pub returns-clause-hmtx : goal.returns-clause-hmtx
returns-clause-hmtx c = record {
  metrics = c.deref.result.now;
  are = c.deref.ensures.value ∙ c.in_ok-metrics.ensures.metrics;
  size = c.in_ok-hmtx.ensures.size;
  read = c.in_ok-hmtx.ensures.read;
  advances = c.in_ok-hmtx.ensures.advances;
  bearings = c.in_ok-hmtx.ensures.bearings;
}
