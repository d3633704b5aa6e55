use Rattle.std.proofs.Common.{◌≡◌, take}
use Rattle.std.specs.Prelude.{map}
use Rattle.postscript_files.specs.Measures.{metric_in}
use Rattle.postscript_files.proofs.metrics.metrics_of.Given as goal

abbrev pub invariant-loop-glyph : goal.invariant-loop-glyph
invariant-loop-glyph l = l.metrics.items ≡ map (metric_in l.advances l.hmtx l.count) (take l.glyph-index l.origins)
