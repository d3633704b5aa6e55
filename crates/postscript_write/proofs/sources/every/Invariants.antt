use Rattle.std.proofs.Common.{◌≡◌}
use Rattle.postscript_write.specs.Sources.{every}
use Rattle.postscript_write.proofs.sources.every.Given as goal

abbrev pub invariant-loop-glyph : goal.invariant-loop-glyph
invariant-loop-glyph l = l.sources.items ≡ every l.glyph
