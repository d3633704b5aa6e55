use Rattle.std.proofs.Common.{◌≡◌}
use Rattle.postscript_write.specs.Sources.{kept_of}
use Rattle.postscript_write.proofs.sources.kept_of.Given as goal

abbrev pub invariant-loop-glyph : goal.invariant-loop-glyph
invariant-loop-glyph l = l.kept.items ≡ kept_of l.named l.glyph
