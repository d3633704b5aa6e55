use Rattle.std.proofs.Common.{◌≡◌}
use Rattle.postscript_write.specs.Sources.{keeping}
use Rattle.postscript_write.proofs.sources.sources_in_place.Given as goal

abbrev pub invariant-loop-glyph : goal.invariant-loop-glyph
invariant-loop-glyph l = l.sources.items ≡ keeping l.named l.glyph
