use Rattle.std.proofs.Common.{◌≡◌, take}
use Rattle.std.specs.Prelude.{Some, map}
use Rattle.postscript_write.proofs.sources.made_of.Given as goal

abbrev pub invariant-loop-glyph : goal.invariant-loop-glyph
invariant-loop-glyph l = l.sources.items ≡ map Some (take l.glyph-index l.glyphs)
