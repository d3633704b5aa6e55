use Rattle.std.proofs.Common.{◌≡◌, ◌++◌, take}
use Rattle.std.specs.Prelude.{map}
use Rattle.postscript_files.specs.Choices.{glyph_of, glyphs_of}
use Rattle.postscript_files.proofs.choice.glyphs_of_choice.Given as goal

abbrev pub invariant-loop-pair : goal.invariant-loop-pair
invariant-loop-pair l = l.named.items ≡ glyphs_of l.choice ++ map glyph_of (take l.pair-index l.pairs)
