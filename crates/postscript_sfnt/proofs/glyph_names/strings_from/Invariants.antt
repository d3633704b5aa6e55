use Rattle.std.proofs.Common.{length, ◌-◌}
use Rattle.postscript_sfnt.proofs.Strings.{AreSoFar}
use Rattle.postscript_sfnt.proofs.glyph_names.strings_from.Given as goal

abbrev pub invariant-loop-text : goal.invariant-loop-text
invariant-loop-text l = AreSoFar l.table l.place l.strings.items

abbrev pub decreases-loop-text : goal.decreases-loop-text
decreases-loop-text l = length l.table - l.place
