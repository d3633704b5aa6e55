use Rattle.std.proofs.Common.{◌-◌, ◌≤◌}
use Rattle.postscript_sfnt.specs.Maps.{LacksAll}
use Rattle.postscript_sfnt.proofs.character_map.CharacterMap.next_char.Given as goal

-- none before this one has a glyph
abbrev pub invariant-loop-char : goal.invariant-loop-char
invariant-loop-char l = (l.from ≤ l.char) × LacksAll l.self l.from l.char

abbrev pub decreases-loop-char : goal.decreases-loop-char
decreases-loop-char l = 0x110000 - l.char
