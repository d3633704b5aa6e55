use Rattle.std.proofs.Common.{ℕ, List, ◌++◌, ◌-◌}
use Rattle.postscript_sfnt.specs.Maps.{AreAll}
use Rattle.postscript_sfnt.proofs.character_map.CharacterMap.chars_by_walk.Given as goal

-- with all behind them these are all
abbrev pub invariant-loop-char : goal.invariant-loop-char
invariant-loop-char l = (rest : List (ℕ × ℕ)) → AreAll l.self l.from rest → AreAll l.self 0 (l.all.items ++ rest)

abbrev pub decreases-loop-char : goal.decreases-loop-char
decreases-loop-char l = 0x110000 - l.from
