use Rattle.std.proofs.Common.{ℕ, List, ◌++◌}
use Rattle.postscript_sfnt.specs.Maps.{AreAll}
use Rattle.postscript_sfnt.proofs.character_map.CharacterMap.chars_in_list.Given as goal

-- with all behind them these are all
abbrev pub invariant-loop-char : goal.invariant-loop-char
invariant-loop-char l = (rest : List (ℕ × ℕ)) → AreAll l.self l.char rest → AreAll l.self 0 (l.all.items ++ rest)
