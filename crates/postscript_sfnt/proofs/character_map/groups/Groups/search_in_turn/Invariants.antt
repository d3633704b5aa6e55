use Rattle.std.proofs.Common.{ℕ, ◌<◌}
use Rattle.postscript_sfnt.specs.CharacterMap.{Holds, first12, last12}
use Rattle.postscript_sfnt.proofs.character_map.groups.Groups.search_in_turn.Given as goal

-- none before this one holds the character
abbrev pub invariant-loop-i : goal.invariant-loop-i
invariant-loop-i l = (k : ℕ) → k < l.i → Holds (first12 l.self.table.now) (last12 l.self.table.now) l.self.count k l.char → ⊥
