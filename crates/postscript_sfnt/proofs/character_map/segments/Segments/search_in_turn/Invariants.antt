use Rattle.std.proofs.Common.{ℕ, ◌<◌}
use Rattle.postscript_sfnt.specs.CharacterMap.{Holds, first4, last4}
use Rattle.postscript_sfnt.proofs.character_map.segments.Segments.search_in_turn.Given as goal

-- none before this one holds the character
abbrev pub invariant-loop-i : goal.invariant-loop-i
invariant-loop-i l = (k : ℕ) → k < l.i → Holds (first4 l.self.table.now l.self.count) (last4 l.self.table.now) l.self.count k l.char → ⊥
