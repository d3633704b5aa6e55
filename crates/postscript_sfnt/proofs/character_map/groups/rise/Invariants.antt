use Rattle.std.proofs.Common.{ℕ, ◌<◌}
use Rattle.postscript_sfnt.specs.CharacterMap.{Rise, first12, last12}
use Rattle.postscript_sfnt.proofs.character_map.groups.rise.Given as goal

-- those before this one rise, and end before the place past them
abbrev pub invariant-loop-i : goal.invariant-loop-i
invariant-loop-i l = Rise (first12 l.table) (last12 l.table) l.i × ((k : ℕ) → k < l.i → last12 l.table k < l.past)
