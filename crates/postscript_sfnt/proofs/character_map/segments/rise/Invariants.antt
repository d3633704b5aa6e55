use Rattle.std.proofs.Common.{ℕ, ◌<◌}
use Rattle.postscript_sfnt.specs.CharacterMap.{Rise, first4, last4}
use Rattle.postscript_sfnt.proofs.character_map.segments.rise.Given as goal

-- those before this one rise, and end before the place past them
abbrev pub invariant-loop-i : goal.invariant-loop-i
invariant-loop-i l = Rise (first4 l.table l.count) (last4 l.table) l.i × ((k : ℕ) → k < l.i → last4 l.table k < l.past)
