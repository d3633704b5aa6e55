use Rattle.postscript_sfnt.specs.CharacterMap.{SkipsTo, first4, last4}
use Rattle.postscript_sfnt.proofs.character_map.segments.Segments.walked_from.Given as goal

-- none before this one holds a character before the next
abbrev pub invariant-loop-i : goal.invariant-loop-i
invariant-loop-i l = SkipsTo (first4 l.self.table.now l.self.count) (last4 l.self.table.now) l.i l.char l.next
