use Rattle.postscript_sfnt.specs.CharacterMap.{SkipsTo, first12, last12}
use Rattle.postscript_sfnt.proofs.character_map.groups.Groups.walked_from.Given as goal

-- none before this one holds a character before the next
abbrev pub invariant-loop-i : goal.invariant-loop-i
invariant-loop-i l = SkipsTo (first12 l.self.table.now) (last12 l.self.table.now) l.i l.char l.next
