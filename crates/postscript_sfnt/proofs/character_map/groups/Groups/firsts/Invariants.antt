use Rattle.postscript_sfnt.specs.CharacterMap.{first12}
use Rattle.postscript_sfnt.specs.Owners.{AreOf}
use Rattle.postscript_sfnt.proofs.character_map.groups.Groups.firsts.Given as goal

abbrev pub invariant-loop-i : goal.invariant-loop-i
invariant-loop-i l = AreOf (first12 l.self.table.now) l.i l.firsts.items
