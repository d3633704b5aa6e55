use Rattle.postscript_sfnt.specs.CharacterMap.{first4}
use Rattle.postscript_sfnt.specs.Owners.{AreOf}
use Rattle.postscript_sfnt.proofs.character_map.segments.Segments.firsts.Given as goal

abbrev pub invariant-loop-i : goal.invariant-loop-i
invariant-loop-i l = AreOf (first4 l.self.table.now l.self.count) l.i l.firsts.items
