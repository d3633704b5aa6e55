use Rattle.postscript_sfnt.specs.CharacterMap.{last4}
use Rattle.postscript_sfnt.specs.Owners.{AreOf}
use Rattle.postscript_sfnt.proofs.character_map.segments.Segments.lasts.Given as goal

abbrev pub invariant-loop-i : goal.invariant-loop-i
invariant-loop-i l = AreOf (last4 l.self.table.now) l.i l.lasts.items
