use Rattle.postscript_sfnt.proofs.Listing.{all_there}
use Rattle.postscript_sfnt.proofs.character_map.CharacterMap.chars_by_walk.Goals as goal

pub returns : goal.returns
returns c = all_there c.args.self.now c.loop-char.from c.loop-char.all.items c.loop-char.invariant c.in_default.ensures.none
