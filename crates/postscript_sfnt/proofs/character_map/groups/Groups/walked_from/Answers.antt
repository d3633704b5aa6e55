use Rattle.postscript_sfnt.specs.CharacterMap.{first12, last12}
use Rattle.postscript_sfnt.proofs.Searching.{skips_more}
use Rattle.postscript_sfnt.proofs.character_map.groups.Groups.walked_from.Goals as goal

pub loop-i-preserved : goal.loop-i-preserved
loop-i-preserved c =
    skips_more (first12 c.args.self.now.table.now)
    (last12 c.args.self.now.table.now) c.loop-i.i c.args.char c.loop-i.next c.nearer-next.result c.first.result c.last.result
    c.loop-i.invariant c.first.ensures c.last.ensures
    c.nearer-next.ensures.behind c.nearer-next.ensures.most c.nearer-next.ensures.none
