use Rattle.postscript_sfnt.specs.CharacterMap.{first4, last4}
use Rattle.postscript_sfnt.proofs.Searching.{skips_more}
use Rattle.postscript_sfnt.proofs.character_map.segments.Segments.walked_from.Goals as goal

pub loop-i-preserved : goal.loop-i-preserved
loop-i-preserved c =
    skips_more (first4 c.args.self.now.table.now c.args.self.now.count)
    (last4 c.args.self.now.table.now) c.loop-i.i c.args.char c.loop-i.next c.nearer-next.result c.first.result c.last.result
    c.loop-i.invariant c.first.ensures c.last.ensures
    c.nearer-next.ensures.behind c.nearer-next.ensures.most c.nearer-next.ensures.none
