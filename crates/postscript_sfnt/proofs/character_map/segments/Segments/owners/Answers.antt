use Rattle.postscript_sfnt.specs.CharacterMap.{first4, last4}
use Rattle.postscript_sfnt.proofs.Owning.{listed_owners}
use Rattle.postscript_sfnt.proofs.character_map.segments.Segments.owners.Goals as goal

pub returns : goal.returns
returns c =
    listed_owners (first4 c.args.self.now.table.now c.args.self.now.count)
    (last4 c.args.self.now.table.now) c.in_ok-firsts.firsts.items c.in_ok-lasts.lasts.items c.as_slice.result.now c.as_slice-2.result.now
    c.in_ok-found.found.items c.args.self.now.count
    c.as_slice.ensures.value c.as_slice-2.ensures.value c.in_ok-firsts.ensures c.in_ok-lasts.ensures c.in_ok-found.ensures
