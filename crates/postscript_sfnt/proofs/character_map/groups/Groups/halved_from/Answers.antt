use Rattle.std.proofs.Common.{arith}
use Rattle.postscript_sfnt.specs.CharacterMap.{first12, last12}
use Rattle.postscript_sfnt.proofs.Searching.{skips_to}
use Rattle.postscript_sfnt.proofs.character_map.groups.Groups.halved_from.Goals as goal

pub returns-then-first-lt-END : goal.returns-then-first-lt-END
returns-then-first-lt-END c =
    skips_to (first12 c.args.self.now.table.now)
    (last12 c.args.self.now.table.now) c.args.self.now.count c.args.char c.place_of-i.result c.first-first.result c.first-first.result
    c.requires.rise c.place_of-i.ensures c.first-first.ensures (omega (arith, c.if-first-char.false))
    (omega (arith, c.if-first-lt-END.true)) (omega arith)

pub returns-else-first-lt-END : goal.returns-else-first-lt-END
returns-else-first-lt-END c =
    skips_to (first12 c.args.self.now.table.now)
    (last12 c.args.self.now.table.now) c.args.self.now.count c.args.char c.place_of-i.result 0x110000 c.first-first.result
    c.requires.rise c.place_of-i.ensures c.first-first.ensures c.requires.unicode (omega arith) (omega (arith, c.if-first-lt-END.false))
