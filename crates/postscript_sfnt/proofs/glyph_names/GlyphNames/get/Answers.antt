use Rattle.postscript_sfnt.proofs.Strings.{named}
use Rattle.postscript_sfnt.proofs.glyph_names.GlyphNames.get.Goals as goal

pub returns : goal.returns
returns c =
    named c.args.self.now.table.now c.args.glyph c.args.self.now.count c.number_at.result c.name_at.result c.args.self.now.counted
    c.if-glyph-self.false
    c.number_at.ensures.value c.name_at.ensures
