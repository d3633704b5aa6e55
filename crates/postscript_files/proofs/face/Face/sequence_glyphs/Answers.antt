use Rattle.std.proofs.Common.{sym, subst}
use Rattle.postscript_sfnt_write.specs.Mappings.{CharsRise}
use Rattle.postscript_files.proofs.Varied.{listed-if}
use Rattle.postscript_files.proofs.face.Face.sequence_glyphs.Goals as goal

pub sequence_glyphs-requires : goal.sequence_glyphs-requires
sequence_glyphs-requires c = subst CharsRise (sym c.deref.ensures.value) c.in_ok-pairs.ensures.kept.rise

pub returns-clause-glyphs : goal.returns-clause-glyphs
returns-clause-glyphs c =
    listed-if c.sequence_glyphs.result c.args.choice.now c.args.self.now c.in_ok-pairs.pairs.items c.deref.result.now c.deref.ensures.value
    c.in_ok-pairs.ensures.kept c.sequence_glyphs.ensures.exact
