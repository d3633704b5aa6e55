use Rattle.postscript_files.proofs.Ordering.{if-all-named}
use Rattle.postscript_files.proofs.face.Face.named_glyphs.Goals as goal

pub returns-clause-named : goal.returns-clause-named
returns-clause-named c =
    if-all-named c.glyphs_of_choice.result c.args.choice.now c.args.self.now c.in_ok-pairs.pairs.items c.deref.result.now c.in_ok-pairs.ensures.kept
    c.deref.ensures.value c.glyphs_of_choice.ensures.named
