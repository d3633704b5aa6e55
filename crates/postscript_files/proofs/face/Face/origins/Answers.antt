use Rattle.std.proofs.Common.{◌∙◌, ap}
use Rattle.postscript_files.specs.Choices.{glyphs_of, named_of}
use Rattle.postscript_files.proofs.Subsetting.{no-origins-of, origins-so}
use Rattle.postscript_files.proofs.face.Face.origins.Goals as goal

pub returns-clause-are : goal.returns-clause-are
returns-clause-are c =
    origins-so c.origins_of.result c.args.choice.now c.args.self.now c.in_ok-pairs.pairs.items c.deref-2.result.now c.in_ok-pairs.ensures.kept
    (c.deref-2.ensures.value ∙ c.in_ok-named.ensures.named ∙ ap (named_of (glyphs_of c.args.choice.now)) c.deref.ensures.value)
    c.origins_of.ensures.are

pub returns-clause-refused : goal.returns-clause-refused
returns-clause-refused c =
    no-origins-of c.origins_of.result c.args.choice.now c.args.self.now c.in_ok-pairs.pairs.items c.deref-2.result.now
    c.in_ok-pairs.ensures.kept
    (c.deref-2.ensures.value ∙ c.in_ok-named.ensures.named ∙ ap (named_of (glyphs_of c.args.choice.now)) c.deref.ensures.value)
    c.origins_of.ensures.refused
