use Rattle.std.proofs.Common.{◌∙◌, ℕ}
use Rattle.std.specs.Prelude.{◌↔◌}
use Rattle.std.specs.List.{Contains}
use Rattle.std.proofs.lemmas.Result.{IfOk-weaker}
use Rattle.postscript_sequences.specs.Sequences.{IsGlyphOf, table_of}
use Rattle.postscript_files.specs.Sequences.{IsSequenceGlyph, chars_of}
use Rattle.postscript_files.proofs.Varied.{ascending_of, glyphs_so}
use Rattle.postscript_files.proofs.sequences.sequence_glyphs.Goals as goal

pub glyphs_of-requires : goal.glyphs_of-requires
glyphs_of-requires c =
    ascending_of c.deref-in-Some.result.now c.args.pairs.now (c.deref-in-Some.ensures.value ∙ c.in_ok-chars.ensures.chars) c.requires

pub returns-in-Some-clause-exact : goal.returns-in-Some-clause-exact
returns-in-Some-clause-exact c =
    IfOk-weaker c.glyphs_of.result
    (λ found. (glyph : ℕ) → Contains found.items glyph ↔ IsGlyphOf (table_of c.in-Some.sequences) c.deref-in-Some.result.now glyph)
    (λ found. (glyph : ℕ) → Contains found.items glyph ↔ IsSequenceGlyph c.args.cmap.now (chars_of c.args.pairs.now) glyph)
    (λ found exact. glyphs_so c.args.cmap.now (chars_of c.args.pairs.now) c.deref-in-Some.result.now c.deref.result.now
    (table_of c.in-Some.sequences) found.items (c.deref-in-Some.ensures.value ∙ c.in_ok-chars.ensures.chars)
    (c.deref.ensures.value ∙ c.in_ok-chars.ensures.chars) c.in-Some.ensures.some.0 c.in-Some.ensures.some.1 exact)
    c.glyphs_of.ensures.exact
