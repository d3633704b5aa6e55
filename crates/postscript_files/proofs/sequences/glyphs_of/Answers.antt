use Rattle.std.proofs.Common.{◌≡◌, ◌∙◌, ℕ, List, subst, sym}
use Rattle.std.specs.Prelude.{◌↔◌}
use Rattle.std.specs.List.{Contains}
use Rattle.std.proofs.lemmas.Result.{IfOk-weaker}
use Rattle.postscript_sequences.specs.Sequences.{IsGlyphOf, table_of}
use Rattle.postscript_files.proofs.sequences.glyphs_of.Goals as goal

pub returns-in-Ok-clause-exact : goal.returns-in-Ok-clause-exact
returns-in-Ok-clause-exact c =
    IfOk-weaker c.wide.result (λ wide. wide.items ≡ c.deref.result.now)
    (λ wide. (glyph : ℕ) → Contains wide.items glyph ↔ IsGlyphOf (table_of c.args.sequences.now) c.args.chars.now glyph)
    (λ wide same. subst
    (λ (xs : List ℕ). (glyph : ℕ) → Contains xs glyph ↔ IsGlyphOf (table_of c.args.sequences.now) c.args.chars.now glyph)
    (sym (same ∙ c.deref.ensures.value)) c.in-Ok.ensures.exact)
    c.wide.ensures.same
