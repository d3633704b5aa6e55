use Rattle.std.proofs.Common.{eq-eqb, inl, inr, subst, arith}
use Rattle.std.proofs.lemmas.Bool.{eqb-true}
use Rattle.postscript_sfnt.specs.Maps.{Maps}
use Rattle.postscript_files.proofs.OneGlyph.{one-glyph}
use Rattle.postscript_files.proofs.choice.is_missing.Goals as goal

pub returns-else-char-ge-CHARS : goal.returns-else-char-ge-CHARS
returns-else-char-ge-CHARS c = (
  λ t. inr (subst (λ g. Maps c.args.map.now c.args.char g) (eqb-true c.glyph_of.result 0 t) c.glyph_of.ensures),
  λ h. elim h [
    | inl past ↦ absurd (omega (arith, past))
    | inr none ↦ eq-eqb c.glyph_of.result 0 (one-glyph c.args.map.now c.args.char c.glyph_of.result 0 c.glyph_of.ensures none)
  ],
)
