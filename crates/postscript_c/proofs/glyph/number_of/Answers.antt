use Rattle.std.proofs.Common.{ℕ, List, arith, subst}
use Rattle.std.specs.Prelude.{IfNone}
use Rattle.std.proofs.lemmas.Bool.Decides.{nat_tests}
use Rattle.postscript_view.specs.Select.{Selects}
use Rattle.postscript_c.proofs.Selecting.{no-number}
use Rattle.postscript_c.proofs.glyph.number_of.Goals as goal

pub returns-clause-none : goal.returns-clause-none
returns-clause-none c =
    let None-of : List ℕ → ℕ → ℕ → Type 0 = λ bytes place glyphs. IfNone c.part_of.result
    ((fd : ℕ) → Selects bytes place glyphs c.args.glyph fd → ⊥) in
    let font = c.args.font.now in
    let bytes = c.args.bytes.now in
    let none = subst (λ (b : List ℕ). None-of b font.fd_select font.glyphs) c.at.ensures.bytes
    (subst (λ (p : ℕ). None-of c.at.result.bytes.now p font.glyphs) c.at.ensures.place
    (subst (λ (g : ℕ). None-of c.at.result.bytes.now c.at.result.place g) c.at.ensures.glyphs c.part_of.ensures.none)) in
    no-number bytes font c.args.dictionaries c.args.glyph c.part_of.result
    (λ one. absurd (grind (arith, nat_tests, one, c.if-dictionaries-eq1.false))) none
