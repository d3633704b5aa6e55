use Rattle.std.proofs.Common.{◌∙◌, ◌++◌, ap, ℕ, List, [], ◌∷◌, arith, length}
use Rattle.postscript_layout_write.specs.Text.{array_text}
use Rattle.postscript_layout_write.proofs.Classed.{keeps-classes}
use Rattle.postscript_layout_write.proofs.classes.glyph_classes.Goals as goal

pub returns-clause-kept : goal.returns-clause-kept
returns-clause-kept c =
    let head = array_text (1 ∷ 0 ∷ 12 ∷ 0 ∷ 0 ∷ 0 ∷ 1 ∷ 0 ∷ length c.args.kept.now ∷ []) in
    keeps-classes c.args.gdef.now c.args.kept.now _ c.in_ok-classes.classes.items (omega arith) c.in_ok-classes.ensures.exact
    (c.in_ok-put_glyphs-2.ensures.text ∙ ap (λ (xs : List ℕ). xs ++ array_text c.deref.result.now)
    (c.in_ok-put_glyphs.ensures.text ∙ ap (λ (xs : List ℕ). xs ++ head) c.new-out.ensures.items)
    ∙ ap (λ (xs : List ℕ). head ++ array_text xs) c.deref.ensures.value)
