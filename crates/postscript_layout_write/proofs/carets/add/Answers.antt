use Rattle.std.proofs.Common.{◌<◌, ◌++◌, ◌∷◌, [], ◌∙◌, ℕ, List, ap, subst, length, rules}
use Rattle.postscript_layout_write.specs.CaretLists.{some_values}
use Rattle.postscript_layout_write.specs.Sets.{Places}
use Rattle.postscript_layout_write.specs.Text.{array_text}
use Rattle.postscript_layout_write.proofs.carets.add.Goals as goal

pub returns-clause-done : goal.returns-clause-done
returns-clause-done c =
    let some : 0 < length c.args.values.now = search rules in
    some_values c.in_ok-offset.offset some c.in_ok-numbers.ensures.few
    (c.in_ok-push.ensures.items ∙ ap (λ (xs : List ℕ). xs ++ c.args.glyph ∷ []) c.in_ok-offset.ensures.firsts)
    (c.in_ok-push-2.ensures.items ∙ ap (λ (xs : List ℕ). xs ++ c.in_ok-offset.offset ∷ []) c.in_ok-offset.ensures.offsets)
    (subst (λ (xs : List ℕ). Places xs c.args.carets.now.bytes.items c.place.new.self.bytes.items c.in_ok-offset.offset)
    (c.deref-2.ensures.value ∙ c.in_ok-put_glyphs.ensures.text ∙ ap (λ (xs : List ℕ). xs ++ array_text c.deref.result.now) c.new-text.ensures.items
    ∙ ap array_text (c.deref.ensures.value ∙ c.in_ok-numbers.ensures.exact)) c.in_ok-offset.ensures.placed)
