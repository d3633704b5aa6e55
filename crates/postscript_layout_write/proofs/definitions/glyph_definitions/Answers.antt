use Rattle.std.proofs.Common.{◌≡◌, ◌+◌, ◌*◌, ◌<◌, ◌++◌, ◌∷◌, [], ◌∙◌, ap, refl, sym, subst, arith, rules, ℕ, List, length}
use Rattle.std.proofs.lemmas.List.{append_assoc}
use Rattle.postscript_layout_write.specs.Definitions.{sets_of}
use Rattle.postscript_layout_write.specs.MarkSets.{AreMarkSets}
use Rattle.postscript_layout_write.specs.Text.{array_text}
use Rattle.postscript_layout_write.proofs.DefinitionSets.{sets-on}
use Rattle.postscript_layout_write.proofs.DefinitionsKept.{definitions-joined, keeps-definitions}
use Rattle.postscript_layout_write.proofs.definitions.glyph_definitions.Goals as goal

pub returns-clause-kept : goal.returns-clause-kept
returns-clause-kept c =
    let old = c.args.gdef.now in
    let kept = c.args.kept.now in
    let caret = c.in_ok-offset.offset in
    let classes = c.in_ok-classes.classes.items in
    let marks = c.in_ok-marks.marks.items in
    let numbers = c.in_ok-sets.sets.numbers.items in
    let texts = c.in_ok-sets.sets.bytes.items in
    let list = c.in_ok-carets.carets.items in
    let count : c.sets_of-count.result ≡ sets_of old = c.sets_of-count.ensures.exact in
    let head = array_text (1 ∷ 2 ∷ 14 ∷ 0 ∷ caret ∷ (20 + length kept * 2) ∷ (26 + length kept * 4) ∷ 1 ∷ 0 ∷ length kept ∷ []) in
    let middle = array_text (1 ∷ 0 ∷ length kept ∷ []) in
    let after = c.in_ok-offset.ensures.some in
    let zero = c.in_ok-offset.ensures.none in
    let given : c.deref.result.now ≡ list = c.deref.ensures.value in
    let long : c.len.result ≡ length texts = search rules in
    keeps-definitions old kept c.extend_from_slice-2.new.self.items caret classes marks numbers texts list (texts ++ list) (omega arith) (omega (arith, count)) refl
    (omega arith) (λ none. zero (ap length given ∙ none)) (λ some. (let at = after (subst (λ (xs : List ℕ). 0 < length xs) (sym given) some) in omega (arith, at, count, long)))
    c.in_ok-carets.ensures.exact c.in_ok-classes.ensures.exact c.in_ok-marks.ensures.exact
    (sets-on old (4 + sets_of old * 4) kept (sets_of old) numbers texts list
    (subst (λ n. AreMarkSets old (4 + n * 4) kept (sets_of old) numbers texts) count c.in_ok-sets.ensures.exact))
    (c.in_ok-extend_from_slice-2.ensures.items ∙ ap (λ (xs : List ℕ). xs ++ c.deref-6.result.now) (c.in_ok-extend_from_slice.ensures.items
    ∙ ap (λ (xs : List ℕ). xs ++ c.deref-5.result.now) (c.in_ok-put_glyphs-5.ensures.text
    ∙ ap (λ (xs : List ℕ). xs ++ array_text c.deref-4.result.now) (c.in_ok-put_glyphs-4.ensures.text
    ∙ ap (λ (xs : List ℕ). xs ++ array_text (1 ∷ c.sets_of-count.result ∷ [])) (c.in_ok-put_glyphs-3.ensures.text
    ∙ ap (λ (xs : List ℕ). xs ++ array_text c.deref-3.result.now) (c.in_ok-put_glyphs-2.ensures.text
    ∙ ap (λ (xs : List ℕ). xs ++ middle) (c.in_ok-put_glyphs.ensures.text
    ∙ ap (λ (xs : List ℕ). xs ++ array_text c.deref-2.result.now) (c.in_ok-put_head.ensures ∙ ap (λ (xs : List ℕ). xs ++ head) c.new-out.ensures.items)))))))
    ∙ ap (λ (xs : List ℕ). (((((((head ++ array_text xs) ++ middle) ++ array_text c.deref-3.result.now) ++ array_text (1 ∷ c.sets_of-count.result ∷ [])) ++ array_text c.deref-4.result.now) ++ c.deref-5.result.now) ++ c.deref-6.result.now)) c.deref-2.ensures.value
    ∙ ap (λ (xs : List ℕ). (((((((head ++ array_text classes) ++ middle) ++ array_text xs) ++ array_text (1 ∷ c.sets_of-count.result ∷ [])) ++ array_text c.deref-4.result.now) ++ c.deref-5.result.now) ++ c.deref-6.result.now)) c.deref-3.ensures.value
    ∙ ap (λ n. (((((((head ++ array_text classes) ++ middle) ++ array_text marks) ++ array_text (1 ∷ n ∷ [])) ++ array_text c.deref-4.result.now) ++ c.deref-5.result.now) ++ c.deref-6.result.now)) count
    ∙ ap (λ (xs : List ℕ). (((((((head ++ array_text classes) ++ middle) ++ array_text marks) ++ array_text (1 ∷ sets_of old ∷ [])) ++ array_text xs) ++ c.deref-5.result.now) ++ c.deref-6.result.now)) c.deref-4.ensures.value
    ∙ ap (λ (xs : List ℕ). (((((((head ++ array_text classes) ++ middle) ++ array_text marks) ++ array_text (1 ∷ sets_of old ∷ [])) ++ array_text numbers) ++ xs) ++ c.deref-6.result.now)) c.deref-5.ensures.value
    ∙ ap (λ (xs : List ℕ). (((((((head ++ array_text classes) ++ middle) ++ array_text marks) ++ array_text (1 ∷ sets_of old ∷ [])) ++ array_text numbers) ++ texts) ++ xs)) c.deref-6.ensures.value
    ∙ append_assoc _ texts list
    ∙ definitions-joined (length kept) caret classes marks (sets_of old) numbers (texts ++ list))
