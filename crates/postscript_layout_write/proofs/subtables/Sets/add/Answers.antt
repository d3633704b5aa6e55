use Rattle.std.proofs.Common.{◌++◌, ◌∷◌, [], ap, subst, List, ◌∙◌, arith, ℕ}
use Rattle.std.specs.List.{All}
use Rattle.postscript_layout_write.specs.Sets.{Places, some_pairs}
use Rattle.postscript_layout_write.specs.Text.{EntryFits, set_text}
use Rattle.postscript_layout_write.specs.declared.entries.Entry.{Entry}
use Rattle.postscript_layout_write.proofs.subtables.Sets.add.Goals as goal

pub returns-clause-done : goal.returns-clause-done
returns-clause-done c =
    let form = c.args.form in
    let old = c.args.self.now.bytes.items in
    let new = c.place.new.self.bytes.items in
    let text = c.deref-2.ensures.value ∙ c.in_ok-text.ensures.text ∙ ap (set_text form) c.deref.ensures.value in
    some_pairs c.in_ok-found.found.items c.in_ok-found.ensures.exact
    (subst (λ (xs : List Entry). All (EntryFits form) xs) c.deref.ensures.value c.in_ok-text.ensures.fit) (omega arith) c.in_ok-offset.offset
    (c.in_ok-push.ensures.items ∙ ap (λ (xs : List ℕ). xs ++ c.args.first ∷ []) c.in_ok-offset.ensures.firsts)
    (c.in_ok-push-2.ensures.items ∙ ap (λ (xs : List ℕ). xs ++ c.in_ok-offset.offset ∷ []) c.in_ok-offset.ensures.offsets)
    (subst (λ (xs : List ℕ). Places xs old new c.in_ok-offset.offset) text c.in_ok-offset.ensures.placed)
