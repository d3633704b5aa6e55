use Rattle.std.proofs.Common.{◌+◌, ◌<◌, ◌++◌, ◌∷◌, [], ap, sym, subst, take, get_or, length, List, ◌∙◌, arith}
use Rattle.std.proofs.lemmas.List.{take_more}
use Rattle.postscript_layout_write.specs.Text.{AreOfForm, no_entry}
use Rattle.postscript_layout_write.specs.declared.entries.Entry.{Entry}
use Rattle.postscript_layout_write.proofs.Writing.{of-form-more, of-form-less}
use Rattle.postscript_layout_write.proofs.subtables.of_form.Goals.{then-has_form+in_ok-push, else-has_form}
use Rattle.postscript_layout_write.proofs.subtables.of_form.Goals as goal

pub loop-entry-preserved : goal.loop-entry-preserved
loop-entry-preserved c =
    let form = c.args.form in
    let es = c.args.entries.now in
    let i = c.loop-entry.entry-index in
    let e = get_or es i no_entry in
    let less : i < length es = omega arith in
    let more = take_more es i no_entry less in
    elim c.if-has_form.branch [
      | then-has_form+in_ok-push w ↦ subst (λ (xs : List Entry). AreOfForm form (take (i + 1) es) xs)
          (sym (w.in_ok-push.ensures.items) ∙ sym (ap (λ v. v.items) w.found-is))
          (subst (λ (xs : List Entry). AreOfForm form xs (c.loop-entry.found.items ++ e ∷ [])) (sym more)
          (of-form-more form (take i es) c.loop-entry.found.items e c.loop-entry.invariant (c.has_form.ensures.yes w.if-has_form.true)))
      | else-has_form w ↦ subst (λ (xs : List Entry). AreOfForm form (take (i + 1) es) xs) (sym (ap (λ v. v.items) w.found-is))
          (subst (λ (xs : List Entry). AreOfForm form xs c.loop-entry.found.items) (sym more)
          (of-form-less form (take i es) c.loop-entry.found.items e c.loop-entry.invariant (c.has_form.ensures.no w.if-has_form.false)))
    ]
