use Rattle.std.proofs.Common.{ap, subst, sym, ◌∙◌, ℕ, List, map}
use Rattle.postscript_instance_file.specs.Names.{AreNew, linked, not_linked}
use Rattle.postscript_instance_file.specs.declared.records.Text.{Text}
use Rattle.postscript_instance_file.proofs.records.texts_of.Goals as goal
use Rattle.postscript_instance_file.proofs.records.texts_of.Goals.{then-is_linked+in_ok-put_each, else-is_linked+in_ok-put_each-2}

pub returns : goal.returns
returns c = elim c.if-is_linked.branch [
  | then-is_linked+in_ok-put_each w ↦
      subst (λ (ids : List ℕ). AreNew ids)
      (sym (ap (λ v. map (λ (text : Text). text.identifier) v.items) w.texts-is ∙ w.in_ok-put_each.ensures)) linked
  | else-is_linked+in_ok-put_each-2 w ↦
      subst (λ (ids : List ℕ). AreNew ids)
      (sym (ap (λ v. map (λ (text : Text). text.identifier) v.items) w.texts-is ∙ w.in_ok-put_each-2.ensures)) not_linked
]
