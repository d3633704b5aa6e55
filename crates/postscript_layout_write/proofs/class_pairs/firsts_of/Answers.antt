use Rattle.std.proofs.Common.{◌∙◌, ◌+◌, ap, sym, subst, List, ℕ}
use Rattle.postscript_layout_write.specs.ClassPairs.{AreFirsts}
use Rattle.postscript_layout_write.proofs.ClassCollecting.{firsts-less, firsts-more}
use Rattle.postscript_layout_write.proofs.class_pairs.firsts_of.Goals.{then-classes-x-ne0+in_ok-push, else-classes-x-ne0}
use Rattle.postscript_layout_write.proofs.class_pairs.firsts_of.Goals as goal

pub loop-x-preserved : goal.loop-x-preserved
loop-x-preserved c =
    let classes = c.args.classes.now in
    let x = c.loop-x.x in
    let old = c.loop-x.firsts.items in
    elim c.if-classes-x-ne0.branch [
      | then-classes-x-ne0+in_ok-push w ↦ subst (λ (xs : List ℕ). AreFirsts classes (x + 1) xs) (sym w.in_ok-push.ensures.items ∙ sym (ap (λ v. v.items) w.firsts-is))
          (firsts-more classes old x c.loop-x.invariant)
      | else-classes-x-ne0 w ↦ subst (λ (xs : List ℕ). AreFirsts classes (x + 1) xs) (sym (ap (λ v. v.items) w.firsts-is))
          (firsts-less classes old x c.loop-x.invariant w.if-classes-x-ne0.false)
    ]
