use Rattle.std.proofs.Common.{◌+◌, ◌∙◌, ap, sym, subst, arith, ℕ, List}
use Rattle.postscript_layout_write.specs.MarkSets.{AreMembers}
use Rattle.postscript_layout_write.proofs.DefinitionSets.{members-less, members-more}
use Rattle.postscript_layout_write.proofs.definitions.members_of.Goals.{then-is+in_ok-push, else-is}
use Rattle.postscript_layout_write.proofs.definitions.members_of.Goals as goal

pub loop-k-preserved : goal.loop-k-preserved
loop-k-preserved c =
    let gdef = c.args.gdef.now in
    let set = c.args.set in
    let kept = c.args.kept.now in
    let k = c.loop-k.k in
    let old = c.loop-k.members.items in
    record {
      are = elim c.if-is.branch [
        | then-is+in_ok-push w ↦ subst (λ (xs : List ℕ). AreMembers gdef set kept (k + 1) xs) (sym w.in_ok-push.ensures.items ∙ sym (ap (λ v. v.items) w.members-is))
            (members-more gdef set kept k old c.loop-k.invariant.are (sym c.in_ok-is.ensures.exact ∙ w.if-is.true))
        | else-is w ↦ subst (λ (xs : List ℕ). AreMembers gdef set kept (k + 1) xs) (sym (ap (λ v. v.items) w.members-is))
            (members-less gdef set kept k old c.loop-k.invariant.are (sym c.in_ok-is.ensures.exact ∙ w.if-is.false))
      ];
      spent = omega (arith, c.pay.ensures.spends, c.in_set.ensures.spends, c.loop-k.invariant.spent);
    }
