use Rattle.std.proofs.Common.{◌≡◌, ◌∙◌, ◌++◌, ◌∷◌, [], sym, subst, true, ℕ, List, length, rules}
use Rattle.postscript_layout_write.specs.Coverages.{HaveContexts}
use Rattle.postscript_layout_write.proofs.ContextCollecting.{adds-if, adds-not, applies-same, contexts-more, reverse-begins, reverse-made}
use Rattle.postscript_layout_write.proofs.contexts.Contexts.add_made_reverse.Goals as goal

pub returns-then-not-can_apply-clause-added : goal.returns-then-not-can_apply-clause-added
returns-then-not-can_apply-clause-added c = λ context is.
    adds-not context c.args.self.now (sym (applies-same context c.args.made.now is) ∙ sym c.can_apply.ensures ∙ c.if-not-can_apply.true)

pub returns-clause-added : goal.returns-clause-added
returns-clause-added c = λ context is.
    (let old = c.args.self.now in
    let bytes = c.put_reverse.new.out.items in
    let puts = c.in_ok-put_reverse.ensures.done in
    let pushed : c.push.new.self.items ≡ old.offsets.items ++ length old.bytes.items ∷ [] = search rules in
    adds-if context old _ (sym (applies-same context c.args.made.now is) ∙ sym c.can_apply.ensures ∙ c.if-not-can_apply.false) (record {
      have = λ contexts has. subst (λ (xs : List ℕ). HaveContexts true (contexts ++ context ∷ []) xs bytes) (sym pushed)
          (contexts-more contexts context old.offsets.items old.bytes.items bytes has (reverse-begins _ _ _ puts)
          (reverse-made context c.args.made.now _ _ is puts));
      more = reverse-begins _ _ _ puts;
    }))
