use Rattle.std.proofs.Common.{◌<◌, subst, List, ℕ}
use Rattle.std.specs.List.{All}
use Rattle.postscript_layout_write.proofs.ContextCollecting.{begins-trans, coverages-on}
use Rattle.postscript_layout_write.proofs.contexts.made_of.Goals as goal

pub returns-clause-exact : goal.returns-clause-exact
returns-clause-exact c =
    let third = c.in_ok-after.ensures.more in
    record {
      before = record {
        have = coverages-on _ _ _ _ (begins-trans _ _ _ c.in_ok-input.ensures.more third) c.in_ok-before.ensures.part.have;
        some = c.in_ok-before.ensures.part.some;
      };
      input = record {
        have = coverages-on _ _ _ _ third c.in_ok-input.ensures.part.have;
        some = c.in_ok-input.ensures.part.some;
      };
      after = c.in_ok-after.ensures.part;
      actions = c.in_ok-actions.ensures.exact;
      small = subst (λ (xs : List ℕ). All (λ n. n < 65536) xs) c.in_ok-actions.ensures.exact c.in_ok-actions.ensures.small;
    }
