use Rattle.std.proofs.Common.{◌≡◌, ap, subst, sym, ◌+◌, ◌∷◌, ◌∙◌, None, ℕ, [], List, length, get_or, arith, length-append}
use Rattle.std.specs.Prelude.{Option}
use Rattle.postscript_layout_write.specs.Pairs.{index_at, pairs_at}
use Rattle.postscript_layout_write.proofs.Lists.{push-each}
use Rattle.postscript_layout_write.proofs.lookups.indices_of.Goals as goal

pub loop-j-preserved : goal.loop-j-preserved
loop-j-preserved c =
    let P : ℕ → Option ℕ → Type 0 = λ j x. x ≡ index_at c.args.gpos.now (pairs_at c.args.gpos.now c.args.lookup j) c.args.first in
    let items = c.in_ok-push.ensures.items in
    let old = c.loop-j.indices.items in
    let many = c.loop-j.invariant.many in
    let more : length c.push.new.self.items ≡ length old + 1 = ap length items ∙ length-append old (c.in_ok-index.index ∷ []) in
    record {
      many = omega (arith, more, many);
      each = λ j less. subst (λ (xs : List (Option ℕ)). P j (get_or xs j None)) (sym items)
          (push-each P old c.in_ok-index.index None c.loop-j.j many c.loop-j.invariant.each c.in_ok-index.ensures.exact j less);
      spent = omega (arith, c.pay.ensures.spends, c.index_in.ensures.spends, c.loop-j.invariant.spent);
    }
