use Rattle.std.proofs.Common.{ℕ, List, subst, arith}
use Rattle.postscript_layout_write.specs.CaretLists.{AddsValues, kept_carets}
use Rattle.postscript_layout_write.proofs.CaretCollecting.{carets-more}
use Rattle.postscript_layout_write.proofs.carets.tables_of.Goals as goal

pub loop-k-preserved : goal.loop-k-preserved
loop-k-preserved c =
    let old = c.loop-k.carets in
    let new = c.add.new.carets in
    let values = c.in_ok-values.values.items in
    record {
      are = carets-more (kept_carets c.args.gdef.now c.args.kept.now) c.loop-k.k values old.firsts.items old.offsets.items old.bytes.items
          new.firsts.items new.offsets.items new.bytes.items c.in_ok-values.ensures.exact c.in_ok-values.ensures.small
          (subst (λ (xs : List ℕ). AddsValues c.loop-k.k xs old.firsts.items old.offsets.items old.bytes.items new.firsts.items new.offsets.items new.bytes.items)
          c.deref.ensures.value c.in_ok-add.ensures.done) c.loop-k.invariant.are;
      spent = omega (arith, c.pay.ensures.spends, c.values_of.ensures.spends, c.loop-k.invariant.spent);
    }
