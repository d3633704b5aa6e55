use Rattle.std.proofs.Common.{subst, sym, ◌+◌, ℕ, arith}
use Rattle.std.specs.Prelude.{slice_index}
use Rattle.postscript_layout_write.specs.Entries.{AreEntries}
use Rattle.postscript_layout_write.specs.Pairs.{by_lookup}
use Rattle.postscript_layout_write.specs.declared.values.Adjustment.{Adjustment}
use Rattle.postscript_layout_write.proofs.Listing.{entries-more}
use Rattle.postscript_layout_write.proofs.entries.adjusted_pairs.Goals as goal

pub loop-k-preserved : goal.loop-k-preserved
loop-k-preserved c =
    let f : ℕ → Adjustment = λ y. by_lookup c.args.gpos.now c.args.lookup c.args.first (slice_index c.args.kept.now y) in
    record {
      entries = subst (AreEntries f (c.loop-k.k + 1)) (sym c.in_ok-list.ensures.items)
          (entries-more f c.loop-k.k c.loop-k.entries.items c.in_ok-adjustment.adjustment c.loop-k.invariant.entries c.in_ok-adjustment.ensures.exact);
      spent = omega (arith, c.pay.ensures.spends, c.by_lookup.ensures.spends, c.loop-k.invariant.spent);
    }
