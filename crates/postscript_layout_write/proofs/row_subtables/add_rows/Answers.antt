use Rattle.std.proofs.Common.{subst, ℕ, List}
use Rattle.postscript_layout_write.specs.Typed.{PutsRows}
use Rattle.postscript_layout_write.proofs.TypedWriting.{adds-rows}
use Rattle.postscript_layout_write.proofs.row_subtables.add_rows.Goals as goal

pub returns-clause-done : goal.returns-clause-done
returns-clause-done c =
    let side = c.args.side in
    let array = c.in_ok-array.array in
    let old = c.args.out.now.items in
    let new = c.put_rows.new.out.items in
    adds-rows side c.args.gpos.now c.args.subtable c.args.kept.now array.glyphs.items array.bytes.items old new c.requires.few c.in_ok-array.ensures.exact
    (subst (λ (xs : List ℕ). PutsRows side xs array.bytes.items old new) c.deref.ensures.value
    (subst (λ (xs : List ℕ). PutsRows side c.deref.result.now xs old new) c.deref-2.ensures.value c.in_ok-put_rows.ensures.done))
