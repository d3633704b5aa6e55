use Rattle.std.proofs.Common.{sym, subst, ℕ, List, length}
use Rattle.std.specs.Prelude.{slice_index}
use Rattle.postscript_layout_write.specs.Attaching.{AreRows, HasCells, classes_of, lead_of, row_of, width_of}
use Rattle.postscript_layout_write.proofs.cells.array_in.Goals as goal

pub returns-clause-exact : goal.returns-clause-exact
returns-clause-exact c =
    let gpos = c.args.gpos.now in
    let kept = c.args.kept.now in
    let side = c.args.side in
    let rows = c.in_ok-rows.rows in
    let same = c.in_ok-array.ensures.glyphs in
    record {
      cells = rows.cells.items;
      are = subst (λ (xs : List ℕ). AreRows (width_of side (classes_of gpos c.args.subtable)) (λ x. row_of gpos c.args.subtable side (slice_index kept x)) (length kept) xs rows.cells.items)
          (sym same) c.in_ok-rows.ensures.exact;
      has = subst (λ (xs : List ℕ). HasCells (lead_of side) (length xs) rows.cells.items c.in_ok-array.array.bytes.items 0) (sym same)
          (subst (λ n. HasCells n (length rows.glyphs.items) rows.cells.items c.in_ok-array.array.bytes.items 0) c.lead_of.ensures.exact c.in_ok-array.ensures.text);
    }
