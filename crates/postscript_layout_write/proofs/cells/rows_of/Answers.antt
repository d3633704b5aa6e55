use Rattle.std.proofs.Common.{◌≡◌, ◌+◌, ◌++◌, ◌∷◌, [], ◌∙◌, ap, sym, subst, arith, ℕ, List, None, Some, Vec, Global}
use Rattle.std.specs.Prelude.{Option, slice_index}
use Rattle.postscript_layout_write.specs.Attaching.{AreRows, IsNewRow, classes_of, row_of, width_of}
use Rattle.postscript_layout_write.specs.declared.anchors.Cell.{Cell}
use Rattle.postscript_layout_write.specs.declared.cells.Rows.{Rows}
use Rattle.postscript_layout_write.proofs.Rows.{rows-less, rows-more}
use Rattle.postscript_layout_write.proofs.cells.rows_of.Goals.{in-Some+in_ok-add, in_default}
use Rattle.postscript_layout_write.proofs.cells.rows_of.Goals as goal

pub loop-k-preserved : goal.loop-k-preserved
loop-k-preserved c =
    let width = width_of c.args.side (classes_of c.args.gpos.now c.args.subtable) in
    let f : ℕ → Option (ℕ → Cell) = λ x. row_of c.args.gpos.now c.args.subtable c.args.side (slice_index c.args.kept.now x) in
    let k = c.loop-k.k in
    let old = c.loop-k.rows in
    let new : (found : Option (Vec Cell Global)) → c.in_ok-found.found ≡ found → IsNewRow width (f k) found =
    λ found is. subst (IsNewRow width (f k)) is c.in_ok-found.ensures.exact in
    record {
      rows = elim c.match-found.branch [
        | in-Some+in_ok-add w ↦ (let whole = new (Some w.in-Some.row) w.in-Some.is in
            subst (λ (rows : Rows). AreRows width f (k + 1) rows.glyphs.items rows.cells.items) (sym w.rows-is)
            (subst (λ (xs : List ℕ). AreRows width f (k + 1) xs w.add.new.self.cells.items) (sym w.in_ok-add.ensures.glyphs)
            (subst (λ (xs : List Cell). AreRows width f (k + 1) (old.glyphs.items ++ k ∷ []) xs)
            (sym (w.in_ok-add.ensures.cells ∙ ap (λ (xs : List Cell). old.cells.items ++ xs) w.deref.ensures.value))
            (rows-more width f k old.glyphs.items old.cells.items w.in-Some.row.items c.loop-k.invariant.rows whole))))
        | in_default w ↦ subst (λ (rows : Rows). AreRows width f (k + 1) rows.glyphs.items rows.cells.items) (sym w.rows-is)
            (rows-less width f k old.glyphs.items old.cells.items c.loop-k.invariant.rows (new None w.in_default.is))
      ];
      spent = omega (arith, c.pay.ensures.spends, c.row_of.ensures.spends, c.loop-k.invariant.spent);
    }
