use Rattle.std.proofs.Common.{◌≡◌, ◌+◌, ◌*◌, ◌<◌, ◌++◌, ◌∷◌, [], ◌∙◌, ap, sym, subst, arith, ℕ, List, length, length-append}
use Rattle.std.proofs.lemmas.List.{append_assoc}
use Rattle.std.specs.Prelude.{slice_index_or, slice_index}
use Rattle.postscript_layout_write.specs.Attaching.{IsCell, no_cell}
use Rattle.postscript_layout_write.specs.Text.{array_text, uint16}
use Rattle.postscript_layout_write.proofs.Rows.{cells-made, cells-more}
use Rattle.postscript_layout_write.proofs.cells.array_of.Goals as goal

pub loop-cell-preserved : goal.loop-cell-preserved
loop-cell-preserved c = record {
  many = (let many = c.loop-cell.invariant.many in let long = ap length c.in_ok-push.ensures.items in
      omega (arith, many, long, length-append c.loop-cell.numbers.items (c.in_ok-number.number ∷ [])));
  each = subst (λ (xs : List ℕ). (k : ℕ) → k < c.loop-cell.cell-index + 1 →
      IsCell (c.args.lead + (2 + length c.args.cells.now * 2)) c.number_of.new.pool.bytes.items (slice_index_or c.args.cells.now k no_cell) (slice_index xs k))
      (sym c.in_ok-push.ensures.items)
      (cells-more (c.args.lead + (2 + length c.args.cells.now * 2)) c.args.cells.now c.loop-cell.cell-index c.loop-cell.numbers.items c.in_ok-number.number
      c.loop-cell.pool.bytes.items c.number_of.new.pool.bytes.items c.loop-cell.invariant.many c.loop-cell.invariant.each c.in_ok-number.ensures.done);
}

pub returns-clause-text : goal.returns-clause-text
returns-clause-text c =
    let numbers = c.loop-cell.numbers.items in
    let pool = c.loop-cell.pool.bytes.items in
    let cells = c.args.cells.now in
    let all : c.loop-cell.cell-index ≡ length cells = omega arith in
    cells-made c.args.lead c.args.count cells numbers pool _ (omega arith) (c.loop-cell.invariant.many ∙ all)
    (λ k less. c.loop-cell.invariant.each k (omega (arith, all, less)))
    (c.in_ok-extend_from_slice.ensures.items
    ∙ ap (λ (xs : List ℕ). xs ++ c.deref-2.result.now) (c.in_ok-put_glyphs.ensures.text
    ∙ ap (λ (xs : List ℕ). xs ++ array_text c.deref.result.now) (c.in_ok-put_uint16.ensures ∙ ap (λ (xs : List ℕ). xs ++ uint16 c.args.count) c.new-out.ensures.items))
    ∙ ap (λ (xs : List ℕ). (uint16 c.args.count ++ array_text xs) ++ c.deref-2.result.now) c.deref.ensures.value
    ∙ ap (λ (xs : List ℕ). (uint16 c.args.count ++ array_text numbers) ++ xs) c.deref-2.ensures.value
    ∙ append_assoc (uint16 c.args.count) (array_text numbers) pool)
