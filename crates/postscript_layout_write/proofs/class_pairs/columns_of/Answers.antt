use Rattle.std.proofs.Common.{◌≡◌, ◌∙◌, ◌+◌, ap, sym, subst, arith, List, ℕ}
use Rattle.postscript_layout_write.specs.ClassPairs.{AreColumnsIfOpen}
use Rattle.postscript_layout_write.specs.Lines.{cell}
use Rattle.std.specs.Prelude.{slice_index}
use Rattle.postscript_layout_write.specs.declared.lines.Lines.{Lines}
use Rattle.postscript_layout_write.proofs.ClassCollecting.{lines-more}
use Rattle.postscript_layout_write.proofs.class_pairs.columns_of.Goals.{then-columns+in_ok-column+in_ok-add, else-columns}
use Rattle.postscript_layout_write.proofs.class_pairs.columns_of.Goals as goal

pub loop-y-preserved : goal.loop-y-preserved
loop-y-preserved c =
    let rows = c.args.rows.now in
    let y = c.loop-y.y in
    let old = c.loop-y.columns in
    elim c.if-columns.branch [
      | then-columns+in_ok-column+in_ok-add w ↦ subst (λ (columns : Lines). AreColumnsIfOpen rows (y + 1) columns) (sym w.columns-is)
          (λ is-open. (let was-open = w.in_ok-add.ensures.open is-open in
          let are = c.loop-y.invariant was-open in
          let adds = w.in_ok-add.ensures.added is-open in
          let column = w.in_ok-column.ensures.exact in (
            adds.width ∙ are.0,
            lines-more (λ y r number. number ≡ cell rows.cells.items rows.width r y) y _ old w.add.new.self was-open are.1 adds
                (λ r less. ap (λ (xs : List ℕ). slice_index xs r) w.deref.ensures.value ∙ column.each r (let wide = are.0 in omega (arith, less, wide))),
          )))
      | else-columns w ↦ subst (λ (columns : Lines). AreColumnsIfOpen rows (y + 1) columns) (sym w.columns-is)
          (λ is-open. (let closed = w.if-columns.false in absurd (cc)))
    ]
