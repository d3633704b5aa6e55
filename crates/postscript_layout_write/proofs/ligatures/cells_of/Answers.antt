use Rattle.std.proofs.Common.{◌≡◌, ◌+◌, ◌<◌, ◌/◌, ◌%◌, ◌∷◌, [], ◌∙◌, ap, sym, subst, arith, ℕ, List, length, length-append, get_or}
use Rattle.postscript_layout_write.specs.Attaching.{cell_of, no_cell}
use Rattle.postscript_layout_write.specs.Marks.{anchor_in}
use Rattle.postscript_layout_write.specs.declared.anchors.Cell.{Cell}
use Rattle.postscript_layout_write.proofs.Lists.{push-each}
use Rattle.postscript_layout_write.proofs.ligatures.cells_of.Goals as goal

pub loop-q-preserved : goal.loop-q-preserved
loop-q-preserved c =
    let gpos = c.args.gpos.now in
    let classes = c.args.classes in
    let old = c.loop-q.cells.items in
    let P : ℕ → Cell → Type 0 = λ q cell. cell ≡ cell_of (anchor_in gpos c.args.ligature classes (q / classes) (q % classes)) in
    record {
      many = (let many = c.loop-q.invariant.many in let long = ap length c.in_ok-push.ensures.items in
          omega (arith, many, long, length-append old (c.cell_of.result ∷ [])));
      each = subst (λ (xs : List Cell). (q : ℕ) → q < c.loop-q.q + 1 → P q (get_or xs q no_cell)) (sym c.in_ok-push.ensures.items)
          (push-each P old c.cell_of.result no_cell c.loop-q.q c.loop-q.invariant.many c.loop-q.invariant.each
          (c.cell_of.ensures ∙ ap cell_of c.anchor_in.ensures));
      spent = omega (arith, c.pay.ensures.spends, c.loop-q.invariant.spent);
    }
