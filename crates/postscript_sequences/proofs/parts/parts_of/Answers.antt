use Rattle.std.proofs.Common.{arith, ap, ◌∙◌, ◌+◌, length, refl}
use Rattle.std.proofs.lemmas.Result.{err_from_is_err_and}
use Rattle.postscript_sequences.specs.Tables.{records_of}
use Rattle.postscript_sequences.proofs.Collecting.{below_next, below_same, no_parts, parts_less, parts_more}
use Rattle.postscript_sequences.proofs.Spending.{units_next, units_within}
use Rattle.postscript_sequences.proofs.parts.parts_of.Goals as goal
use Rattle.postscript_sequences.proofs.parts.parts_of.Goals.{then-selector-next+in_ok-part+in_ok-push, else-selector-next}

pub loop-i-init : goal.loop-i-init
loop-i-init c = record {
  spends = omega arith;
  most = omega arith;
  are = no_parts _ _ _ c.new-parts.ensures.items;
  above = λ k less. absurd (omega (arith, less));
  reached = λ some. absurd (omega (arith, some));
}

pub loop-i-preserved : goal.loop-i-preserved
loop-i-preserved c =
    elim c.if-selector-next.branch [
      | then-selector-next+in_ok-part+in_ok-push w ↦ record {
        spends = omega (arith, c.loop-i.invariant.spends, c.pay.ensures.spends, w.limit-is, w.part_of.ensures.spends);
        most = (let part = w.in_ok-part.ensures.most in let paid = c.in_ok-pay.ensures.exact in
            omega (
              arith,
              c.loop-i.invariant.most,
              paid,
              part,
              w.limit-is,
              units_next c.args.table.now (length c.args.chars.now) c.loop-i.i (c.loop-i.i + 1) refl,
            ));
        are = parts_more c.args.table.now c.args.chars.now c.loop-i.i c.loop-i.next c.selector-selector.result _ _ w.in_ok-part.part
            c.loop-i.invariant.are c.loop-i.invariant.above c.selector-selector.ensures.exact w.if-selector-next.true w.in_ok-part.ensures.are
            (ap (λ v. v.items) w.parts-is ∙ w.in_ok-push.ensures.items);
        above = below_next c.args.table.now c.loop-i.i c.loop-i.next c.selector-selector.result _ c.loop-i.invariant.above
            c.selector-selector.ensures.exact w.if-selector-next.true w.next-is;
        reached = λ some. (c.loop-i.i, omega arith, omega (arith, c.selector-selector.ensures.exact, w.next-is));
      }
      | else-selector-next w ↦ record {
        spends = omega (arith, c.loop-i.invariant.spends, c.pay.ensures.spends, w.limit-is);
        most = (let paid = c.in_ok-pay.ensures.exact in
            omega (
              arith,
              c.loop-i.invariant.most,
              paid,
              w.limit-is,
              units_next c.args.table.now (length c.args.chars.now) c.loop-i.i (c.loop-i.i + 1) refl,
            ));
        are = parts_less c.args.table.now c.args.chars.now c.loop-i.i c.loop-i.next c.selector-selector.result _ _
            c.loop-i.invariant.are c.loop-i.invariant.reached c.selector-selector.ensures.exact w.if-selector-next.false
            (ap (λ v. v.items) w.parts-is);
        above = below_same c.args.table.now c.loop-i.i c.loop-i.next c.selector-selector.result _ c.loop-i.invariant.above
            c.selector-selector.ensures.exact w.if-selector-next.false w.next-is;
        reached = λ some. let top = c.loop-i.invariant.reached (omega (arith, some, w.next-is)) in
            (top.0, let less = top.1 in omega (arith, less), let is = top.2 in omega (arith, is, w.next-is));
      }
    ]

pub returns-in_err-pay-clause-lacking : goal.returns-in_err-pay-clause-lacking
returns-in_err-pay-clause-lacking c =
    let error = err_from_is_err_and c.from_residual.result c.from_residual.ensures.1 in
    let all = units_within c.args.table.now (length c.args.chars.now) c.loop-i.i (records_of c.args.table.now)
    (omega (arith, c.loop-i-test.true, c.records-i-end.ensures.exact)) in
    rw (error.1) (λ same. omega (arith, c.loop-i.invariant.most, c.in_err-pay.ensures.lacking, all))

pub returns-in_err-part-clause-lacking : goal.returns-in_err-part-clause-lacking
returns-in_err-part-clause-lacking c =
    let error = err_from_is_err_and c.from_residual-in_err-part.result c.from_residual-in_err-part.ensures.1 in
    let all = units_within c.args.table.now (length c.args.chars.now) c.loop-i.i (records_of c.args.table.now)
    (omega (arith, c.loop-i-test.true, c.records-i-end.ensures.exact)) in
    rw (error.1, error.2) (λ same.
    let lacking = c.in_err-part.ensures.lacking same in
    let paid = c.in_ok-pay.ensures.exact in
    omega (arith, c.loop-i.invariant.most, paid, lacking, all))
