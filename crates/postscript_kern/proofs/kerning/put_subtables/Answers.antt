use Rattle.std.proofs.Common.{◌≡◌, ◌+◌, refl, ap, ℕ, rules, subst, arith}
use Rattle.std.proofs.lemmas.Result.{err_from_is_err_and}
use Rattle.postscript_kern.specs.Kept.{AreKept}
use Rattle.postscript_kern.specs.Pairs.{count_of}
use Rattle.postscript_kern.specs.Units.{pairs_at, subtable_units}
use Rattle.postscript_kern.proofs.Listing.{next-at, none-so-far, so-far}
use Rattle.postscript_kern.proofs.Spending.{total_next, total_none, total_within}
use Rattle.postscript_kern.proofs.kerning.put_subtables.Goals as goal
use Rattle.postscript_kern.proofs.kerning.put_subtables.Goals.{else-branch, then-branch}

pub loop-i-init : goal.loop-i-init
loop-i-init c = record {
  here = search rules;
  near = omega arith;
  so_far = none-so-far c.args.table.now c.args.kept.now c.args.out.now.items c.requires.empty;
  few = omega arith;
  spends = search rules;
  paid = omega (arith, total_none (subtable_units c.args.table.now));
}

pub loop-i-preserved : goal.loop-i-preserved
loop-i-preserved c =
    let before = c.loop-i.invariant in
    let step = so-far c.args.table.now c.args.kept.now c.loop-i.out.items c.add.new.out.items c.loop-i._i c.loop-i.count c.if-branch.count
    c.loop-i.at c.in_ok-add.field-0 before.here before.so_far in
    let word = c.word-at.ensures.small in
    record {
      here = next-at c.args.table.now c.loop-i._i c.loop-i.at c.word-at.result before.here c.word-at.ensures.exact;
      near = omega (arith, word);
      so_far = elim c.if-branch.branch [
        | then-branch w ↦ step (λ yes. w.count-is) (λ no. let is = w.if-branch.true in absurd (cc)) c.in_ok-add.ensures.added
        | else-branch w ↦ step (λ yes. let is = w.if-branch.false in absurd (cc)) (λ no. w.count-is) c.in_ok-add.ensures.added
      ];
      few = elim c.if-branch.branch [
        | then-branch w ↦ (let is = w.count-is in omega (arith, is))
        | else-branch w ↦ (let is = w.count-is in omega (arith, is))
      ];
      spends = omega arith;
      paid = (let next = total_next (subtable_units c.args.table.now) c.loop-i._i (c.loop-i._i + 1) refl in
          let pairs = ap (pairs_at c.args.table.now) before.here in let one = c.in_ok-pay.ensures.paid in
          let rest = c.in_ok-add.ensures.paid in omega (arith, before.paid, one, rest, next, pairs));
    }

pub returns-clause-put : goal.returns-clause-put
returns-clause-put c =
    let done = c.loop-i.invariant.so_far in
    let all : c.loop-i._i ≡ count_of c.args.table.now = omega (arith, c.count_of-i-end.ensures.exact) in (
      done.subtables,
      subst (λ (n : ℕ). AreKept c.args.table.now c.args.kept.now n done.subtables) all done.are,
      done.written,
      done.counted,
    )

pub returns-in_err-pay-clause-lacking : goal.returns-in_err-pay-clause-lacking
returns-in_err-pay-clause-lacking c =
    let error = err_from_is_err_and c.from_residual-in_err-pay.result c.from_residual-in_err-pay.ensures.1 in
    let all = total_within (subtable_units c.args.table.now) _ _ _ c.count_of-i-end.ensures.exact c.loop-i-test.true in
    rw (error.1) (λ same. omega (arith, c.loop-i.invariant.paid, c.in_err-pay.ensures.lacking, all))

pub returns-in_err-add-clause-lacking : goal.returns-in_err-add-clause-lacking
returns-in_err-add-clause-lacking c =
    let error = err_from_is_err_and c.from_residual-in_err-add.result c.from_residual-in_err-add.ensures.1 in
    let all = total_within (subtable_units c.args.table.now) _ _ _ c.count_of-i-end.ensures.exact c.loop-i-test.true in
    let pairs = ap (pairs_at c.args.table.now) c.loop-i.invariant.here in
    let one = c.in_ok-pay.ensures.paid in
    rw (error.1, error.2) (λ same.
    let lacking = c.in_err-add.ensures.lacking same in omega (arith, c.loop-i.invariant.paid, one, pairs, lacking, all))

pub returns-in_err-pay-clause-most : goal.returns-in_err-pay-clause-most
returns-in_err-pay-clause-most c =
    let all = total_within (subtable_units c.args.table.now) _ _ _ c.count_of-i-end.ensures.exact c.loop-i-test.true in
    omega (arith, c.loop-i.invariant.paid, c.in_err-pay.ensures.lacking, all)

pub returns-in_err-add-clause-most : goal.returns-in_err-add-clause-most
returns-in_err-add-clause-most c =
    let all = total_within (subtable_units c.args.table.now) _ _ _ c.count_of-i-end.ensures.exact c.loop-i-test.true in
    let pairs = ap (pairs_at c.args.table.now) c.loop-i.invariant.here in
    let one = c.in_ok-pay.ensures.paid in
    omega (arith, c.loop-i.invariant.paid, one, pairs, c.in_err-add.ensures.most, all)
