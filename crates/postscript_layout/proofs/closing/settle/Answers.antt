use Rattle.std.proofs.Common.{refl, arith}
use Rattle.postscript_layout.proofs.Costs.{if-err}
use Rattle.postscript_layout.proofs.Listing.{reaches-more, settles}
use Rattle.postscript_layout.proofs.Rounds.{rounds-as, rounds-more, too-low}
use Rattle.postscript_layout.proofs.closing.settle.Goals as goal

pub loop-limit-preserved : goal.loop-limit-preserved
loop-limit-preserved c =
    let gsub = c.args.gsub.now in
    let lookups = c.args.lookups.now in
    let a = c.args.set.now in
    let b = c.loop-limit.set in
    let d = c.follow_each.new.set in
    let limit = c.args.limit.now in
    let followed = c.in_ok-follow_each.ensures.done in
    let reaches = reaches-more gsub lookups a b _ d c.loop-limit.invariant.reaches refl followed in
    record {
      reaches = reaches;
      spent = omega (arith, c.pay.ensures.spends, c.follow_each.ensures.spends, c.loop-limit.invariant.spent);
      rounds = rounds-more gsub lookups a _ d limit c.loop-limit.limit c.follow_each.new.limit
          (rounds-as gsub lookups a b _ limit c.loop-limit.limit c.loop-limit.invariant.rounds refl) reaches refl followed c.if-not-set.false
          (omega (arith, c.in_ok-pay.ensures.paid, c.in_ok-follow_each.ensures.within));
    }

pub returns-in_err-follow_each-clause-low : goal.returns-in_err-follow_each-clause-low
returns-in_err-follow_each-clause-low c =
    if-err c.from_residual-in_err-follow_each.result c.in_err-follow_each.field-0.0 _ c.from_residual-in_err-follow_each.ensures.1
    (too-low c.args.gsub.now c.args.lookups.now c.args.set.now c.loop-limit.set c.args.limit.now c.loop-limit.limit c.loop-limit.invariant.rounds
    (let short = c.in_err-follow_each.ensures.why.short in omega (arith, c.in_ok-pay.ensures.paid, short)))

pub returns-clause-low : goal.returns-clause-low
returns-clause-low c =
    too-low c.args.gsub.now c.args.lookups.now c.args.set.now c.loop-limit.set c.args.limit.now c.loop-limit.limit c.loop-limit.invariant.rounds
    (omega (arith, c.loop-limit-test.false))

pub returns-then-not-set-clause-done : goal.returns-then-not-set-clause-done
returns-then-not-set-clause-done c =
    let gsub = c.args.gsub.now in
    let lookups = c.args.lookups.now in
    let a = c.args.set.now in
    let b = c.loop-limit.set in
    let d = c.follow_each.new.set in
    settles gsub lookups a _ d (reaches-more gsub lookups a b _ d c.loop-limit.invariant.reaches refl c.in_ok-follow_each.ensures.done)
    c.in_ok-follow_each.ensures.done c.if-not-set.true
