use Rattle.std.proofs.Common.{◌≤◌, ◌<◌, subst, ℕ, List, length, arith}
use Rattle.std.specs.List.{Contains}
use Rattle.std.proofs.lemmas.List.{take_all}
use Rattle.postscript_layout_write.specs.Reaching.{AddsOnly}
use Rattle.postscript_layout_write.proofs.Reaching.{take-step}
use Rattle.postscript_layout_write.proofs.called.Lookups.add_all.Goals as goal

pub loop-lookup-preserved : goal.loop-lookup-preserved
loop-lookup-preserved c =
    let lookups = c.args.lookups.now in
    let k = c.loop-lookup.lookup-index in
    let less : k < length lookups = omega arith in
    record {
      added = take-step lookups k _ _ _ less c.loop-lookup.invariant.added c.in_ok-add.ensures.added;
      spent = omega (arith, c.pay.ensures.spends, c.loop-lookup.invariant.spent);
    }

pub returns-clause-added : goal.returns-clause-added
returns-clause-added c =
    let past : length c.args.lookups.now ≤ c.loop-lookup.lookup-index = omega arith in
    subst (λ (xs : List ℕ). AddsOnly (λ m. Contains xs m) c.args.self.now.lookups.items c.loop-lookup.self.lookups.items)
    (take_all c.loop-lookup.lookup-index c.args.lookups.now past) c.loop-lookup.invariant.added
