use Rattle.std.proofs.Common.{◌≡◌, sym, subst, ap, ◌<◌, ◌∙◌, Some, ℕ}
use Rattle.std.specs.Prelude.{Option}
use Rattle.postscript_layout_write.specs.Pairs.{by_part, or_nothing, pairs_at}
use Rattle.postscript_layout_write.specs.declared.values.Adjustment.{Adjustment}
use Rattle.postscript_layout_write.proofs.Firsts.{first-found}
use Rattle.postscript_layout_write.proofs.lookups.by_lookup.Goals as goal

pub returns-in-Some-clause-exact : goal.returns-in-Some-clause-exact
returns-in-Some-clause-exact c =
    let gpos = c.args.gpos.now in
    let f : ℕ → Option Adjustment = λ j. by_part gpos (pairs_at gpos c.args.lookup j) c.args.first c.args.second in
    let here : f c.loop-j.j ≡ Some c.in-Some.adjustment = sym c.in_ok-found.ensures.exact ∙ c.in-Some.is in
    sym (ap or_nothing (first-found f c.loop-j.j _ _ c.loop-j.invariant.before here (subst (λ n. c.loop-j.j < n) c.requires.exact.many c.loop-j-test.true)))
