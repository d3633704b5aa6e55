use Rattle.std.proofs.Common.{◌≡◌, sym, subst, rules, ◌+◌, ◌*◌, ◌==◌, ◌<◌, None, Some, if◌then◌else◌, ℕ}
use Rattle.std.specs.Prelude.{Option}
use Rattle.postscript_layout.specs.Numbers.{word}
use Rattle.postscript_layout_write.proofs.Firsts.{first-found}
use Rattle.postscript_layout_write.proofs.pairs.listed_pair.Goals as goal

pub returns-then-word-second-clause-exact : goal.returns-then-word-second-clause-exact
returns-then-word-second-clause-exact c =
    let gpos = c.args.gpos.now in
    let f : ℕ → Option ℕ = λ r. if word gpos (c.args.set + 2 + r * c.args.size) == c.args.second then Some (c.args.set + 2 + r * c.args.size + 2) else None in
    let here : f c.loop-r.r ≡ Some (c.args.set + 2 + c.loop-r.r * c.args.size + 2) = search rules in
    sym (first-found f c.loop-r.r _ _ c.loop-r.invariant.before here (subst (λ n. c.loop-r.r < n) c.word-count.ensures.exact c.loop-r-test.true))
