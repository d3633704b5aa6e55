use Rattle.std.proofs.Common.{◌≡◌, sym, subst, rules, ◌+◌, ◌*◌, ◌<◌, None, Some, if◌then◌else◌, ℕ}
use Rattle.std.specs.Prelude.{Option}
use Rattle.postscript_layout_write.specs.Ranges.{in_range}
use Rattle.postscript_layout_write.proofs.Firsts.{first-found}
use Rattle.postscript_layout_write.proofs.ranges.range_of.Goals as goal

pub returns-then-glyph-word-clause-exact : goal.returns-then-glyph-word-clause-exact
returns-then-glyph-word-clause-exact c =
    let table = c.args.table.now in
    let f : ℕ → Option ℕ = λ r. if in_range table (c.args.ranges + 4 + r * 6) c.args.glyph then Some (c.args.ranges + 4 + r * 6) else None in
    let here : f c.loop-r.r ≡ Some (c.args.ranges + 4 + c.loop-r.r * 6) = search rules in
    sym (first-found f c.loop-r.r _ _ c.loop-r.invariant.before here (subst (λ n. c.loop-r.r < n) c.word-count.ensures.exact c.loop-r-test.true))
