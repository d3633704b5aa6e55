use Rattle.std.proofs.Common.{◌≡◌, sym, subst, rules, ◌+◌, ◌*◌, ◌==◌, ◌<◌, None, Some, if◌then◌else◌, ℕ}
use Rattle.std.specs.Prelude.{Option}
use Rattle.postscript_layout.specs.Numbers.{word}
use Rattle.postscript_layout_write.proofs.Firsts.{first-found}
use Rattle.postscript_layout_write.proofs.ranges.list_index.Goals as goal

pub returns-then-word-glyph-clause-exact : goal.returns-then-word-glyph-clause-exact
returns-then-word-glyph-clause-exact c =
    let table = c.args.table.now in
    let f : ℕ → Option ℕ = λ i. if word table (c.args.coverage + 4 + i * 2) == c.args.glyph then Some i else None in
    let here : f c.loop-i.i ≡ Some c.loop-i.i = search rules in
    sym (first-found f c.loop-i.i _ _ c.loop-i.invariant.before here (subst (λ n. c.loop-i.i < n) c.word-count.ensures.exact c.loop-i-test.true))
