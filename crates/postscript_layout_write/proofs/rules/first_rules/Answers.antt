use Rattle.std.proofs.Common.{◌<◌, ◌++◌, ◌∙◌, ℕ, ap, sym, subst, List}
use Rattle.std.specs.Prelude.{Option}
use Rattle.postscript_layout_write.specs.Renumbering.{kept_rules}
use Rattle.postscript_layout_write.specs.Rules.{or_none, part_at, rules_in}
use Rattle.postscript_layout_write.proofs.RuleRows.{first-there}
use Rattle.postscript_layout_write.proofs.rules.first_rules.Goals as goal

pub returns-then-branch-clause-exact : goal.returns-then-branch-clause-exact
returns-then-branch-clause-exact c =
    let gsub = c.args.gsub.now in
    let kept = c.args.kept.now in
    let kind = c.args.kind in
    let j = c.loop-j.j in
    let f : ℕ → Option (List (List ℕ)) = λ j. rules_in gsub kind (part_at gsub c.args.lookup kind j) c.args.glyph in
    let less = subst (λ n. j < n) c.word-count.ensures.exact c.loop-j-test.true in
    c.in_ok-add_part.ensures.added
    ∙ ap (λ xs. xs ++ kept_rules kept (or_none (f j))) c.loop-j.invariant.none
    ∙ ap (kept_rules kept) (first-there f j _ c.loop-j.invariant.before (sym c.in_ok-add_part.ensures.there ∙ c.if-branch.true) less)
