use Rattle.std.proofs.Common.{◌∙◌, sym, subst, ap, ℕ, ◌+◌, ◌*◌}
use Rattle.postscript_layout.specs.Numbers.{word}
use Rattle.postscript_layout.specs.Substitutions.{SubstitutesGlyph}
use Rattle.postscript_layout.specs.Steps.{Below, Follows, in_range}
use Rattle.postscript_layout.proofs.Cases.{covered-list, covered-ranges}
use Rattle.postscript_layout.proofs.lookups.follow_covered.Goals as goal

pub returns-in_ok-follow_list-in-1-clause-done : goal.returns-in_ok-follow_list-in-1-clause-done
returns-in_ok-follow_list-in-1-clause-done c =
    let gsub = c.args.gsub.now in
    let a = c.args.set.now in
    let b = c.follow_list.new.set in
    let there = c.coverage_of-coverage.ensures.exact in
    covered-list gsub c.args.kind c.args.subtable a b (sym (ap (word gsub) there) ∙ sym c.word.ensures.exact ∙ c.in-1.is)
    (subst (λ (p : ℕ). Follows (Below (λ i. SubstitutesGlyph gsub c.args.kind c.args.subtable i (word gsub (p + 4 + i * 2))) (word gsub (p + 2))) a b)
    there c.in_ok-follow_list-in-1.ensures.done)

pub returns-in_ok-follow_ranges-in-2-clause-done : goal.returns-in_ok-follow_ranges-in-2-clause-done
returns-in_ok-follow_ranges-in-2-clause-done c =
    let gsub = c.args.gsub.now in
    let a = c.args.set.now in
    let b = c.follow_ranges.new.set in
    let there = c.coverage_of-coverage.ensures.exact in
    covered-ranges gsub c.args.kind c.args.subtable a b (sym (ap (word gsub) there) ∙ sym c.word.ensures.exact ∙ c.in-2.is)
    (subst (λ (p : ℕ). Follows (Below (λ r. in_range gsub c.args.kind c.args.subtable (p + 4 + r * 6)) (word gsub (p + 2))) a b)
    there c.in_ok-follow_ranges-in-2.ensures.done)
