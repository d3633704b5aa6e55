use Rattle.std.proofs.Common.{subst, ℕ, ◌+◌}
use Rattle.postscript_layout.specs.Numbers.{word}
use Rattle.postscript_layout.specs.Substitutions.{part_of}
use Rattle.postscript_layout.specs.Steps.{Below, Follows, joins}
use Rattle.postscript_layout.proofs.Cases.{follows-ligatures}
use Rattle.postscript_layout.proofs.substitutions.follow_ligatures.Goals as goal

pub returns-clause-done : goal.returns-clause-done
returns-clause-done c =
    let gsub = c.args.gsub.now in
    let a = c.args.set.now in
    let b = c.join_each.new.set in
    let there = c.has_offset.ensures.yes c.if-not-has_offset.false in
    follows-ligatures gsub c.args.subtable c.args.i c.args.glyph a b there.0 there.1
    (subst (λ (p : ℕ). Follows (Below (λ k. joins gsub c.args.glyph (part_of gsub p (p + 2) k)) (word gsub p)) a b)
    c.part_of-offset.ensures.exact c.in_ok-join_each.ensures.done)
