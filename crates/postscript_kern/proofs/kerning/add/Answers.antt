use Rattle.std.proofs.Common.{arith, rules, subst, ℕ, length}
use Rattle.postscript_kern.specs.Kept.{IsKept}
use Rattle.postscript_kern.specs.Written.{PutsSubtable, added, nothing}
use Rattle.postscript_kern.proofs.Collecting.{none-of, some-of}
use Rattle.postscript_kern.proofs.Spending.{pairs_absent}
use Rattle.postscript_kern.proofs.kerning.add.Goals as goal

pub returns-then-not-has_pairs-clause-added : goal.returns-then-not-has_pairs-clause-added
returns-then-not-has_pairs-clause-added c =
    nothing (λ has. let yes = c.has_pairs.ensures.1 has in let no = c.if-not-has_pairs.true in absurd (cc))

pub returns-then-not-has_pairs-clause-paid : goal.returns-then-not-has_pairs-clause-paid
returns-then-not-has_pairs-clause-paid c =
    let none = pairs_absent c.args.table.now c.args.at (λ has. let yes = c.has_pairs.ensures.1 has in let no = c.if-not-has_pairs.true in absurd (cc)) in
    omega (arith, none)

pub returns-then-is_empty-clause-added : goal.returns-then-is_empty-clause-added
returns-then-is_empty-clause-added c =
    let empty = none-of c.in_ok-pairs.pairs.entries (c.is_empty.ensures.0 c.if-is_empty.true) in
    nothing (λ has. subst (IsKept c.args.table.now c.args.kept.now c.args.at) empty c.in_ok-pairs.ensures.exact)

pub returns-clause-added : goal.returns-clause-added
returns-clause-added c =
    let pairs = c.in_ok-pairs.pairs.entries in
    added pairs c.put_subtable.new.out.items (c.has_pairs.ensures.0 (search rules)) c.in_ok-pairs.ensures.exact
    (some-of (length pairs) c.is_empty.result c.is_empty.ensures.1 c.if-is_empty.false) c.in_ok-pairs.ensures.few
    (subst (λ (n : ℕ). PutsSubtable n pairs c.args.out.now.items c.put_subtable.new.out.items) c.word.ensures.exact c.in_ok-put_subtable.ensures.put)
