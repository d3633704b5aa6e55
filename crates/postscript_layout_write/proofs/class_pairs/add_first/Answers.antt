use Rattle.std.proofs.Common.{subst, ℕ, List}
use Rattle.std.specs.Prelude.{IfSome, slice_index}
use Rattle.postscript_layout_write.specs.ClassPairs.{AreAdvances}
use Rattle.postscript_layout_write.specs.Lines.{AddsLine}
use Rattle.postscript_layout_write.proofs.class_pairs.add_first.Goals as goal

pub returns-in_ok-add-in-Some-clause-added : goal.returns-in_ok-add-in-Some-clause-added
returns-in_ok-add-in-Some-clause-added c = λ is-open f are. (
    let advances = subst (λ found. IfSome found (λ line. AreAdvances c.args.entries.now c.args.rows.now.width line.items)) c.in-Some.is c.in_ok-line.ensures.exact in
    record {
      line = λ k. slice_index c.in-Some.line.items k;
      adds = subst (λ (xs : List ℕ). AddsLine (λ k. slice_index xs k) c.args.rows.now c.add.new.self) c.deref.ensures.value (c.in_ok-add-in-Some.ensures.added is-open);
      is = advances.each f are;
    })
