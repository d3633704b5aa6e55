use Rattle.std.proofs.Common.{◌∙◌, arith}
use Rattle.std.proofs.lemmas.List.{length-set}
use Rattle.postscript_layout_write.proofs.ClassCollecting.{advances-are, entry-done, entry-right}
use Rattle.postscript_layout_write.proofs.class_pairs.advances_of.Goals as goal

pub loop-entry-preserved : goal.loop-entry-preserved
loop-entry-preserved c =
    let entries = c.args.entries.now in
    let width = c.args.width in
    let line = c.loop-entry.line.items in
    let i = c.loop-entry.entry-index in
    let before = c.loop-entry.invariant in
    record {
      long = length-set line _ _ ∙ before.long;
      done = λ f are. entry-done f entries width line i _ are c.loop-entry-test.true before.long (c.has_form.ensures.yes c.if-not-has_form.false) (before.done f are);
      right = λ f are y. entry-right f entries width line i _ are c.loop-entry-test.true before.long (c.has_form.ensures.yes c.if-not-has_form.false) y (before.right f are y);
    }

pub returns-clause-exact : goal.returns-clause-exact
returns-clause-exact c =
    let over = c.loop-entry-test.false in
    advances-are c.args.entries.now c.args.width c.loop-entry.line.items c.loop-entry.invariant.long
    (λ f are j d less. c.loop-entry.invariant.done f are j d (omega (arith, less, over))) c.loop-entry.invariant.right
