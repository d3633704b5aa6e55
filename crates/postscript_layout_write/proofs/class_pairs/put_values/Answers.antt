use Rattle.std.proofs.Common.{◌∙◌, arith, length}
use Rattle.std.proofs.lemmas.Grind.{get_or_default_zero}
use Rattle.postscript_layout_write.proofs.ClassCollecting.{in-lines, puts-more}
use Rattle.postscript_layout_write.proofs.class_pairs.put_values.Goals as goal

pub loop-class-preserved : goal.loop-class-preserved
loop-class-preserved c =
    let columns = c.args.columns.now in
    let full = columns.full c.requires.open in
    let inside = in-lines c.loop-class.class (length columns.keys.items) columns.width c.args.r (omega (arith, c.loop-class-test.true, c.len-class-end.ensures)) c.requires.within in
    puts-more columns c.args.r c.loop-class.class c.args.values.now.items c.loop-class.values.items c.push.new.self.items _
    (c.index.ensures ∙ get_or_default_zero columns.cells.items _ _ (omega (arith, inside, full))) c.in_ok-push.ensures.items c.loop-class.invariant
