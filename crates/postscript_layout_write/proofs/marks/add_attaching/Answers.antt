use Rattle.std.proofs.Common.{subst, ℕ, List}
use Rattle.postscript_layout_write.specs.Attaching.{HasSecondArray, PutsAttaching}
use Rattle.postscript_layout_write.proofs.MarkWriting.{adds-attaching}
use Rattle.postscript_layout_write.proofs.marks.add_attaching.Goals as goal

pub returns-clause-done : goal.returns-clause-done
returns-clause-done c =
    let gpos = c.args.gpos.now in
    let kept = c.args.kept.now in
    let marks = c.in_ok-marks.marks in
    let others = c.in_ok-others.others in
    adds-attaching c.args.kind gpos c.args.subtable kept marks.glyphs.items others.glyphs.items marks.bytes.items others.bytes.items
    c.args.out.now.items c.put_subtable.new.out.items c.requires.few c.in_ok-marks.ensures.exact
    (subst (λ (xs : List ℕ). HasSecondArray c.args.kind gpos c.args.subtable kept xs others.glyphs.items others.bytes.items) c.deref.ensures.value c.in_ok-others.ensures.exact)
    (subst (λ n. PutsAttaching n marks.glyphs.items others.glyphs.items marks.bytes.items others.bytes.items c.args.out.now.items c.put_subtable.new.out.items)
    c.classes_of-classes.ensures.exact
    (subst (λ (xs : List ℕ). PutsAttaching c.classes_of-classes.result xs others.glyphs.items marks.bytes.items others.bytes.items c.args.out.now.items c.put_subtable.new.out.items)
    c.deref-2.ensures.value
    (subst (λ (xs : List ℕ). PutsAttaching c.classes_of-classes.result c.deref-2.result.now xs marks.bytes.items others.bytes.items c.args.out.now.items c.put_subtable.new.out.items)
    c.deref-3.ensures.value
    (subst (λ (xs : List ℕ). PutsAttaching c.classes_of-classes.result c.deref-2.result.now c.deref-3.result.now xs others.bytes.items c.args.out.now.items c.put_subtable.new.out.items)
    c.deref-4.ensures.value
    (subst (λ (xs : List ℕ). PutsAttaching c.classes_of-classes.result c.deref-2.result.now c.deref-3.result.now c.deref-4.result.now xs c.args.out.now.items c.put_subtable.new.out.items)
    c.deref-5.ensures.value c.in_ok-put_subtable.ensures.done)))))
