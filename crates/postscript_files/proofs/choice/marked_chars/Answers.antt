use Rattle.std.proofs.Common.{◌≡◌, ◌+◌, List, Bool, length, subst, sym, arith}
use Rattle.postscript_files.proofs.Marking.{AreMarkedTo, marked-all, marked-more, marked-none}
use Rattle.postscript_files.proofs.choice.marked_chars.Goals as goal

pub loop-char-init : goal.loop-char-init
loop-char-init c =
    marked-none c.args.chars.now c.args.count c.in_ok-marks.marks.items c.in_ok-marks.ensures.many c.in_ok-marks.ensures.none

pub loop-char-preserved : goal.loop-char-preserved
loop-char-preserved c =
    subst (λ (ms : List Bool). AreMarkedTo c.args.chars.now (c.loop-char.char-index + 1) c.args.count ms) (sym c.set.ensures)
    (marked-more c.args.chars.now c.loop-char.char-index c.args.count c.loop-char.marks.items c.loop-char-test.true c.loop-char.invariant)

pub returns-clause-marks : goal.returns-clause-marks
returns-clause-marks c =
    let e : c.loop-char.char-index ≡ length c.args.chars.now = omega arith in
    marked-all c.args.chars.now c.args.count c.loop-char.marks.items
    (subst (λ i. AreMarkedTo c.args.chars.now i c.args.count c.loop-char.marks.items) e c.loop-char.invariant)
