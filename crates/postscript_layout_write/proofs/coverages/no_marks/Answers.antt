use Rattle.postscript_layout_write.proofs.coverages.no_marks.Goals as goal

pub returns-clause-none : goal.returns-clause-none
returns-clause-none c = record { many = c.in_ok-marks.ensures.many; each = λ glyph _. c.in_ok-marks.ensures.none glyph }
