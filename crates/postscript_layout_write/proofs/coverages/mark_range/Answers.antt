use Rattle.std.proofs.Common.{◌||◌, ◌∙◌, ap, Bool, arith}
use Rattle.std.specs.Prelude.{slice_index_or, false}
use Rattle.postscript_layout_write.proofs.Covering.{between-end, between-none}
use Rattle.postscript_layout_write.proofs.coverages.mark_range.Goals as goal

pub returns-then-last-first-clause-exact : goal.returns-then-last-first-clause-exact
returns-then-last-first-clause-exact c = λ x less. between-none c.args.first c.args.last x (slice_index_or c.args.marks.now.items x false) (omega arith)

pub returns-clause-exact : goal.returns-clause-exact
returns-clause-exact c = λ x less. c.loop-glyph.invariant.each x less
    ∙ ap (λ (b : Bool). slice_index_or c.args.marks.now.items x false || b) (between-end c.args.first c.args.last c.loop-glyph.glyph x (omega arith))
