use Rattle.std.proofs.Common.{subst, sym, Some, Option, ℕ}
use Rattle.std.specs.Prelude.{IfErr, OnOk}
use Rattle.postscript_drawing.specs.Accents.{run_by}
use Rattle.postscript_write.proofs.Accented.{has-run, said-if}
use Rattle.postscript_write.proofs.Stopping.{leaves-all, leaves-if, stops-if}
use Rattle.postscript_write.specs.Stepping.{Leaves, StopsAt}
use Rattle.postscript_write.proofs.components.accent_of.Goals as goal

pub returns-in-None-clause-said : goal.returns-in-None-clause-said
returns-in-None-clause-said c = λ accent is. c.in-None.ensures.none is.has.code is.part is.has.has

pub returns-in-None-clause-leaves : goal.returns-in-None-clause-leaves
returns-in-None-clause-leaves c = leaves-all c.args.font.now c.args.glyph c.args.limit.now c.in-None.ensures.none

pub returns-in-Some-limit-clause-said : goal.returns-in-Some-limit-clause-said
returns-in-Some-limit-clause-said c =
    said-if c.said_within.result c.args.font.now c.args.glyph c.in-Some.found
    (has-run c.args.font.now c.args.glyph c.in-Some.found c.in-Some.ensures.found c.in-Some.ensures.subroutines) c.said_within.ensures.said

pub returns-in-Some-limit-clause-leaves : goal.returns-in-Some-limit-clause-leaves
returns-in-Some-limit-clause-leaves c =
    subst (λ (limit : Option ℕ). OnOk c.said_within.result (Leaves c.args.font.now limit c.args.glyph (Some c.said_within.new.limit)))
    (sym c.in-Some-limit.is)
    (leaves-if c.said_within.result c.args.font.now c.args.glyph c.in-Some-limit.left c.said_within.new.limit c.in-Some.found.part.now
    (run_by c.in-Some.found)
    (has-run c.args.font.now c.args.glyph c.in-Some.found c.in-Some.ensures.found c.in-Some.ensures.subroutines) c.said_within.ensures.paid)

pub returns-in-Some-limit-clause-stops : goal.returns-in-Some-limit-clause-stops
returns-in-Some-limit-clause-stops c =
    subst (λ (limit : Option ℕ). IfErr c.said_within.result (λ e. StopsAt c.args.font.now c.args.glyph limit e)) (sym c.in-Some-limit.is)
    (stops-if c.said_within.result c.args.font.now c.args.glyph c.in-Some-limit.left c.in-Some.found.part.now (run_by c.in-Some.found)
    c.limit_is_cost.ensures.spent
    (has-run c.args.font.now c.args.glyph c.in-Some.found c.in-Some.ensures.found c.in-Some.ensures.subroutines) c.said_within.ensures.stops)

pub returns-in-None-limit-clause-said : goal.returns-in-None-limit-clause-said
returns-in-None-limit-clause-said c =
    said-if c.said_by.result c.args.font.now c.args.glyph c.in-Some.found
    (has-run c.args.font.now c.args.glyph c.in-Some.found c.in-Some.ensures.found c.in-Some.ensures.subroutines) c.said_by.ensures.said
