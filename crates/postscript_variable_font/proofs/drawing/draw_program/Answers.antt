use Rattle.std.proofs.lemmas.Result.{err_from_is_err_and}
use Rattle.std.proofs.Common.{◌≡◌, [], ◌∷◌, Ok, ap, ◌∙◌, refl, rules, subst}
use Rattle.postscript_drawing.specs.Operators.{strokes}
use Rattle.postscript_drawing.specs.Outline.{outlined_at}
use Rattle.postscript_drawing.specs.Undrawn.{error_of}
use Rattle.postscript_drawing.specs.declared.error.Error.TheVariants as errors
use Rattle.postscript_drawing.proofs.DrawsLaws.{at_first, so_more, so_refused}
use Rattle.postscript_drawing.proofs.ProgramLaws.{drawn-whole, first-of-refused, first-so-far, front-of-first, front-so-far, full-at-end, full-of-refused, if-err, on-err, stroke-refused, strokes_of, with-err}
use Rattle.postscript_variable_font.proofs.Steps.{at-end, step-refused}
use Rattle.postscript_variable_font.proofs.Spending.{no-pause, on-operation, on-end, on-pause, on-refusal}
use Rattle.postscript_variable_font.proofs.drawing.draw_program.Goals as goal
use Rattle.postscript_variable.specs.Limit.{nothing}
use Rattle.postscript_type2.specs.Program.Runs.{Answer, End}
use Rattle.postscript_variable.specs.Meaning.{answer as the_answer}

pub loop-operator-init : goal.loop-operator-init
loop-operator-init g c = record { far = at_first; end = refl; spends = nothing }

pub loop-operator-preserved : goal.loop-operator-preserved
loop-operator-preserved g c =
    let rest = c.step_within.follows.lender-at-none in
    let answer : Answer = the_answer c.in-Operation.operator c.in-Operation.operands.now in
    let left : c.loop-operator.program.answers ≡ answer ∷ rest.answers = search rules in
    record {
      far = so_more (strokes c.in-Operation.operator c.in-Operation.operands.now) (strokes_of rest.answers)
          (ap strokes_of left) c.loop-operator.invariant.far c.in_ok-draw_path-in-Operation.ensures;
      end = search rules;
      spends = on-operation c.loop-operator.program rest
          (c.in_ok-operator.was ∙ ap Ok c.in-Operation.is) c.step_within.follows.holds-at-none c.loop-operator.invariant.spends;
    }

-- the program is refused

pub returns-in_err-operator-clause-why : goal.returns-in_err-operator-clause-why
returns-in_err-operator-clause-why g c =
    let program = c.args.program.now in
    if-err c.from_residual.result (errors.Font c.in_err-operator.field-0.0) _ c.from_residual.ensures.1
    (step-refused program.answers program.end c.step_within.new.limit c.loop-operator.program c.in_err-operator.field-0.0
    c.in_err-operator.was c.step_within.ensures.head c.loop-operator.invariant.end c.loop-operator.invariant.far)

pub returns-in_err-operator-clause-front : goal.returns-in_err-operator-clause-front
returns-in_err-operator-clause-front g c =
    on-err c.from_residual.result (front-so-far c.args.program.now.answers c.loop-operator.invariant.far refl)

pub returns-in_err-operator-clause-given : goal.returns-in_err-operator-clause-given
returns-in_err-operator-clause-given g c =
    on-err c.from_residual.result (first-so-far c.args.program.now.answers c.loop-operator.invariant.far refl)

pub returns-in_err-operator-clause-spends : goal.returns-in_err-operator-clause-spends
returns-in_err-operator-clause-spends g c =
    let error = err_from_is_err_and c.from_residual.result c.from_residual.ensures.1 in
    rw error.1 (on-refusal c.loop-operator.program c.step_within.follows.lender-at-none c.in_err-operator.was
    c.step_within.follows.holds-at-none c.loop-operator.invariant.spends)

-- an operation is not drawn

pub returns-in_err-draw_path-in-Operation-clause-why : goal.returns-in_err-draw_path-in-Operation-clause-why
returns-in_err-draw_path-in-Operation-clause-why g c =
    let program = c.args.program.now in
    let rest = c.step_within.follows.lender-at-none in
    let answer : Answer = the_answer c.in-Operation.operator c.in-Operation.operands.now in
    let left : c.loop-operator.program.answers ≡ answer ∷ rest.answers = search rules in
    let e = c.in_err-draw_path-in-Operation.field-0.0 in
    let back = c.from_residual-in_err-draw_path-in-Operation in
    if-err back.result (error_of e) _ back.ensures.1
    (stroke-refused program.answers program.end _ e
    (so_refused (strokes c.in-Operation.operator c.in-Operation.operands.now) (strokes_of rest.answers)
    (ap strokes_of left) c.loop-operator.invariant.far c.in_err-draw_path-in-Operation.ensures))

pub returns-in_err-draw_path-in-Operation-clause-given : goal.returns-in_err-draw_path-in-Operation-clause-given
returns-in_err-draw_path-in-Operation-clause-given g c =
    let rest = c.step_within.follows.lender-at-none in
    let answer : Answer = the_answer c.in-Operation.operator c.in-Operation.operands.now in
    let left : c.loop-operator.program.answers ≡ answer ∷ rest.answers = search rules in
    on-err c.from_residual-in_err-draw_path-in-Operation.result
    (first-of-refused c.args.program.now.answers
    (so_refused (strokes c.in-Operation.operator c.in-Operation.operands.now) (strokes_of rest.answers)
    (ap strokes_of left) c.loop-operator.invariant.far c.in_err-draw_path-in-Operation.ensures))

pub returns-in_err-draw_path-in-Operation-clause-front : goal.returns-in_err-draw_path-in-Operation-clause-front
returns-in_err-draw_path-in-Operation-clause-front g c =
    with-err c.from_residual-in_err-draw_path-in-Operation.result (front-of-first c.args.program.now.answers)
    (returns-in_err-draw_path-in-Operation-clause-given g c)

pub returns-in_err-draw_path-in-Operation-clause-more : goal.returns-in_err-draw_path-in-Operation-clause-more
returns-in_err-draw_path-in-Operation-clause-more g c = λ full.
    let rest = c.step_within.follows.lender-at-none in
    let answer : Answer = the_answer c.in-Operation.operator c.in-Operation.operands.now in
    let left : c.loop-operator.program.answers ≡ answer ∷ rest.answers = search rules in
    let back = c.from_residual-in_err-draw_path-in-Operation in
    full-of-refused c.args.program.now.answers back.result c.in_err-draw_path-in-Operation.field-0.0 back.ensures.1 full
    (so_refused (strokes c.in-Operation.operator c.in-Operation.operands.now) (strokes_of rest.answers)
    (ap strokes_of left) c.loop-operator.invariant.far c.in_err-draw_path-in-Operation.ensures)

pub returns-in_err-draw_path-in-Operation-clause-spends : goal.returns-in_err-draw_path-in-Operation-clause-spends
returns-in_err-draw_path-in-Operation-clause-spends g c =
    let rest = c.step_within.follows.lender-at-none in
    let error = err_from_is_err_and c.from_residual-in_err-draw_path-in-Operation.result
    c.from_residual-in_err-draw_path-in-Operation.ensures.1 in
    rw error.1 (
      rest.costs,
      on-operation c.loop-operator.program rest
          (c.in_ok-operator.was ∙ ap Ok c.in-Operation.is) c.step_within.follows.holds-at-none c.loop-operator.invariant.spends,
    )

-- the program is at its end

pub returns-in_err-end-in-End-clause-front : goal.returns-in_err-end-in-End-clause-front
returns-in_err-end-in-End-clause-front g c =
    on-err c.from_residual-in_err-end-in-End.result
    (front-so-far c.args.program.now.answers c.loop-operator.invariant.far c.in_err-end-in-End.ensures.full)

pub returns-in_err-end-in-End-clause-given : goal.returns-in_err-end-in-End-clause-given
returns-in_err-end-in-End-clause-given g c =
    on-err c.from_residual-in_err-end-in-End.result
    (first-so-far c.args.program.now.answers c.loop-operator.invariant.far c.in_err-end-in-End.ensures.full)

pub returns-in_err-end-in-End-clause-more : goal.returns-in_err-end-in-End-clause-more
returns-in_err-end-in-End-clause-more g c = λ full.
    let left = c.loop-operator.program in
    let end = at-end left c.step_within.follows.lender-at-none _ _
    (c.in_ok-operator.was ∙ ap Ok c.in-End.is) c.step_within.follows.holds-at-none in
    full-at-end c.args.program.now.answers left.answers end.0 c.loop-operator.invariant.far c.in_err-end-in-End.ensures.full
    c.in_err-end-in-End.ensures.open

pub returns-in_err-end-in-End-clause-spends : goal.returns-in_err-end-in-End-clause-spends
returns-in_err-end-in-End-clause-spends g c =
    let error = err_from_is_err_and c.from_residual-in_err-end-in-End.result c.from_residual-in_err-end-in-End.ensures.1 in
    rw error.1 (
      [],
      on-end c.loop-operator.program c.step_within.follows.lender-at-none
          (c.in_ok-operator.was ∙ ap Ok c.in-End.is) c.step_within.follows.holds-at-none c.loop-operator.invariant.spends,
    )

pub returns-in-End-clause-drawn : goal.returns-in-End-clause-drawn
returns-in-End-clause-drawn g c =
    let program = c.args.program.now in
    let left = c.loop-operator.program in
    let end = at-end left c.step_within.follows.lender-at-none _ _
    (c.in_ok-operator.was ∙ ap Ok c.in-End.is) c.step_within.follows.holds-at-none in
    let whole = drawn-whole c.loop-operator.pen program.answers left.answers left.end end.1 end.0 c.loop-operator.invariant.far
    c.in_ok-end-in-End.ensures.ended in
    record {
      segments =
          whole.0;
      drawn = subst (λ (v : End). outlined_at c.args.origin program.answers v ≡ Ok whole.0) c.loop-operator.invariant.end
          whole.1;
      taken = whole.2;
    }

pub returns-in-End-clause-spends : goal.returns-in-End-clause-spends
returns-in-End-clause-spends g c =
    on-end c.loop-operator.program c.step_within.follows.lender-at-none
    (c.in_ok-operator.was ∙ ap Ok c.in-End.is) c.step_within.follows.holds-at-none c.loop-operator.invariant.spends

-- the limit is used up

pub returns-in-Paused-clause-front : goal.returns-in-Paused-clause-front
returns-in-Paused-clause-front g c = front-so-far c.args.program.now.answers c.loop-operator.invariant.far refl

pub returns-in-Paused-clause-given : goal.returns-in-Paused-clause-given
returns-in-Paused-clause-given g c = first-so-far c.args.program.now.answers c.loop-operator.invariant.far refl

pub returns-in-Paused-clause-spends : goal.returns-in-Paused-clause-spends
returns-in-Paused-clause-spends g c =
    on-pause c.loop-operator.program c.step_within.follows.lender-at-none
    (c.in_ok-operator.was ∙ ap Ok c.in-Paused.is) c.step_within.follows.holds-at-none c.loop-operator.invariant.spends

pub returns-in-Paused-clause-suffices : goal.returns-in-Paused-clause-suffices
returns-in-Paused-clause-suffices g c = λ less _.
    no-pause c.loop-operator.program c.step_within.follows.lender-at-none c.step_within.new.limit
    (c.in_ok-operator.was ∙ ap Ok c.in-Paused.is) c.step_within.follows.holds-at-none c.loop-operator.invariant.spends less
