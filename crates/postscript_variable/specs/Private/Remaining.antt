-- The remaining run of a program.
use Rattle.std.specs.Prelude.{ℕ, zero, suc, ◌+◌, ℤ, nat_lt, List, [], ◌∷◌, take, drop, length, if◌then◌else◌}
use Rattle.postscript_base.specs.Refusal.{too_deep, overflow}
use Rattle.postscript_variable.specs.State.{Font, State, stack_limit, pushed, Effect, Keeps, Clears, Calls, Refuses}
use Rattle.postscript_variable.specs.Evaluation.{Run, at_end, with_step, with_answer, followed, after_call, mean}
use Rattle.postscript_variable.specs.Meaning.{Stopped}
use Rattle.postscript_variable.specs.Sayings.{said}

-- The run of a subroutine, continued through the rests of its callers, the innermost first. `left` is the number of calls that may still
-- nest in the subroutine.
abbrev pub through : Font → (left : ℕ) → (callers : List (List ℕ)) → Run → Run
through font left [] run = run
through font left (rest ∷ callers) run = through font (suc left) callers (followed run (after_call (λ st. mean font (suc left) rest st)))

-- the remaining run from a rest, the rests of its callers, and a state
abbrev pub still : Font → (left : ℕ) → (rest : List ℕ) → (callers : List (List ℕ)) → State → Run
still font left rest callers st = through font left callers (mean font left rest st)

-- The same after a number, or after an operator with its effect. `behind` are the bytes after it, and `cost` is its cost without a mask.
abbrev pub still_number : Font → (left : ℕ) → (behind : List ℕ) → (callers : List (List ℕ)) → State → (cost : ℕ) → ℤ → Run
still_number font left behind callers st cost x =
    if nat_lt (length st.stack) stack_limit then with_step cost (still font left behind callers (pushed x st))
    else at_end (Stopped overflow)

abbrev pub still_moved : Font → (left : ℕ) → (behind : List ℕ) → (callers : List (List ℕ)) → (stack : List ℤ) → (cost : ℕ) → Effect → Run
still_moved font left behind callers stack cost (Keeps st) = with_step cost (still font left behind callers st)
still_moved font left behind callers stack cost (Clears op taken st mask) =
    with_step (cost + mask) (with_answer (said op stack taken (take mask behind)) (still font left (drop mask behind) callers st))
still_moved font zero behind callers stack cost (Calls routine st) = at_end (Stopped too_deep)
still_moved font (suc left) behind callers stack cost (Calls routine st) = with_step cost (still font left routine (behind ∷ callers) st)
still_moved font left behind callers stack cost (Refuses e) = at_end (Stopped e)
