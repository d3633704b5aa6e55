-- The rest of a run, for a program in the middle of it.
use Rattle.std.specs.Prelude.{ℕ, zero, suc, Bool, true, ◌&&◌, not, List, [], ◌∷◌, if◌then◌else◌}
use Rattle.postscript_base.specs.Refusal.{return_without_caller, trailing_data, too_deep}
use Rattle.postscript_type2.specs.Program.States.{State}
use Rattle.postscript_type2.specs.Program.Evaluation.{at_end, with_phrase, with_any_answer, followed, is_empty, after_call, Stride, On, Into, Back, Over, Faults, mean}
use Rattle.postscript_type2.specs.Program.Routines.{Lists}
use Rattle.postscript_type2.specs.Program.Runs.{Finished, Fault, Run}

-- The run of a subroutine, continued with the rests of its callers, the innermost first. left: the number of calls that may still nest in
-- the subroutine.
abbrev pub through : Lists → (left : ℕ) → (callers : List (List ℕ)) → Run → Run
through lists left [] run = run
through lists left (rest ∷ callers) run =
    through lists (suc left) callers
    (followed run (after_call (not (is_empty callers)) rest (λ st. mean lists (suc left) (not (is_empty callers)) rest st)))

-- the run of a rest, the rests of its callers, and a state
abbrev pub still : Lists → (left : ℕ) → (rest : List ℕ) → (callers : List (List ℕ)) → State → Run
still lists left rest callers st = through lists left callers (mean lists left (not (is_empty callers)) rest st)

-- whether each subroutine of the chain is used up: all but the last, which is the outermost code
abbrev pub are_used_up : (rest : List ℕ) → (callers : List (List ℕ)) → Bool
are_used_up rest [] = true
are_used_up rest (caller ∷ callers) = is_empty rest && are_used_up caller callers

-- One step of a program with a chain of callers. behind more: the bytes after the first byte of the phrase and `more` others.
abbrev pub next_still : Lists → (left : ℕ) → (behind : ℕ → List ℕ) → (callers : List (List ℕ)) → Stride → Run
next_still lists left behind callers (On said answer st more) =
    with_phrase said (with_any_answer answer (still lists left (behind more) callers st))
next_still lists zero behind callers (Into said routine st more) = with_phrase said (at_end (Fault too_deep))
next_still lists (suc left) behind callers (Into said routine st more) =
    with_phrase said (still lists left routine (behind more ∷ callers) st)
next_still lists left behind [] (Back said st) = with_phrase said (at_end (Fault return_without_caller))
next_still lists left behind (caller ∷ callers) (Back said st) = with_phrase said (still lists (suc left) caller callers st)
next_still lists left behind callers (Over said taken width more) =
    with_phrase said (at_end (if are_used_up (behind more) callers then Finished taken width else Fault trailing_data))
next_still lists left behind callers (Faults e) = at_end (Fault e)
