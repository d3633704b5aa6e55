-- The cost of each number and operator along a run by the rules. No rule of the specification: it bounds how long a call may take.
use Rattle.std.specs.Prelude.{◌≡◌, ℕ, ◌+◌, List, [], ◌∷◌, ◌++◌, length}
use Rattle.postscript_type2.specs.Program.Runs.{Answer}
use Rattle.postscript_variable.specs.Costs.{cost_beside}
use Rattle.postscript_variable.specs.State.{Font, State}
use Rattle.postscript_variable.specs.Evaluation.{run_of}
use Rattle.postscript_variable.specs.Meaning as rules
use Rattle.postscript_variable.specs.Meaning.{End, Means, IsRunOf}

-- A number or an operator that is carried out costs a unit for each of its bytes, including its mask. A `blend` costs more
-- (`specs/Costs.antt`). A call is followed by the costs of its subroutine. Whatever ends a run with an error costs nothing.
abbrev pub costs_along : {font : Font} {depth : ℕ} {rest : List ℕ} {st : State} {answers : List Answer} {end : End} →
    Means font depth rest st answers end → List ℕ
costs_along (rules.used_up depth st) = []
costs_along (rules.number depth spelling behind x st answers end is room later) = length spelling ∷ costs_along later
costs_along (rules.no_room depth spelling behind x st is full) = []
costs_along (rules.unread depth rest st e none) = []
costs_along (rules.refused depth spelling behind command st e moves) = []
costs_along (rules.keeps depth spelling behind command st after answers end moves later) =
    (length spelling + cost_beside command st.stack) ∷ costs_along later
costs_along (rules.clears depth spelling mask behind command op st after taken answers end moves later) =
    (length spelling + cost_beside command st.stack + length mask) ∷ costs_along later
costs_along (rules.calls_too_deep depth spelling behind command st after routine moves deep) = []
costs_along (rules.calls depth spelling behind command st after back routine inner answers end moves room within later) =
    (length spelling + cost_beside command st.stack) ∷ (costs_along within ++ costs_along later)
costs_along (rules.calls_to_stop depth spelling behind command st after routine inner e moves room within) =
    (length spelling + cost_beside command st.stack) ∷ costs_along within

-- A law of the definitions: these are the computed costs.
abbrev pub CostsAreComputed : Type 0
CostsAreComputed = (font : Font) (index : ℕ) (code : List ℕ) (answers : List Answer) (end : End) (run : IsRunOf font index code answers end) →
    (run_of font index code).costs ≡ costs_along run
