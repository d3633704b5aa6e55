-- The remaining run of a program's machine.
use Rattle.std.specs.Prelude.{◌≡◌, ◌⊎◌, ◌+◌, ◌*◌, ◌<◌, ℕ, ℤ, [], ◌∷◌, length, Option, Some, None, Result, Ok, Err}
use Rattle.postscript_type2.specs.declared.operation.Operator.{Operator}
use Rattle.postscript_type2.specs.Program.Effects.{last_of}
use Rattle.postscript_variable.specs.declared.command.Command.{Command}
use Rattle.postscript_variable.specs.declared.machine.Cost.{Cost}
use Rattle.postscript_variable.specs.declared.machine.Event.{Event}
use Rattle.postscript_variable.specs.declared.machine.Event.TheVariants as events
use Rattle.postscript_variable.specs.declared.machine.Machine.{Machine}
use Rattle.postscript_type2.specs.declared.refused.Refused.{Refused}
use Rattle.postscript_type2.specs.declared.refused.Refused.TheVariants.{Memory}
use Rattle.postscript_variable.specs.Costs.{cost_beside}
use Rattle.postscript_variable.specs.Effects.{effect}
use Rattle.postscript_variable.specs.State.{State, cleared}
use Rattle.postscript_variable.specs.Evaluation.{Run, at_end, with_step, with_answer}
use Rattle.postscript_variable.specs.Meaning.{UsedUp, Stopped, answer}
use Rattle.postscript_type2.specs.Refused.{reason}
use Rattle.postscript_variable.specs.Private.Remaining.{still, still_number, still_moved}
use Rattle.postscript_variable.specs.Private.Working.{font_of, state_of}
use Rattle.postscript_variable.specs.Sayings.{said}

-- ten calls may nest: the open ones are the callers, and `left` counts the others
abbrev pub IsNested : Machine → Type 0
IsNested machine = machine.left + length machine.callers ≡ 10

abbrev pub still_of : Machine → Run
still_of machine = still (font_of machine.font) machine.left machine.routine machine.callers (state_of machine.state)

-- the remaining run after the stack is cleared
abbrev pub still_emptied : Machine → Run
still_emptied machine =
    still (font_of machine.font) machine.left machine.routine machine.callers (cleared machine.state.stems (state_of machine.state))

-- the remaining run after a number or an operator of `size` bytes was read
abbrev pub still_with : Machine → (size : ℕ) → ℤ → Run
still_with machine size x =
    still_number (font_of machine.font) machine.left machine.routine machine.callers (state_of machine.state) size x

abbrev pub still_by : Machine → (size : ℕ) → Command → Run
still_by machine size command =
    let st = state_of machine.state in
    still_moved (font_of machine.font) machine.left machine.routine machine.callers st.stack
    (size + cost_beside command st.stack) (effect (font_of machine.font) command machine.routine st)

-- a measure that each event decreases: a call costs something, and adds a caller
abbrev pub work_of : Run → Machine → ℕ
work_of run machine = 2 * length run.costs + length machine.callers

-- the cost of an event
abbrev pub cost_of : Cost → ℕ
cost_of cost = cost.bytes + cost.beside

-- The event is at the beginning of the run `before`, and the machine has the rest. `work` is the measure before it.
abbrev pub Advances : (before : Run) → (work : ℕ) → Result Event Refused → Machine → Type 0
Advances before work (Ok events.UsedUp) new = (st : State) × (before ≡ at_end (UsedUp st))
Advances before work (Ok events.Back) new = (before ≡ still_of new) × (work_of (still_of new) new < work)
Advances before work (Ok (events.Continued cost)) new =
    (before ≡ with_step (cost_of cost) (still_of new)) × (0 < cost_of cost) × (work_of (still_of new) new < work)
Advances before work (Ok (events.Operation operator count mask cost)) new =
    let stack = new.state.stack.items in
    (before ≡ with_step (cost_of cost) (with_answer (said operator stack (last_of stack count) mask.now) (still_emptied new))) ×
    (0 < cost_of cost) × (work_of (still_emptied new) new < work)
Advances before work (Err e) new = (e ≡ Memory) ⊎ (before ≡ at_end (Stopped (reason e)))

-- The first operation of the run `before` is reached, and the machine has the rest.
abbrev pub Reaches : Run → Result (Option (Operator × ℕ)) Refused → Machine → Type 0
Reaches before (Ok (Some reached)) new =
    (before.answers ≡ answer reached.0 (last_of new.state.stack.items reached.1) ∷ (still_emptied new).answers) ×
    (before.end ≡ (still_emptied new).end)
Reaches before (Ok None) new = (before.answers ≡ []) × ((st : State) × (before.end ≡ UsedUp st))
Reaches before (Err e) new = (e ≡ Memory) ⊎ ((before.answers ≡ []) × (before.end ≡ Stopped (reason e)))
