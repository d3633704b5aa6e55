-- The effects of operators, as the code has them.
use Rattle.std.specs.Prelude.{◌≡◌, ◌+◌, ◌*◌, ◌-◌, ℕ, suc, ℤ, List, [], ◌∷◌, ◌++◌, drop, take, length, Option, Some, None, option_map, Result, Ok, Err}
use Rattle.postscript_type2.specs.Program.Effects.{last_of}
use Rattle.postscript_type2.specs.Program.Charstrings.{lists_of}
use Rattle.postscript_variable.specs.declared.command.Command.{Command}
use Rattle.postscript_type2.specs.declared.refused.Refused.{Refused}
use Rattle.postscript_variable.specs.declared.routine.Token as code_token
use Rattle.postscript_variable.specs.declared.routine.Token.TheVariants as tokens
use Rattle.postscript_variable.specs.declared.state.Effect.{Effect as CodeEffect}
use Rattle.postscript_variable.specs.declared.state.Effect.TheVariants as effects
use Rattle.postscript_variable.specs.declared.state.State as code
use Rattle.postscript_variable.specs.declared.state.Font as code_font
use Rattle.postscript_variable.specs.Blending.{values}
use Rattle.postscript_variable.specs.State.{Font, State, Effect, Keeps, Clears, Calls, Refuses, cleared}
use Rattle.postscript_type2.specs.Refused.{reason}
use Rattle.postscript_variable.specs.Programs.{tables_of}
use Rattle.postscript_variable.specs.Tokens.{Token, Number, Operator, NoToken, commanded, token}

abbrev pub font_of : code_font.Font → Font
font_of font = record { lists = lists_of font.subroutines; tables = tables_of font.tables.now }

abbrev pub state_of : code.State → State
state_of st = record {
  stack = st.stack.items;
  stems = st.stems;
  scalars = option_map (λ scalars. scalars.now) st.scalars;
  is_blended = st.is_blended;
}

-- the operator with this first byte, and the offset after it; `place` is the offset of its second byte, if there is one
abbrev pub EndsAt : (first : ℕ) → (behind : List ℕ) → (place : ℕ) → Result (Command × ℕ) Refused → Type 0
EndsAt first behind place (Ok read) = (more : ℕ) × (commanded first behind ≡ Operator read.0 more) × (read.1 ≡ place + more)
EndsAt first behind place (Err e) = commanded first behind ≡ NoToken (reason e)

-- a value that is read, with the number of its bytes after the first
abbrev pub token_of : code_token.Token → (more : ℕ) → Token
token_of (tokens.Number x) more = Number x more
token_of (tokens.Operator command) more = Operator command more

-- The value with this first byte, and the offset after it. `place` is the offset of its second byte, if there is one.
abbrev pub ReadsTokenAt : (first : ℕ) → (behind : List ℕ) → (place : ℕ) → Result (code_token.Token × ℕ) Refused → Type 0
ReadsTokenAt first behind place (Ok read) = (more : ℕ) × (token first behind ≡ token_of read.0 more) × (read.1 ≡ place + more)
ReadsTokenAt first behind place (Err e) = token first behind ≡ NoToken (reason e)

-- The value at the front of a routine is read, with its size in bytes, unless the routine is used up.
abbrev pub ReadsFront : List ℕ → Result (Option (code_token.Token × ℕ)) Refused → List ℕ → Type 0
ReadsFront old (Ok None) new = (old ≡ []) × (new ≡ [])
ReadsFront old (Ok (Some read)) new = (first : ℕ) × (behind : List ℕ) × (more : ℕ) × (old ≡ first ∷ behind) ×
    (token first behind ≡ token_of read.0 more) × (read.1 ≡ suc more) × (new ≡ drop more behind)
ReadsFront old (Err e) new = (first : ℕ) × (behind : List ℕ) × (old ≡ first ∷ behind) × (token first behind ≡ NoToken (reason e))

-- the blended values replace the defaults
abbrev pub BlendsEach : (defaults deltas : List ℤ) → (scalars : List ℕ) → Result (Unit {0}) Refused → List ℤ → Type 0
BlendsEach defaults deltas scalars (Ok done) new = values defaults deltas scalars ≡ Ok new
BlendsEach defaults deltas scalars (Err e) new = values defaults deltas scalars ≡ Err (reason e)

-- the blended values replace the n defaults at the front
abbrev pub BlendsAll : List ℤ → (n : ℕ) → (scalars : List ℕ) → Result (Unit {0}) Refused → List ℤ → Type 0
BlendsAll old n scalars (Ok done) new = (values (take n old) (drop n old) scalars ≡ Ok (take n new)) × (length new ≡ length old)
BlendsAll old n scalars (Err e) new = values (take n old) (drop n old) scalars ≡ Err (reason e)

-- the same after the first `base` numbers
abbrev pub BlendsBehind : List ℤ → (base n : ℕ) → (scalars : List ℕ) → Result (Unit {0}) Refused → List ℤ → Type 0
BlendsBehind old base n scalars (Ok done) new =
    (values (take n (drop base old)) (drop n (drop base old)) scalars ≡ Ok (take n (drop base new))) × (take base new ≡ take base old) ×
    (length new ≡ length old)
BlendsBehind old base n scalars (Err e) new = values (take n (drop base old)) (drop n (drop base old)) scalars ≡ Err (reason e)

-- the blended values replace the last n operands and their deltas
abbrev pub Blends : List ℤ → (n : ℕ) → (scalars : List ℕ) → Result (Unit {0}) Refused → List ℤ → Type 0
Blends old n scalars (Ok done) new =
    let top = last_of old (n * suc (length scalars)) in
    (vals : List ℤ) × (values (take n top) (drop n top) scalars ≡ Ok vals) ×
    (new ≡ take (length old - n * suc (length scalars)) old ++ vals)
Blends old n scalars (Err e) new =
    let top = last_of old (n * suc (length scalars)) in values (take n top) (drop n top) scalars ≡ Err (reason e)

abbrev pub move_of : CodeEffect → State → Effect
move_of effects.Keeps st = Keeps st
move_of (effects.Clears operator count mask) st = Clears operator (last_of st.stack count) (cleared st.stems st) mask
move_of (effects.Calls routine) st = Calls routine.now st

-- an operator that gives an operation does not change the stack, so that its operands can be borrowed
abbrev pub Leaves : CodeEffect → (old new : List ℤ) → Type 0
Leaves (effects.Clears operator count mask) old new = new ≡ old
Leaves effect old new = Unit {0}

abbrev pub mask_of : CodeEffect → ℕ
mask_of (effects.Clears operator count mask) = mask
mask_of effect = 0

-- The code has this effect and its new state, or the error of the effect.
abbrev pub Does : Effect → Result CodeEffect Refused → code.State → Type 0
Does move (Ok effect) new = move ≡ move_of effect (state_of new)
Does move (Err e) new = move ≡ Refuses (reason e)
