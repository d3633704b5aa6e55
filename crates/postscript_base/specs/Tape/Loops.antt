-- Reading several values in a row.
use Rattle.std.specs.Prelude.{◌≡◌, ◌≢◌, Option, Some, None, Result, Ok, Err, ℕ, zero, suc, ◌==◌, Bool, false, List, [], ◌∷◌, length, if◌then◌else◌}
use Rattle.postscript_base.specs.Tape.Outcome.{Outcome, Got, Fault, Past, Reading, ◌>>=◌, pure, RefusedAs, after, end}
use Rattle.postscript_base.specs.declared.error.Error.{Error}
use Rattle.postscript_base.specs.declared.error.Error.TheVariants.{UnexpectedEof, Memory}
use Rattle.postscript_base.specs.Refusal.{Refusal, Numbered, OfPart, OfMalformed, OfMissing}

-- `count` values, one after the other
unfoldable pub many : {A : Type 0} → Reading A → ℕ → Reading (List A)
many one zero = pure []
many one (suc count) = do
  value ← one
  values ← many one count
  pure (value ∷ values)

-- `count` values, each with data that the ones before it pass on
unfoldable pub chain : {P A : Type 0} → (P → Reading A) → (P → A → P) → P → ℕ → Reading (List A)
chain one next given zero = pure []
chain one next given (suc count) = do
  value ← one given
  values ← chain one next (next given value) count
  pure (value ∷ values)

-- Values, each with data that the ones before it pass on, until a test holds for that data. A number limits the steps. If they run out,
-- reading fails because the input ends early.
unfoldable pub until_from : {P A : Type 0} → (P → Bool) → (P → Reading A) → (P → A → P) → ℕ → P → Reading (List A)
until_from done one next zero given bytes place = end
until_from done one next (suc most) given bytes place =
    if done given then Got [] place
    else (do
      value ← one given
      values ← until_from done one next most (next given value)
      pure (value ∷ values)) bytes place

-- each value takes at least one byte, so one step more than the number of bytes is enough
unfoldable pub until : {P A : Type 0} → (P → Bool) → (P → Reading A) → (P → A → P) → P → Reading (List A)
until done one next given bytes place = until_from done one next (suc (length bytes)) given bytes place

-- the input ends early
abbrev pub is_end : Refusal → Bool
is_end (Numbered number) = number == 1
is_end (OfPart part) = false
is_end (OfMalformed operator) = false
is_end (OfMissing operator) = false

-- a list that ends if a reading fails because the input ends early
abbrev pub unless_end : {A B : Type 0} → Outcome A → Outcome B → (A → ℕ → Outcome B) → Outcome B
unless_end (Got value next) ended more = more value next
unless_end (Fault refusal) ended more = if is_end refusal then ended else Fault refusal
unless_end Past ended more = Past

-- at most a given number of values, up to the end
unfoldable pub to_end_from : {A : Type 0} → Reading A → ℕ → Reading (List A)
to_end_from one zero bytes place = Got [] (length bytes)
to_end_from one (suc most) bytes place = unless_end (one bytes place) (Got [] (length bytes))
    (λ value next. after (to_end_from one most bytes next) (λ values next. Got (value ∷ values) next))

-- Values one after the other, up to the end of the bytes, which is the next offset. A last value that the end truncates is ignored.
unfoldable pub to_end : {A : Type 0} → Reading A → Reading (List A)
to_end one bytes place = to_end_from one (suc (length bytes)) bytes place

-- one value for each item of a list, one after the other
unfoldable pub each : {A B : Type 0} → (A → Reading B) → List A → Reading (List B)
each one [] = pure []
each one (x ∷ xs) = do
  value ← one x
  values ← each one xs
  pure (value ∷ values)

-- The next value, or none if the end truncates it. Any other error of the reading is kept. Running out of memory may be the error at any
-- time.
abbrev pub IsNext : {V A : Type 0} → (V → A) → Result (Option V) Error → ℕ → Outcome A → Type 0
IsNext view (Ok None) next outcome = outcome ≡ end
IsNext view (Ok (Some value)) next outcome = outcome ≡ Got (view value) next
IsNext view (Err e) next outcome = e ≢ Memory → RefusedAs e outcome × (e ≢ UnexpectedEof)

-- There are `count` values, and each of them may follow the data that the ones before it pass on.
abbrev pub AreLinked : {P A : Type 0} → (P → A → Type 0) → (P → A → P) → P → ℕ → List A → Type 0
AreLinked follows next given zero [] = Unit {0}
AreLinked follows next given zero (value ∷ values) = ⊥
AreLinked follows next given (suc count) [] = ⊥
AreLinked follows next given (suc count) (value ∷ values) = follows given value × AreLinked follows next (next given value) count values

-- one value for each item of a list, which fits it
abbrev pub AreFor : {A B : Type 0} → (A → B → Type 0) → List A → List B → Type 0
AreFor fits [] [] = Unit {0}
AreFor fits (x ∷ xs) (value ∷ values) = fits x value × AreFor fits xs values
AreFor fits [] (value ∷ values) = ⊥
AreFor fits (x ∷ xs) [] = ⊥
