-- The outcome of a reading, which depends only on the bytes and the offset, and sequences of readings.
use Rattle.std.specs.Prelude.{◌≡◌, ◌≢◌, ℕ, ◌≤◌, List, Result, Ok, Err}
use Rattle.postscript_base.specs.Error.{code}
use Rattle.postscript_base.specs.Refusal.{Refusal, unexpected_eof}
use Rattle.postscript_base.specs.RefusalOf.{refusal_of}
use Rattle.postscript_base.specs.declared.error.Error.{Error}
use Rattle.postscript_base.specs.declared.error.Error.TheVariants.{Memory}

-- Got: a value, and the next offset. Fault: an error with its data.
-- Past: an offset past the end was sought, so that the seek or a later reading fails, with UnexpectedEof or Io.
pub data Outcome (A : Type 0) : Type 0 where
  Got : A → ℕ → Outcome A
  Fault : Refusal → Outcome A
  Past : Outcome A

-- the input ends early: the error UnexpectedEof
abbrev pub end : {A : Type 0} → Outcome A
end = Fault unexpected_eof

abbrev pub Reading : Type 0 → Type 0
Reading A = List ℕ → ℕ → Outcome A

-- one reading after another; the first one that has no value gives the outcome
abbrev pub after : {A B : Type 0} → Outcome A → (A → ℕ → Outcome B) → Outcome B
after (Got value next) f = f value next
after (Fault refusal) f = Fault refusal
after Past f = Past

infixl 10 ◌>>=◌
abbrev pub ◌>>=◌ : {A B : Type 0} → Reading A → (A → Reading B) → Reading B
(first >>= f) bytes place = after (first bytes place) (λ value next. f value bytes next)

-- a value that takes no bytes
abbrev pub pure : {A : Type 0} → A → Reading A
pure value bytes place = Got value place

-- an error, without reading bytes
abbrev pub fault : {A : Type 0} → Refusal → Reading A
fault refusal bytes place = Fault refusal

-- the current offset
abbrev pub position : Reading ℕ
position bytes place = Got place place

-- The outcome is this error. If an offset past the end was sought, the number of the error is at most 2: UnexpectedEof or Io.
abbrev pub RefusedAs : {A : Type 0} → Error → Outcome A → Type 0
RefusedAs e (Got value next) = ⊥
RefusedAs e (Fault refusal) = refusal_of e ≡ refusal
RefusedAs e Past = code e ≤ 2

-- The result, as `view` shows it, and the next offset are those of the outcome. Running out of memory may be the error at any time.
abbrev pub Answers : {A B : Type 0} → (A → B) → Result A Error → ℕ → Outcome B → Type 0
Answers view (Ok value) next outcome = outcome ≡ Got (view value) next
Answers view (Err e) next outcome = e ≢ Memory → RefusedAs e outcome

-- a value that contracts see unchanged
abbrev pub same : {A : Type 0} → A → A
same value = value
