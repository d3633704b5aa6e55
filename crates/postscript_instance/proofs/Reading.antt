-- What is read at the beginning of a text.
use Rattle.std.proofs.Common.{◌≡◌, ◌∙◌, ap, subst, sym, ℕ, List, Option, Some, None, length}
use Rattle.postscript_base.specs.Compact1.Operation.{Operation, operation}
use Rattle.postscript_base.specs.Tape.Outcome.{Outcome, Got, Fault, Past, RefusedAs}
use Rattle.postscript_base.specs.declared.error.Error.{Error}

abbrev the : {X : Type 0} → X → Option X → X
the d None = d
the d (Some x) = x

abbrev next_of : Outcome Operation → ℕ
next_of (Got value next) = next
next_of (Fault refusal) = 0
next_of Past = 0

abbrev value_or : Operation → Outcome Operation → Operation
value_or default (Got value next) = value
value_or default (Fault refusal) = default
value_or default Past = default

pub same-place : (text bytes : List ℕ) (place : ℕ) (o : Outcome Operation) → bytes ≡ text → place ≡ 0 → operation bytes place ≡ o →
    operation text 0 ≡ o
same-place text bytes place o same begin is =
    subst (λ bs. operation bs 0 ≡ o) same (subst (λ n. operation bytes n ≡ o) begin is)

pub ends-elsewhere : (text bytes : List ℕ) (place : ℕ) (found o : Operation) (next : ℕ) → bytes ≡ text → place ≡ 0 →
    operation bytes place ≡ Got found next → (next ≡ length text → ⊥) → operation text 0 ≡ Got o (length text) → ⊥
ends-elsewhere text bytes place found o next same begin is other got =
    other (ap next_of (sym (same-place text bytes place (Got found next) same begin is) ∙ got))

pub read-nothing : (text bytes : List ℕ) (place : ℕ) (e : Error) (o : Operation) (next : ℕ) → bytes ≡ text → place ≡ 0 →
    RefusedAs e (operation bytes place) → operation text 0 ≡ Got o next → ⊥
read-nothing text bytes place e o next same begin refused got =
    subst (RefusedAs e) got (subst (λ bs. RefusedAs e (operation bs 0)) same (subst (λ n. RefusedAs e (operation bytes n)) begin refused))

pub one-operation : (text : List ℕ) (a b : Operation) (n m : ℕ) → operation text 0 ≡ Got a n → operation text 0 ≡ Got b m → a ≡ b
one-operation text a b n m is_a is_b = ap (value_or a) (sym is_a ∙ is_b)

-- an operation that is all of a text
pub found-so : (text bytes : List ℕ) (place : ℕ) (found o : Operation) (next end : ℕ) → bytes ≡ text → place ≡ 0 →
    operation bytes place ≡ Got found next → operation text 0 ≡ Got o end → Some found ≡ Some o
found-so text bytes place found o next end same begin is got =
    ap Some (one-operation text found o next end (same-place text bytes place (Got found next) same begin is) got)

-- the only entry
pub the-entry : {X : Type 0} (a b : X) → Some a ≡ Some b → a ≡ b
the-entry a b same = ap (λ o. the a o) same
