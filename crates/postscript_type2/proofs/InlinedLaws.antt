-- Inlined code beside flat code, and the operators of inlined code.
use Rattle.std.proofs.lemmas.List.Elements.{All-head, All-tail}
use Rattle.std.proofs.Common.{◌≡◌, refl, ap, sym, subst, ◌∙◌, ℕ, zero, suc, ◌+◌, ◌-◌, ◌<◌, ◌≤◌, cond, List, [], ◌∷◌, take, length, length-append, ℤ, Option, Some, None, Result, Ok, Err, IfOk, OnOk, All, arith}
use Rattle.std.specs.List.{filter}
use Rattle.postscript_type2.specs.declared.operation.Operator.{Operator}
use Rattle.postscript_type2.specs.Operation.Kinds.{Kind, kind}
use Rattle.postscript_type2.specs.Program.Evaluation.{run_of}
use Rattle.postscript_type2.specs.Program.Flat.{without_operator, flat_of, flat_bytes, flat_text}
use Rattle.postscript_type2.specs.Program.Inlined.{behind_first, unless_last, before_last_past, before_last, piece_of, pieced, inlined, text, inlined_text}
use Rattle.postscript_type2.specs.Program.InlinedLaws.{InlinedIsNoLonger, SpellsItsNumber, operators, AddsNoOperator}
use Rattle.postscript_type2.specs.Program.Inlining.{is_flat_kind, is_flat}
use Rattle.postscript_type2.specs.Program.Phrases as spellings
use Rattle.postscript_type2.specs.Program.Phrases.{IsNumber, IsPhrase}
use Rattle.postscript_type2.specs.Program.Routines.{Lists}
use Rattle.postscript_type2.specs.Program.Runs.{Phrase, by, fault_of}
use Rattle.postscript_type2.proofs.InlinedMeaning.{run-is}

-- the numbers before the last are no more bytes
abbrev IsWithin : ℕ → Option (List ℕ) → Type 0
IsWithin n None = Unit {0}
IsWithin n (Some front) = length front ≤ n

within-past : (k : ℕ) (r : List ℕ) → IsWithin (length r) (before_last_past k r)
within-past k [] = tt
within-past (suc k) (b ∷ r) = grind (arith, within-past k r)
within-past zero (b ∷ r) = grind (arith, within-past (behind_first b) r)

pieced-length : (op : Operator) (bytes : List ℕ) (k : Kind) (phrases : List Phrase) →
    length (text (pieced (piece_of k op bytes) phrases)) ≤ length (flat_of k op bytes).bytes + length (text phrases)
pieced-length op bytes k phrases = grind (arith, within-past, length-append)

pub no-longer : InlinedIsNoLonger
no-longer [] = omega arith
no-longer (said ∷ trace) =
    omega (
      arith,
      pieced-length said.operator said.bytes (kind said.operator) (inlined trace),
      no-longer trace,
      length-append (flat_bytes said) (flat_text trace),
    )

-- a phrase has more bytes than numbers
number-some : (number : List ℕ) (x : ℤ) → IsNumber number x → 0 < length number
number-some number x h0 = grind arith

phrase-long : (bytes : List ℕ) (numbers : List ℤ) (op : Operator) → IsPhrase bytes numbers op → length numbers < length bytes
phrase-long bytes numbers op (spellings.operator code op' short is) = omega arith
phrase-long bytes numbers op (spellings.escaped_operator second op' is) = omega arith
phrase-long bytes numbers op (spellings.after_number number more x xs op' n p) =
    grind (arith, number-some, length-append, phrase-long more xs op' p, length-append number more)

-- so one with a number has a last one
some-last : (bytes : List ℕ) → 1 < length bytes → (front : List ℕ) × (before_last (without_operator bytes) ≡ Some front)
some-last [] h = absurd (omega arith)
some-last (b ∷ []) h = absurd (omega arith)
some-last (b ∷ c ∷ r) h =
    let n : length (b ∷ c ∷ r) - 1 ≡ suc (length r) = omega arith in
    (unless_last b (before_last_past (behind_first b) (take (length r) (c ∷ r))), ap (λ k. before_last (take k (b ∷ c ∷ r))) n)

pieced-operators : (op : Operator) (bytes : List ℕ) (k : Kind) → kind op ≡ k → SpellsItsNumber (by op bytes) → (phrases : List Phrase) →
    operators (pieced (piece_of k op bytes) phrases) ≡ cond (is_flat_kind k) (op ∷ operators phrases) (operators phrases)
pieced-operators op bytes k is spells phrases = grind (arith, phrase-long, length-append, some-last)

inlined-operators : (trace : List Phrase) → All SpellsItsNumber trace → operators (inlined trace) ≡ filter is_flat (operators trace)
inlined-operators [] spells = refl
inlined-operators (said ∷ trace) spells =
    pieced-operators said.operator said.bytes (kind said.operator) refl (All-head SpellsItsNumber said trace spells) (inlined trace)
    ∙ ap (λ ops. cond (is_flat said.operator) (said.operator ∷ ops) ops)
    (inlined-operators trace (All-tail SpellsItsNumber said trace spells))

pub adds-none : (lists : Lists) (code : List ℕ) → fault_of (run_of lists code).end ≡ None →
    (other : Lists) → AddsNoOperator other (inlined_text (run_of lists code).trace) (run_of lists code)
adds-none lists code none other spells =
    ap (λ r. operators r.trace) (run-is lists code none other) ∙ inlined-operators (run_of lists code).trace spells

-- the same of a result that is the inlined text
pub adds-result : {V E : Type 0} (items : V → List ℕ) (lists : Lists) (code : List ℕ) (r : Result V E) →
    OnOk r (fault_of (run_of lists code).end ≡ None) → IfOk r (λ v. items v ≡ inlined_text (run_of lists code).trace) →
    IfOk r (λ v. (other : Lists) → AddsNoOperator other (items v) (run_of lists code))
adds-result items lists code (Ok v) none is =
    λ other. subst (λ bytes. AddsNoOperator other bytes (run_of lists code)) (sym is) (adds-none lists code none other)
adds-result items lists code (Err e) none is = tt
