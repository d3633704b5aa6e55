-- Inlined code means what the run meant.
use Rattle.std.proofs.Common.{arith, rules, ◌≡◌, refl, ap, sym, subst, ◌∙◌, ℕ, zero, suc, Bool, true, false, List, [], ◌∷◌, ◌++◌, drop, Option, Some, None, Result, Ok, Err, IfOk, OnOk}
use Rattle.std.proofs.lemmas.Grind.{common_steps}
use Rattle.std.proofs.lemmas.Bool.Decides.{nat_tests}
use Rattle.std.proofs.lemmas.List.{append-nil}
use Rattle.std.proofs.lemmas.List.Elements.{All-nil, All-cons, All-head, All-tail}
use Rattle.std.specs.List.{AllPass}
use Rattle.postscript_type2.specs.declared.operation.Operator.{Operator}
use Rattle.postscript_type2.specs.Operation.Kinds.{Kind, kind, CallsFrom, GoesBack}
use Rattle.postscript_type2.specs.Program.States.{State, start}
use Rattle.postscript_type2.specs.Program.Evaluation.{at_end, with_phrase, with_any_answer, followed, after_call, Stride, On, Into, Back, Over, Faults, stride, Callee, paced, routine, callee, mean, run_of}
use Rattle.postscript_type2.specs.Program.Flat.{flat_of, flat_text, without_operator, dropping}
use Rattle.postscript_type2.specs.Program.Inlined.{Piece, Stands, Leaves, piece_of, piece, put_before, pieced, inlined_onto, inlined, text, inlined_text, before_last, call_piece}
use Rattle.postscript_type2.specs.Program.InlinedLaws.{InlinedTextKeepsMeaning, InlinedRunIsInlined}
use Rattle.postscript_type2.specs.Program.Inlining.{is_flat_kind, is_flat, KeepsMeaning}
use Rattle.postscript_type2.specs.Program.Routines.{Lists}
use Rattle.postscript_type2.specs.Program.Runs.{Answer, Phrase, by, End, UsedUp, Returned, Finished, Fault, Run, fault_of}
use Rattle.postscript_type2.proofs.Carried.{carried-text}
use Rattle.postscript_type2.proofs.InInlined.{InPiece, InInlined, in-inlined}
use Rattle.postscript_type2.proofs.Inlining.{followed-ends, flat_end, flat-fault, flat-taken, flat-width}

-- no fault, and the phrases that may follow: where the run goes on, those of a text that has a run of them
abbrev MayFollow : (other : Lists) (left : ℕ) → End → List Phrase → Type 0
MayFollow other left UsedUp next = next ≡ []
MayFollow other left (Returned st) next = (mean other left false (text next) st).trace ≡ next
MayFollow other left (Finished taken width) next = next ≡ []
MayFollow other left (Fault e) next = ⊥

-- how inlined code goes on with phrases that follow it
abbrev onward : Lists → (left : ℕ) → End → List Phrase → Run
onward other left UsedUp next = at_end UsedUp
onward other left (Returned st) next = mean other left false (text next) st
onward other left (Finished taken width) next = at_end (Finished taken width)
onward other left (Fault e) next = at_end (Fault e)

-- a run's answers and its inlined trace before these phrases, and then what another run has
abbrev joined : Run → List Phrase → Run → Run
joined run next after = record { answers = run.answers ++ after.answers; trace = inlined_onto run.trace next; end = after.end }

-- inlined code of a run from a state, before phrases that may follow it, means the run's answers, and then what follows
abbrev Inlines : (other : Lists) (left : ℕ) → State → Run → Type 0
Inlines other left st run = (next : List Phrase) → MayFollow other left run.end next →
    mean other left false (text (inlined_onto run.trace next)) st ≡ joined run next (onward other left run.end next)

-- the same of a subroutine
abbrev AllInline : (other : Lists) (left : ℕ) → Callee → Type 0
AllInline other left None = Unit {0}
AllInline other left (Some means) = (sub : List ℕ) (st : State) → Inlines other left st (means sub st)

-- the pieces of two traces
onto-append : (first second next : List Phrase) → inlined_onto (first ++ second) next ≡ inlined_onto first (inlined_onto second next)
onto-append [] second next = refl
onto-append (said ∷ first) second next = ap (pieced (piece said)) (onto-append first second next)

-- a piece of a call or a return, and phrases that have a run
onto-piece : (other : Lists) (left : ℕ) (st st' : State) (p : Piece) → InPiece other left st st' p → (a : List Answer)
    (phrases : List Phrase) (end : End) →
    mean other left false (text phrases) st' ≡ record { answers = a; trace = phrases; end = end } →
    mean other left false (text (pieced p phrases)) st ≡ record { answers = a; trace = pieced p phrases; end = end }
onto-piece other left st st' (Stands said) tells a phrases end is = tells (text phrases) ∙ ap (with_phrase said) is
onto-piece other left st st' (Leaves front) leaves a phrases end is =
    carried-text other left front leaves.0 leaves.1 st a phrases end (ap (mean other left false (text phrases)) (sym leaves.2) ∙ is)

-- a call or a return, and a run behind it
inline-told : (other : Lists) (left : ℕ) (st st' : State) (said : Phrase) (run : Run) → InPiece other left st st' (piece said) →
    Inlines other left st' run → Inlines other left st (with_phrase said run)
inline-told other left st st' said run means ih next m =
    onto-piece other left st st' (piece said) means _ (inlined_onto run.trace next) _ (ih next m)

-- a phrase that stands, and a run behind it
inline-own : (other : Lists) (left : ℕ) (st : State) (said : Phrase) (answer : Option Answer) (run : Run) (go : List ℕ → Run) →
    piece said ≡ Stands said →
    ((x : List ℕ) → mean other left false (said.bytes ++ x) st ≡ with_phrase said (with_any_answer answer (go x))) →
    ((next : List Phrase) → MayFollow other left run.end next → go (text (inlined_onto run.trace next)) ≡ joined run next
    (onward other left run.end next)) →
    Inlines other left st (with_phrase said (with_any_answer answer run))
inline-own other left st said answer run go is tells ih = grind arith

-- a call's run, and what comes of its end
inline-followed : (other : Lists) (left : ℕ) (inner : Bool) (after : List ℕ) (st : State) (go : State → Run) →
    ((st' : State) → Inlines other left st' (go st')) →
    (a : List Answer) (t : List Phrase) (e : End) → Inlines other left st (record { answers = a; trace = t; end = e }) →
    Inlines other left st (followed (record { answers = a; trace = t; end = e }) (after_call inner after go))
inline-followed other left inner after st go next a t e ih = grind (arith, nat_tests, common_steps, followed-ends, onto-append)

inline-by : (other : Lists) (left : ℕ) (callee : Callee) → AllInline other left callee → (inner : Bool) (r : List ℕ) (st : State)
    (go : ℕ → State → Run) → ((more : ℕ) (st' : State) → Inlines other left st' (go more st')) → (s : Stride) → InInlined other left st s →
    Inlines other left st (paced callee inner r go s)
inline-by other left callee subs inner r st go next (On said answer st' more) means =
    inline-own other left st said answer (go more st') _ means.0 means.1 (next more st')
inline-by other left None subs inner r st go next (Into said sub st' more) means = λ n m. absurd m
inline-by other left (Some run) subs inner r st go next (Into said sub st' more) means =
    inline-told other left st st' said (followed (run sub st') (after_call inner (drop more r) (go more))) means
    (inline-followed other left inner (drop more r) st' (go more) (next more) (run sub st').answers (run sub st').trace (run sub st').end
    (subs sub st'))
inline-by other left callee subs true r st go next (Back said st') means = inline-told other left st st' said (at_end (Returned st')) means
    (λ n m. ap (λ t. record {
      answers = (mean other left false (text n) st').answers;
      trace = t;
      end = (mean other left false (text n) st').end;
    }) m)
inline-by other left callee subs false r st go next (Back said st') means = λ n m. absurd m
inline-by other left callee subs inner r st go next (Over said taken width more) means =
    grind (arith, inline-own, inline-told, inline-followed)
inline-by other left callee subs inner r st go next (Faults e) means = λ n m. absurd m

inline-routine : (lists other : Lists) (left : ℕ) (callee : Callee) → AllInline other left callee → (inner : Bool) (k : ℕ) (r : List ℕ)
    (st : State) →
    Inlines other left st (routine lists callee inner k r st)
inline-routine lists other left callee subs inner zero [] st = λ n m. rw m refl
inline-routine lists other left callee subs inner (suc k) [] st = λ n m. rw m refl
inline-routine lists other left callee subs inner (suc k) (b ∷ r) st = inline-routine lists other left callee subs inner k r st
inline-routine lists other left callee subs inner zero (b ∷ r) st =
    inline-by other left callee subs inner r st (λ more st'. routine lists callee inner more r st')
    (λ more st'. inline-routine lists other left callee subs inner more r st')
    (stride lists (b ∷ r) st) (in-inlined lists other left b r st)

inline-callee : (lists other : Lists) (left nested : ℕ) → AllInline other left (callee lists nested)
inline-callee lists other left zero = tt
inline-callee lists other left (suc nested) =
    λ sub st. inline-routine lists other left (callee lists nested) (inline-callee lists other left nested) true 0 sub st

-- an operator that stands as it is
flat-bytes-own : (op : Operator) (bytes : List ℕ) (k : Kind) → is_flat_kind k ≡ true → flat_of k op bytes ≡ by op bytes
flat-bytes-own op bytes k own = grind arith

own-text : (phrases : List Phrase) → AllPass (λ said. is_flat said.operator) phrases → flat_text phrases ≡ text phrases
own-text [] own = refl
own-text (said ∷ phrases) own =
    ap (λ s. s.bytes ++ flat_text phrases)
    (flat-bytes-own said.operator said.bytes (kind said.operator) (All-head (λ x. is_flat x.operator ≡ true) said phrases own))
    ∙ ap (λ bytes. said.bytes ++ bytes) (own-text phrases (All-tail (λ x. is_flat x.operator ≡ true) said phrases own))

-- inlined code has no calls and no returns
put-flat : (front : List ℕ) (phrases : List Phrase) → AllPass (λ said. is_flat said.operator) phrases →
    AllPass (λ said. is_flat said.operator) (put_before front phrases)
put-flat front [] own = own
put-flat front (said ∷ phrases) own = All-cons (λ x. is_flat x.operator ≡ true) (by said.operator (front ++ said.bytes)) phrases
    (All-head (λ x. is_flat x.operator ≡ true) said phrases own) (All-tail (λ x. is_flat x.operator ≡ true) said phrases own)

pieced-flat : (op : Operator) (bytes : List ℕ) (k : Kind) → kind op ≡ k → (phrases : List Phrase) →
    AllPass (λ said. is_flat said.operator) phrases →
    AllPass (λ said. is_flat said.operator) (pieced (piece_of k op bytes) phrases)
pieced-flat op bytes (CallsFrom routines) is phrases own = by_last (before_last (without_operator bytes))
  where
    by_last : (o : Option (List ℕ)) → AllPass (λ said. is_flat said.operator) (pieced (call_piece o) phrases)
    by_last (Some front) = put-flat front phrases own
    by_last None = All-cons (λ x. is_flat x.operator ≡ true) (dropping []) phrases refl own
pieced-flat op bytes GoesBack is phrases own = put-flat (without_operator bytes) phrases own
pieced-flat op bytes k is phrases own = All-cons (λ x. is_flat x.operator ≡ true) (by op bytes) phrases (ap is_flat_kind is) own

all-flat : (trace : List Phrase) → AllPass (λ said. is_flat said.operator) (inlined trace)
all-flat [] = All-nil (λ x. is_flat x.operator ≡ true)
all-flat (said ∷ trace) = pieced-flat said.operator said.bytes (kind said.operator) refl (inlined trace) (all-flat trace)

-- with nothing behind it
inlined-alone : (other : Lists) (left : ℕ) (st : State) (a : List Answer) (t : List Phrase) (end : End) →
    Inlines other left st (record { answers = a; trace = t; end = end }) →
    fault_of end ≡ None → mean other left false (inlined_text t) st ≡ record { answers = a; trace = inlined t; end = flat_end end }
inlined-alone other left st a t end means h1 = grind (arith, append-nil)

-- the run of the inlined text of a faultless run, over any lists
pub run-is : (lists : Lists) (code : List ℕ) → fault_of (run_of lists code).end ≡ None → (other : Lists) →
    run_of other (inlined_text (run_of lists code).trace)
    ≡ record { answers = (run_of lists code).answers; trace = inlined (run_of lists code).trace; end = flat_end (run_of lists code).end }
run-is lists code none other =
    of_run (run_of lists code) (inline-routine lists other 10 (callee lists 10) (inline-callee lists other 10 10) false 0 code start) none
  where
    of_run : (run : Run) → Inlines other 10 start run → fault_of run.end ≡ None →
        run_of other (inlined_text run.trace) ≡ record { answers = run.answers; trace = inlined run.trace; end = flat_end run.end }
    of_run run means none = inlined-alone other 10 start run.answers run.trace run.end means none

-- It keeps its meaning.
pub keeps_meaning : (lists : Lists) (code : List ℕ) → fault_of (run_of lists code).end ≡ None →
    (other : Lists) → KeepsMeaning other (inlined_text (run_of lists code).trace) (run_of lists code)
keeps_meaning lists code h0 other = search (rules, run-is, flat_end, flat-width, flat-taken, flat-fault, all-flat, own-text)

pub law : InlinedTextKeepsMeaning
law lists other code none = keeps_meaning lists code none other

pub phrases-law : InlinedRunIsInlined
phrases-law lists other code none = ap (λ r. r.trace) (run-is lists code none other)

-- the same of a result that is the inlined text
pub keeps-result : {V E : Type 0} (items : V → List ℕ) (lists : Lists) (code : List ℕ) (r : Result V E) →
    OnOk r (fault_of (run_of lists code).end ≡ None) → IfOk r (λ v. items v ≡ inlined_text (run_of lists code).trace) →
    IfOk r (λ v. (other : Lists) → KeepsMeaning other (items v) (run_of lists code))
keeps-result items lists code (Ok v) none is =
    λ other. subst (λ bytes. KeepsMeaning other bytes (run_of lists code)) (sym is) (keeps_meaning lists code none other)
keeps-result items lists code (Err e) none is = tt
