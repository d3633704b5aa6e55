-- Flat code means what the run meant.
use Rattle.std.proofs.lemmas.Grind.{common_steps}
use Rattle.std.proofs.lemmas.Bool.Decides.{nat_tests}
use Rattle.std.proofs.Common.{arith, ◌≡◌, refl, ap, sym, subst, ◌∙◌, ℕ, zero, suc, Bool, true, false, List, [], ◌∷◌, ◌++◌, map, Some, None, Result, Ok, Err, IfOk, IfSome, Option, OnOk}
use Rattle.std.proofs.lemmas.List.{map-append, append-nil}
use Rattle.std.proofs.lemmas.List.Concat.{flat_map-append}
use Rattle.std.proofs.lemmas.List.Elements.{All-nil, All-cons}
use Rattle.std.specs.List.{AllPass}
use Rattle.postscript_type2.specs.declared.operation.Operator.{Operator}
use Rattle.postscript_type2.specs.Program.States.{State, start}
use Rattle.postscript_type2.specs.Program.Evaluation.{at_end, followed, Stride, stride, Callee, paced, routine, callee, mean, run_of, with_phrase, after_call}
use Rattle.postscript_type2.specs.Program.Flat.{flat_by, flat_said, flat_bytes, flat_text}
use Rattle.postscript_type2.specs.Program.Inlining.{is_flat, KeepsMeaning, FlatTextKeepsMeaning}
use Rattle.postscript_type2.specs.Program.Routines.{Lists}
use Rattle.postscript_type2.specs.Program.Runs.{Answer, Phrase, End, UsedUp, Returned, Finished, Fault, Run, fault_of, taken_by, width_by, width_of}
use Rattle.postscript_type2.proofs.InFlat.{InFlat, in-flat}

-- no fault, and where the run was used up nothing follows
abbrev MayFollow : End → List ℕ → Type 0
MayFollow UsedUp x = x ≡ []
MayFollow (Returned st) x = Unit {0}
MayFollow (Finished taken width) x = Unit {0}
MayFollow (Fault e) x = ⊥

-- how flat code goes on with bytes that follow it
abbrev onward : Lists → (left : ℕ) → End → List ℕ → Run
onward other left UsedUp x = at_end UsedUp
onward other left (Returned st) x = mean other left false x st
onward other left (Finished taken width) x = at_end (Finished taken width)
onward other left (Fault e) x = at_end (Fault e)

-- a run's answers and its flat trace, and then another run
abbrev flattened : Run → Run → Run
flattened run next = record { answers = run.answers ++ next.answers; trace = map flat_said run.trace ++ next.trace; end = next.end }

-- flat code of a run from a state, whatever follows it, means the run's answers, and then what follows
abbrev Inlines : (other : Lists) (left : ℕ) → State → Run → Type 0
Inlines other left st run =
    (x : List ℕ) → MayFollow run.end x → mean other left false (flat_text run.trace ++ x) st ≡ flattened run (onward other left run.end x)

-- the same of a subroutine
abbrev AllInline : (other : Lists) (left : ℕ) → Callee → Type 0
AllInline other left None = Unit {0}
AllInline other left (Some means) = (sub : List ℕ) (st : State) → Inlines other left st (means sub st)

flattened-two : (run go next : Run) → flattened run (flattened go next) ≡ flattened (followed run (λ end. go)) next
flattened-two run go next = grind (arith, nat_tests, common_steps, map-append)

-- nothing follows
pub followed-ends : (a : List Answer) (t : List Phrase) (before end : End) →
    followed (record { answers = a; trace = t; end = before }) (λ e. at_end end) ≡ record { answers = a; trace = t; end = end }
followed-ends a t before end = grind (arith, append-nil)

-- a call's run, and what comes of its end
inline-followed : (other : Lists) (left : ℕ) (inner : Bool) (after : List ℕ) (st : State) (go : State → Run) →
    ((st' : State) → Inlines other left st' (go st')) →
    (a : List Answer) (t : List Phrase) (e : End) → Inlines other left st (record { answers = a; trace = t; end = e }) →
    Inlines other left st (followed (record { answers = a; trace = t; end = e }) (after_call inner after go))
inline-followed other left inner after st go next a t e ih =
    grind (arith, nat_tests, common_steps, followed-ends, flat_map-append, flattened-two)

-- a phrase, and a run behind it
inline-told : (other : Lists) (left : ℕ) (st : State) (said : Phrase) (run : Run) (go : List ℕ → Run) →
    ((x : List ℕ) → mean other left false (flat_bytes said ++ x) st ≡ with_phrase (flat_said said) (go x)) →
    ((x : List ℕ) → MayFollow run.end x → go (flat_text run.trace ++ x) ≡ flattened run (onward other left run.end x)) → Inlines other
    left st (with_phrase said run)
inline-told other left st said run go tells ih = grind (arith, nat_tests, common_steps)

inline-by : (other : Lists) (left : ℕ) (callee : Callee) → AllInline other left callee → (inner : Bool) (r : List ℕ) (st : State)
    (go : ℕ → State → Run) → ((more : ℕ) (st' : State) → Inlines other left st' (go more st')) → (s : Stride) → InFlat other left st s →
    Inlines other left st (paced callee inner r go s)
inline-by other left callee subs inner r st go next s flat = grind (arith, nat_tests, common_steps, inline-told, inline-followed)

inline-routine : (lists other : Lists) (left : ℕ) (callee : Callee) → AllInline other left callee → (inner : Bool) (k : ℕ) (r : List ℕ)
    (st : State) →
    Inlines other left st (routine lists callee inner k r st)
inline-routine lists other left callee subs inner zero [] st = λ x m. ap (λ bytes. mean other left false bytes st) m
inline-routine lists other left callee subs inner (suc k) [] st = λ x m. ap (λ bytes. mean other left false bytes st) m
inline-routine lists other left callee subs inner (suc k) (b ∷ r) st = inline-routine lists other left callee subs inner k r st
inline-routine lists other left callee subs inner zero (b ∷ r) st =
    inline-by other left callee subs inner r st (λ more st'. routine lists callee inner more r st')
    (λ more st'. inline-routine lists other left callee subs inner more r st')
    (stride lists (b ∷ r) st) (in-flat lists other left b r st)

inline-callee : (lists other : Lists) (left nested : ℕ) → AllInline other left (callee lists nested)
inline-callee lists other left zero = tt
inline-callee lists other left (suc nested) =
    λ sub st. inline-routine lists other left (callee lists nested) (inline-callee lists other left nested) true 0 sub st

-- flat code stays as it is
flat-flat : (op : Operator) (bytes : List ℕ) → flat_said (flat_by op bytes) ≡ flat_by op bytes
flat-flat op bytes = grind arith

flat-text : (trace : List Phrase) → flat_text (map flat_said trace) ≡ flat_text trace
flat-text [] = refl
flat-text (said ∷ trace) =
    ap (λ s. s.bytes ++ flat_text (map flat_said trace)) (flat-flat said.operator said.bytes)
    ∙ ap (λ bytes. flat_bytes said ++ bytes) (flat-text trace)

is-flat : (op : Operator) (bytes : List ℕ) → is_flat (flat_by op bytes).operator ≡ true
is-flat op bytes = grind arith

all-flat : (trace : List Phrase) → AllPass (λ said. is_flat said.operator) (map flat_said trace)
all-flat [] = All-nil _
all-flat (said ∷ trace) =
    All-cons (λ x. is_flat x.operator ≡ true) (flat_said said) (map flat_said trace) (is-flat said.operator said.bytes) (all-flat trace)

-- the end of flat code
abbrev pub flat_end : End → End
flat_end (Returned st) = UsedUp
flat_end end = end

pub flat-fault : (end : End) → fault_of (flat_end end) ≡ fault_of end
flat-fault end = grind arith

pub flat-width : (a : List Answer) (end : End) → width_by None a (flat_end end) ≡ width_by None a end
flat-width a end = grind arith

pub flat-taken : (end : End) → taken_by (flat_end end) ≡ taken_by end
flat-taken end = grind arith

-- with nothing behind it
flat-alone : (other : Lists) (left : ℕ) (st : State) (a : List Answer) (t : List Phrase) (end : End) →
    Inlines other left st (record { answers = a; trace = t; end = end }) →
    fault_of end ≡ None → mean other left false (flat_text t) st ≡ record { answers = a; trace = map flat_said t; end = flat_end end }
flat-alone other left st a t end flat none =
    ap (λ bytes. mean other left false bytes st) (sym (append-nil (flat_text t))) ∙ by_end end flat none
  where
    by_end : (end : End) → Inlines other left st (record { answers = a; trace = t; end = end }) → fault_of end ≡ None →
        mean other left false (flat_text t ++ []) st ≡ record { answers = a; trace = map flat_said t; end = flat_end end }
    by_end UsedUp flat none = flat [] refl ∙ followed-ends a (map flat_said t) UsedUp UsedUp
    by_end (Returned st') flat none = flat [] tt ∙ followed-ends a (map flat_said t) UsedUp UsedUp
    by_end (Finished taken width) flat none = flat [] tt ∙ followed-ends a (map flat_said t) UsedUp (Finished taken width)
    by_end (Fault e) flat none = absurd (cc)

-- The flat text of a faultless run keeps its meaning over any lists.
pub keeps_meaning : (lists : Lists) (code : List ℕ) → fault_of (run_of lists code).end ≡ None →
    (other : Lists) → KeepsMeaning other (flat_text (run_of lists code).trace) (run_of lists code)
keeps_meaning lists code none other =
    of_run (run_of lists code) (inline-routine lists other 10 (callee lists 10) (inline-callee lists other 10 10) false 0 code start) none
  where
    of_run : (run : Run) → Inlines other 10 start run → fault_of run.end ≡ None → KeepsMeaning other (flat_text run.trace) run
    of_run run flat none =
        let same : run_of other (flat_text run.trace) ≡ record {
          answers = run.answers;
          trace = map flat_said run.trace;
          end = flat_end run.end;
        } =
        flat-alone other 10 start run.answers run.trace run.end flat none in
        record {
          answers = ap (λ r. r.answers) same;
          width = ap width_of same ∙ flat-width run.answers run.end;
          taken = ap (λ r. taken_by r.end) same ∙ flat-taken run.end;
          faultless = ap (λ r. fault_of r.end) same ∙ flat-fault run.end ∙ none;
          no_calls = subst (λ r. AllPass (λ said. is_flat said.operator) r.trace) (sym same) (all-flat run.trace);
          own_text = ap (λ r. flat_text r.trace) same ∙ flat-text run.trace;
        }

pub law : FlatTextKeepsMeaning
law lists other code none = keeps_meaning lists code none other

-- the same of a result that is the flat text
pub keeps-result : {V E : Type 0} (items : V → List ℕ) (lists : Lists) (code : List ℕ) (r : Result V E) →
    OnOk r (fault_of (run_of lists code).end ≡ None) → IfOk r (λ flat. items flat ≡ flat_text (run_of lists code).trace) →
    IfOk r (λ flat. (other : Lists) → KeepsMeaning other (items flat) (run_of lists code))
keeps-result items lists code (Ok flat) none text =
    λ other. subst (λ bytes. KeepsMeaning other bytes (run_of lists code)) (sym text) (keeps_meaning lists code none other)
keeps-result items lists code (Err e) none text = tt

pub keeps-told : {V E : Type 0} (items : V → List ℕ) (lists : Lists) (code : List ℕ) (r : Result (Option V) E) →
    IfOk r (λ told. IfSome told (λ _. fault_of (run_of lists code).end ≡ None)) → IfOk r
    (λ told. IfSome told (λ flat. items flat ≡ flat_text (run_of lists code).trace)) →
    IfOk r (λ told. IfSome told (λ flat. (other : Lists) → KeepsMeaning other (items flat) (run_of lists code)))
keeps-told {V} {E} items lists code (Ok (Some flat)) none text = keeps-result {V = V} {E = E} items lists code (Ok flat) none text
keeps-told items lists code (Ok None) none text = tt
keeps-told items lists code (Err e) none text = tt
