-- Numbers that stand before a phrase, in place of operands on the stack.
use Rattle.std.proofs.Math.Seq.{take-append-add, drop-append-add}
use Rattle.std.proofs.Common.{◌≡◌, refl, ap, sym, ◌∙◌, ℕ, zero, suc, ◌+◌, ◌<◌, false, List, [], ◌∷◌, ◌++◌, take, drop, length, length-append, append_assoc, ℤ, arith}
use Rattle.postscript_base.specs.Refusal.{too_deep, return_without_caller}
use Rattle.postscript_type2.specs.declared.operation.Operator.{Operator}
use Rattle.postscript_type2.specs.Program.Effects.{Effect, Keeps, Clears, Calls, Returns, Ends, Refuses, effect}
use Rattle.postscript_type2.specs.Program.States.{State, pushed, stacked, holding, cleared}
use Rattle.postscript_type2.specs.Program.Evaluation.{with_phrase, with_answer, at_end, answered, moved, stride_by, mean}
use Rattle.postscript_type2.specs.Program.Inlined.{put_before, text}
use Rattle.postscript_type2.specs.Program.Meaning.{answer, hinting}
use Rattle.postscript_type2.specs.Program.Parsing.{Parsed, phrase, fronted, Complete, NoPhrase}
use Rattle.postscript_type2.specs.Program.Routines.{Lists}
use Rattle.postscript_type2.specs.Program.Runs.{Answer, Phrase, by, End, Finished, Fault, Run}
use Rattle.postscript_type2.specs.Private.Remaining.{still, next_still}
use Rattle.postscript_type2.proofs.Strides.{still_step-at}

-- bytes that are numbers, whatever follows them
abbrev pub Fronts : (front : List ℕ) → List ℤ → Type 0
Fronts front numbers = (y : List ℕ) → phrase (front ++ y) ≡ fronted numbers (length front) (phrase y)

-- a run whose first phrase has numbers before it
abbrev pub fronting : List ℕ → Run → Run
fronting front run = record { answers = run.answers; trace = put_before front run.trace; end = run.end }

-- what stands past a front and so many bytes
past : (P : List ℕ → List ℕ → Run) (front x : List ℕ) (i k : ℕ) → i ≡ length front + k → P (take i (front ++ x))
    (drop i (front ++ x)) ≡ P (front ++ take k x) (drop k x)
past P front x i k is = grind (arith, take-append-add, drop-append-add)

moved-past : (other : Lists) (left : ℕ) (front x : List ℕ) (op : Operator) (more : ℕ) (st : State) (move : Effect) →
    next_still other left (λ k. drop (k + 1) (front ++ x)) [] (moved op (length front + more) (front ++ x) st move)
    ≡ fronting front (next_still other left (λ k. drop (k + 1) x) [] (moved op more x st move))
moved-past other left front x op more st (Keeps stack stored) =
    past (λ t d. with_phrase (by op t) (mean other left false d (holding stack stored st))) front x (length front + more + 1) (more + 1)
    (omega arith)
moved-past other left front x op more st (Clears taken pairs stems width mask) =
    let bytes : List ℕ = take (more + mask + 1) x in
    let behind : drop (length front + more + 1) (front ++ bytes) ≡ drop (more + 1) bytes =
    ap (λ i. drop i (front ++ bytes)) (let e : length front + more + 1 ≡ length front + (more + 1) = omega arith in e)
    ∙ drop-append-add front bytes (more + 1) in
    past (λ t d. with_phrase (by op t)
    (with_answer (answered op taken pairs (length front + more) t width) (mean other left false d (cleared stems width st))))
    front x (length front + more + mask + 1) (more + mask + 1) (omega arith)
    ∙ ap (λ q. with_phrase (by op (front ++ bytes))
    (with_answer (answer op taken (hinting pairs q) width) (mean other left false (drop (more + mask + 1) x) (cleared stems width st))))
    behind
moved-past other zero front x op more st (Calls routine stack) =
    past (λ t d. with_phrase (by op t) (at_end (Fault too_deep))) front x (length front + more + 1) (more + 1) (omega arith)
moved-past other (suc left) front x op more st (Calls routine stack) =
    past (λ t d. with_phrase (by op t) (still other left routine (d ∷ []) (stacked stack st))) front x (length front + more + 1)
    (more + 1) (omega arith)
moved-past other left front x op more st Returns =
    past (λ t d. with_phrase (by op t) (at_end (Fault return_without_caller))) front x (length front + more + 1) (more + 1) (omega arith)
moved-past other left front x op more st (Ends taken width) =
    past (λ t d. with_phrase (by op t) (at_end (Finished taken width))) front x (length front + more + 1) (more + 1) (omega arith)
moved-past other left front x op more st (Refuses e) = refl

-- the state with numbers of both on its stack
pushed-two : (numbers more : List ℤ) (st : State) → pushed (numbers ++ more) st ≡ pushed more (pushed numbers st)
pushed-two numbers more st = ap (λ stack. stacked stack st) (sym (append_assoc st.stack numbers more))

phrase-past : (other : Lists) (left : ℕ) (front x : List ℕ) (numbers : List ℤ) (st : State) (p : Parsed) →
    next_still other left (λ k. drop (k + 1) (front ++ x)) [] (stride_by other (front ++ x) st (fronted numbers (length front) p))
    ≡ fronting front (next_still other left (λ k. drop (k + 1) x) [] (stride_by other x (pushed numbers st) p))
phrase-past other left front x numbers st (NoPhrase e) = refl
phrase-past other left front x numbers st (Complete more op n) =
    let behind : drop (length front + n + 1) (front ++ x) ≡ drop (n + 1) x =
    ap (λ i. drop i (front ++ x)) (let e : length front + n + 1 ≡ length front + (n + 1) = omega arith in e)
    ∙ drop-append-add front x (n + 1) in
    ap (λ s. next_still other left (λ k. drop (k + 1) (front ++ x)) []
    (moved op (length front + n) (front ++ x) s (effect other op (drop (length front + n + 1) (front ++ x)) s)))
    (pushed-two numbers more st)
    ∙ ap (λ b. next_still other left (λ k. drop (k + 1) (front ++ x)) []
    (moved op (length front + n) (front ++ x) (pushed more (pushed numbers st)) (effect other op b (pushed more (pushed numbers st)))))
    behind
    ∙ moved-past other left front x op n (pushed more (pushed numbers st))
    (effect other op (drop (n + 1) x) (pushed more (pushed numbers st)))

-- Before bytes that are not empty numbers do what they do on the stack, and are told with the first phrase.
pub carried : (other : Lists) (left : ℕ) (front : List ℕ) (numbers : List ℤ) → Fronts front numbers → (x : List ℕ) → 0 < length x →
    (st : State) →
    mean other left false (front ++ x) st ≡ fronting front (mean other left false x (pushed numbers st))
carried other left front numbers fronts x h st =
    still_step-at other left (front ++ x) [] st (let l = length-append front x in omega (arith, l))
    ∙ ap (λ p. next_still other left (λ k. drop (k + 1) (front ++ x)) [] (stride_by other (front ++ x) st p)) (fronts x)
    ∙ phrase-past other left front x numbers st (phrase x)
    ∙ sym (ap (fronting front) (still_step-at other left x [] (pushed numbers st) h))

-- so before phrases whose text has a run of them
pub carried-text : (other : Lists) (left : ℕ) (front : List ℕ) (numbers : List ℤ) → Fronts front numbers → (st : State) (a : List Answer)
    (phrases : List Phrase) (end : End) →
    mean other left false (text phrases) (pushed numbers st) ≡ record { answers = a; trace = phrases; end = end } →
    mean other left false (text (put_before front phrases)) st ≡ record { answers = a; trace = put_before front phrases; end = end }
carried-text other left front numbers fronts st a [] end is = is
carried-text other left front numbers fronts st a (said ∷ phrases) end is =
    ap (λ bytes. mean other left false bytes st) (append_assoc front said.bytes (text phrases)) ∙ by_bytes (said.bytes ++ text phrases) is
  where
    by_bytes : (x : List ℕ) → mean other left false x (pushed numbers st) ≡ record { answers = a; trace = said ∷ phrases; end = end } →
        mean other left false (front ++ x) st ≡ record { answers = a; trace = put_before front (said ∷ phrases); end = end }
    by_bytes [] is = let none : [] ≡ said ∷ phrases = ap (λ r. r.trace) is in absurd (cc)
    by_bytes (b ∷ x) is = carried other left front numbers fronts (b ∷ x) (omega arith) st ∙ ap (fronting front) is
