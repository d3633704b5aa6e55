-- The operations of a run have as many operands as their operators take.
use Rattle.std.proofs.Common.{◌≡◌, ℕ, zero, suc, ◌-◌, ◌≤◌, Bool, true, false, ℤ, List, [], ◌∷◌, ◌++◌, length, Option, Some, None, Result, Ok, Err, arith, refl, sym, subst, ap, ◌∙◌, if◌then◌else◌, length-drop}
use Rattle.postscript_base.specs.Refusal.{Refusal}
use Rattle.postscript_drawing.specs.Fitting.{AllFit, Fits, RunsFit}
use Rattle.postscript_type2.specs.declared.operation.Operator.{Operator}
use Rattle.postscript_type2.specs.Operation.Kinds.{Kind, Draws, DeclaresStems, Masks, Works, Stores, CallsFrom, GoesBack, EndsGlyph, IsRefused, kind, lengths, taken}
use Rattle.postscript_type2.specs.Operation.Lengths.{greatest}
use Rattle.postscript_type2.specs.Program.Effects.{Effect, Clears, Refuses, call_move, clearing, effect_of, last_of, mask_clearing, store_move, work_move}
use Rattle.postscript_type2.specs.Program.States.{State, pushed}
use Rattle.postscript_type2.specs.Program.Meaning.{Means}
use Rattle.postscript_type2.specs.Program.Meaning as rules
use Rattle.postscript_type2.specs.Program.Routines.{Lists}
use Rattle.postscript_type2.specs.Program.Runs.{Answer, Phrase, End}

-- the greatest number that passes is itself the greatest up to it
greatest-fits : (test : ℕ → Bool) (n m : ℕ) → greatest test n ≡ Some m → (m ≤ n) × (greatest test m ≡ Some m)
greatest-fits test zero m is = by_test (test 0) refl is
  where
    by_test : (b : Bool) → test 0 ≡ b → (if b then Some 0 else None) ≡ Some m → (m ≤ 0) × (greatest test m ≡ Some m)
    by_test true passes e =
        let z : 0 ≡ m = cc in subst (λ k. (k ≤ 0) × (greatest test k ≡ Some k)) z (omega arith, ap (λ v. if v then Some 0 else None) passes)
    by_test false fails e = cc
greatest-fits test (suc n) m is = by_test (test (suc n)) refl (greatest-fits test n m) is
  where
    by_test : (b : Bool) → test (suc n) ≡ b → (greatest test n ≡ Some m → (m ≤ n) × (greatest test m ≡ Some m)) →
        (if b then Some (suc n) else greatest test n) ≡ Some m → (m ≤ suc n) × (greatest test m ≡ Some m)
    by_test true passes lower e =
        let z : suc n ≡ m = cc in
        subst (λ k. (k ≤ suc n) × (greatest test k ≡ Some k)) z (omega arith, ap (λ v. if v then Some (suc n) else greatest test n) passes)
    by_test false fails lower e = let below = lower e in (omega (arith, below.0), below.1)

-- the last operands of a stack, as many as are taken
fits-last : (op : Operator) (stack : List ℤ) (m : ℕ) → taken op (length stack) ≡ Some m → Fits op (last_of stack m)
fits-last op stack m is =
    let fits = greatest-fits (lengths (kind op)) (length stack) m is in
    let size : length (last_of stack m) ≡ m = length-drop (length stack - m) stack ∙ omega (arith, fits.0) in
    subst (λ n. taken op n ≡ Some n) (sym size) fits.1

fits-clearing : (op : Operator) (st : State) (stems : ℕ) (o : Option ℕ) (t u : List ℤ) (s m : ℕ) (w : Option ℤ) →
    taken op (length st.stack) ≡ o → clearing st stems o ≡ Clears t u s w m → Fits op t
fits-clearing op st stems (Some n) t u s m w is e = let z : last_of st.stack n ≡ t = cc in subst (Fits op) z (fits-last op st.stack n is)
fits-clearing op st stems None t u s m w is e = cc

fits-mask : (op : Operator) (st : State) (stems : ℕ) (o : Option ℕ) (t u : List ℤ) (s m : ℕ) (w : Option ℤ) →
    taken op (length st.stack) ≡ o → mask_clearing st stems o ≡ Clears t u s w m → Fits op t
fits-mask op st stems (Some n) t u s m w is e = let z : last_of st.stack n ≡ t = cc in subst (Fits op) z (fits-last op st.stack n is)
fits-mask op st stems None t u s m w is e = cc

-- a move that is chosen by a test, and else is a refusal
chosen : (b : Bool) (e : Refusal) (move other : Effect) → (if b then move else Refuses e) ≡ other →
    ((r : Refusal) → other ≡ Refuses r → ⊥) → move ≡ other
chosen true e move other is not = is
chosen false e move other is not = absurd (not e (sym is))

chosen-not : (b : Bool) (e : Refusal) (move other : Effect) → (if b then Refuses e else move) ≡ other →
    ((r : Refusal) → other ≡ Refuses r → ⊥) → move ≡ other
chosen-not true e move other is not = absurd (not e (sym is))
chosen-not false e move other is not = is

clears-apart : (t u : List ℤ) (s m : ℕ) (w : Option ℤ) (r : Refusal) → Clears t u s w m ≡ Refuses r → ⊥
clears-apart t u s m w r e = cc

no-work : (stored : List ℤ) (r : Result (Unit {0} × List ℤ) Refusal) (t u : List ℤ) (s m : ℕ) (w : Option ℤ) →
    work_move stored r ≡ Clears t u s w m → ⊥
no-work stored (Ok done) t u s m w e = cc
no-work stored (Err r) t u s m w e = cc

no-store : (r : Result (List ℤ × List ℤ) Refusal) (t u : List ℤ) (s m : ℕ) (w : Option ℤ) → store_move r ≡ Clears t u s w m → ⊥
no-store (Ok done) t u s m w e = cc
no-store (Err r) t u s m w e = cc

no-call : (r : Result (List ℕ × List ℤ) Refusal) (t u : List ℤ) (s m : ℕ) (w : Option ℤ) → call_move r ≡ Clears t u s w m → ⊥
no-call (Ok done) t u s m w e = cc
no-call (Err r) t u s m w e = cc

-- what is answered where the stack is cleared
fits-effect : (k : Kind) (lists : Lists) (op : Operator) (behind : List ℕ) (st : State) (t u : List ℤ) (s m : ℕ) (w : Option ℤ) →
    effect_of k lists op behind st ≡ Clears t u s w m → Fits op t
fits-effect (Draws takes) lists op behind st t u s m w e = fits-clearing op st st.stems _ t u s m w refl e
fits-effect (DeclaresStems takes) lists op behind st t u s m w e =
    fits-clearing op st _ _ t u s m w refl (chosen _ _ _ _ e (clears-apart t u s m w))
fits-effect (Masks takes) lists op behind st t u s m w e =
    fits-mask op st _ _ t u s m w refl (chosen-not _ _ _ _ (chosen _ _ _ _ e (clears-apart t u s m w)) (clears-apart t u s m w))
fits-effect (Works work) lists op behind st t u s m w e = absurd (no-work _ _ t u s m w e)
fits-effect (Stores work) lists op behind st t u s m w e = absurd (no-store _ t u s m w e)
fits-effect (CallsFrom routines) lists op behind st t u s m w e = absurd (no-call _ t u s m w e)
fits-effect GoesBack lists op behind st t u s m w e = cc
fits-effect EndsGlyph lists op behind st t u s m w e = cc
fits-effect (IsRefused part) lists op behind st t u s m w e = cc

fit-append : (xs ys : List Answer) → AllFit xs → AllFit ys → AllFit (xs ++ ys)
fit-append [] ys h k = k
fit-append (x ∷ xs) ys h k = (h.0, fit-append xs ys h.1 k)

fit : (lists : Lists) {d : ℕ} {rest : List ℕ} {st : State} {xs : List Answer} {ts : List Phrase} {end : End} →
    Means lists d rest st xs ts end → AllFit xs
fit lists (rules.used_up d st) = tt
fit lists (rules.unread d rest st e some none) = tt
fit lists (rules.refused d p behind ns op st e moves) = tt
fit lists (rules.keeps d p behind ns op st stack stored xs ts end moves later) = fit lists later
fit lists (rules.clears d p q behind ns op st t u s w xs ts end moves later) =
    (fits-effect (kind op) lists op (q ++ behind) (pushed ns st) t u s (length q) w moves.does, fit lists later)
fit lists (rules.calls_too_deep d p behind ns op st sub stack moves deep) = tt
fit lists (rules.calls d p behind ns op st sub stack inner inner_trace back xs ts end moves room means later) =
    fit-append inner xs (fit lists means) (fit lists later)
fit lists (rules.calls_to_stop d p behind ns op st sub stack inner inner_trace end moves room means stops) = fit lists means
fit lists (rules.calls_to_finish d p behind ns op st sub stack inner inner_trace taken width end moves room means closes) = fit lists means
fit lists (rules.returns d p behind ns op st moves room) = tt
fit lists (rules.returns_nowhere p behind ns op st moves) = tt
fit lists (rules.finishes d p behind ns op st taken width end moves closes) = tt

pub runs-fit : RunsFit
runs-fit lists code run means = fit lists means
