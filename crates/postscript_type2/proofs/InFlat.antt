-- One phrase of a run, in flat code.
use Rattle.std.proofs.lemmas.Grind.{common_steps}
use Rattle.std.proofs.Math.Seq.{take-append_seam, drop-append_seam, take-add}
use Rattle.std.proofs.lemmas.Bool.Decides.{nat_tests}
use Rattle.std.proofs.lemmas.List.{append-nil, length-take-le, take-take}
use Rattle.std.proofs.Common.{◌≡◌, refl, ap, sym, subst, ◌∙◌, ℕ, suc, ◌+◌, ◌<◌, ◌≤◌, ◌^◌, Bool, true, false, List, [], ◌∷◌, ◌++◌, take, drop, length, length-append, length-drop, append_assoc, add-one, nat_lt, ℤ, pos, Option, Some, None, Result, Ok, Err, slice_get, if◌then◌else◌, arith}
use Rattle.postscript_base.specs.Refusal.{Refusal, unexpected_eof, too_many_stems}
use Rattle.postscript_type2.specs.declared.operation.Operator.{Operator}
use Rattle.postscript_type2.specs.declared.operation.Operator.TheVariants.{Drop}
use Rattle.postscript_type2.specs.Program.Effects.{Effect, Keeps, Clears, Calls, Returns, Ends, Refuses, clearing, with_stems, mask_len, mask_clearing, work_move, store_move, subroutine, call_move, end_move, effect_of, effect}
use Rattle.postscript_type2.specs.Program.States.{State, stems_after, pushed, stacked, holding, cleared}
use Rattle.postscript_type2.specs.Program.Evaluation.{with_phrase, with_answer, with_any_answer, at_end, Stride, On, Into, Back, Over, Faults, said, answered, moved, stride_by, stride, mean}
use Rattle.postscript_type2.specs.Program.Flat.{without_operator, dropping, flat_of, flat_by, flat_said}
use Rattle.postscript_type2.specs.Operation.Kinds.{Kind, Draws, DeclaresStems, Masks, Works, Stores, CallsFrom, GoesBack, EndsGlyph, IsRefused, kind, taken}
use Rattle.postscript_type2.specs.Program.Parsing.{Parsed, Complete, NoPhrase, phrase, fronted}
use Rattle.postscript_type2.specs.Program.Routines.{Lists}
use Rattle.postscript_type2.specs.Program.Runs.{Phrase, Finished, Run}
use Rattle.postscript_type2.specs.Program.Stacks.{removal}
use Rattle.postscript_type2.specs.Private.Remaining.{next_still}
use Rattle.postscript_type2.proofs.Locals.{stands_flat, IsLocal, Local, local}
use Rattle.postscript_type2.proofs.Strides.{still_step-at}

-- a phrase in the outermost code, whatever follows it, is told, and then a run
abbrev pub Tells : (other : Lists) (left : ℕ) → State → Phrase → (List ℕ → Run) → Type 0
Tells other left st said run = (x : List ℕ) → mean other left false (said.bytes ++ x) st ≡ with_phrase said (run x)

-- What a stride's phrase means in flat code, whatever follows it: what it means in the run. A call and a return only take
-- a number off the stack.
abbrev pub InFlat : (other : Lists) (left : ℕ) → State → Stride → Type 0
InFlat other left st (On said answer st' more) =
    Tells other left st (flat_said said) (λ x. with_any_answer answer (mean other left false x st'))
InFlat other left st (Into said routine st' more) = Tells other left st (flat_said said) (λ x. mean other left false x st')
InFlat other left st (Back said st') = Tells other left st (flat_said said) (λ x. mean other left false x st')
InFlat other left st (Over said taken width more) = Tells other left st (flat_said said) (λ x. at_end (Finished taken width))
InFlat other left st (Faults e) = Unit {0}

-- the same by an operator's move, where it neither calls nor returns, and these are its bytes
abbrev MeansInFlat : (other : Lists) (left : ℕ) → State → Phrase → Operator → (more : ℕ) → List ℕ → State → Effect → Type 0
MeansInFlat other left st said op more bytes st' (Keeps stack stored) =
    Tells other left st said (λ x. mean other left false x (holding stack stored st'))
MeansInFlat other left st said op more bytes st' (Clears taken pairs stems width mask) =
    Tells other left st said (λ x. with_answer (answered op taken pairs more bytes width)
    (mean other left false x (cleared stems width st')))
MeansInFlat other left st said op more bytes st' (Calls routine stack) = ⊥
MeansInFlat other left st said op more bytes st' Returns = ⊥
MeansInFlat other left st said op more bytes st' (Ends taken width) = Tells other left st said (λ x. at_end (Finished taken width))
MeansInFlat other left st said op more bytes st' (Refuses e) = Unit {0}

abbrev pub IsOwn : Effect → Type 0
IsOwn (Calls routine stack) = ⊥
IsOwn Returns = ⊥
IsOwn move = Unit {0}

-- the bytes of a mask, and those of a phrase with them
abbrev pub mask_of : Effect → ℕ
mask_of (Clears taken pairs stems width mask) = mask
mask_of move = 0

abbrev extent : (more : ℕ) → Effect → ℕ
extent more (Clears taken pairs stems width mask) = more + mask
extent more move = more

extent-is : (more : ℕ) (move : Effect) → extent more move ≡ more + mask_of move
extent-is more move = grind arith

-- a front of so many bytes, and what follows it
cut : (P : List ℕ → List ℕ → Run) (front x : List ℕ) (n : ℕ) → length front ≡ n → P (take n (front ++ x)) (drop n (front ++ x)) ≡ P front x
cut P front x n h = grind (arith, take-append_seam, drop-append_seam)

-- bytes that are a phrase with this move, whatever follows them
phrase-in : (other : Lists) (left : ℕ) (bytes : List ℕ) (st : State) (ns : List ℤ) (op : Operator) (more : ℕ) (move : Effect) → IsOwn move →
    ((x : List ℕ) → phrase (bytes ++ x) ≡ Complete ns op more) → ((x : List ℕ) → effect other op (drop (more + 1) (bytes ++ x))
    (pushed ns st) ≡ move) →
    length bytes ≡ extent more move + 1 → MeansInFlat other left st (record { operator = op; bytes = bytes }) op more bytes
    (pushed ns st) move
phrase-in other left bytes st ns op more move own reads does long = by_move move own long step
  where
    step : (x : List ℕ) →
        mean other left false (bytes ++ x) st ≡ next_still other left (λ k. drop (k + 1) (bytes ++ x)) []
        (moved op more (bytes ++ x) (pushed ns st) move)
    step x = still_step-at other left (bytes ++ x) [] st (let l = length-append bytes x in omega (arith, long))
        ∙ ap (λ p. next_still other left (λ k. drop (k + 1) (bytes ++ x)) [] (stride_by other (bytes ++ x) st p)) (reads x)
        ∙ ap (λ m. next_still other left (λ k. drop (k + 1) (bytes ++ x)) [] (moved op more (bytes ++ x) (pushed ns st) m)) (does x)

    by_move : (move : Effect) → IsOwn move → length bytes ≡ extent more move + 1 →
        ((x : List ℕ) → mean other left false (bytes ++ x) st ≡ next_still other left (λ k. drop (k + 1) (bytes ++ x)) []
        (moved op more (bytes ++ x) (pushed ns st) move)) →
        MeansInFlat other left st (record { operator = op; bytes = bytes }) op more bytes (pushed ns st) move
    by_move (Keeps stack stored) own l is = λ x.
        is x ∙ cut (λ t d. with_phrase (record { operator = op; bytes = t })
        (mean other left false d (holding stack stored (pushed ns st)))) bytes x (more + 1) l
    by_move (Clears taken pairs stems width mask) own l is = λ x.
        is x ∙ cut (λ t d. with_phrase (record { operator = op; bytes = t })
        (with_answer (answered op taken pairs more t width) (mean other left false d (cleared stems width st)))) bytes x (more + mask + 1) l
    by_move (Calls routine stack) own l is = own
    by_move Returns own l is = own
    by_move (Ends taken width) own l is =
        λ x. is x ∙ cut (λ t d. with_phrase (record { operator = op; bytes = t }) (at_end (Finished taken width))) bytes x (more + 1) l
    by_move (Refuses e) own l is = tt

-- an operator that stands in flat code as it is
pub flat-own : (op : Operator) (bytes : List ℕ) (k : Kind) → kind op ≡ k → stands_flat k ≡ true →
    flat_by op bytes ≡ record { operator = op; bytes = bytes }
flat-own op bytes k is own = grind arith

-- An operator that stands in flat code as it is, with a move that is the same over other lists before any bytes, as many at
-- least as its mask has.
own-in : (other : Lists) (left : ℕ) (b : ℕ) (r : List ℕ) (st : State) (ns : List ℤ) (op : Operator) (more : ℕ) →
    IsLocal 0 (b ∷ r) ns op more →
    (move : Effect) → IsOwn move → stands_flat (kind op) ≡ true → more + mask_of move < length (b ∷ r) →
    ((after : List ℕ) → mask_of move ≤ length after → effect other op after (pushed ns st) ≡ move) → InFlat other left st
    (moved op more (b ∷ r) (pushed ns st) move)
own-in other left b r st ns op more l move own flat room does =
    by_move move own (subst (λ s. MeansInFlat other left st s op more bytes (pushed ns st) move)
    (sym (flat-own op bytes (kind op) refl flat)) means)
  where
    bytes : List ℕ
    bytes = take (extent more move + 1) (b ∷ r)

    mask : List ℕ
    mask = take (mask_of move) (drop (more + 1) (b ∷ r))

    long : length bytes ≡ extent more move + 1
    long = length-take-le (extent more move + 1) (b ∷ r) (let e = extent-is more move in omega arith)

    parts : (x : List ℕ) → bytes ++ x ≡ take (suc more) (b ∷ r) ++ (mask ++ x)
    parts x =
        ap (λ k. take k (b ∷ r) ++ x)
        (let e : extent more move + 1 ≡ more + 1 + mask_of move = let f = extent-is more move in omega arith in e)
        ∙ ap (λ t. t ++ x) (take-add (more + 1) (mask_of move) (b ∷ r)) ∙ append_assoc (take (more + 1) (b ∷ r)) mask x
        ∙ ap (λ k. take k (b ∷ r) ++ (mask ++ x)) (add-one more)

    enough : (x : List ℕ) → mask_of move ≤ length (drop (more + 1) (bytes ++ x))
    enough x = omega (arith, length-drop (more + 1) (bytes ++ x), length-append bytes x, long, extent-is more move)

    means : MeansInFlat other left st (record { operator = op; bytes = bytes }) op more bytes (pushed ns st) move
    means =
        phrase-in other left bytes st ns op more move own (λ x. ap phrase (parts x) ∙ l.stands (mask ++ x))
        (λ x. does (drop (more + 1) (bytes ++ x)) (enough x)) long

    by_move : (move : Effect) → IsOwn move →
        MeansInFlat other left st (flat_by op (take (extent more move + 1) (b ∷ r))) op more (take (extent more move + 1) (b ∷ r))
        (pushed ns st) move → InFlat other left st (moved op more (b ∷ r) (pushed ns st) move)
    by_move (Keeps stack stored) own m = m
    by_move (Clears taken pairs stems width mask) own m = m
    by_move (Calls routine stack) own m = absurd own
    by_move Returns own m = absurd own
    by_move (Ends taken width) own m = m
    by_move (Refuses e) own m = tt

-- a call and Drop take the same number off the stack
pub dropped : (routines : List (List ℕ)) (stack : List ℤ) (done : List ℕ × List ℤ) → subroutine routines stack ≡ Ok done →
    removal stack ≡ Ok (tt, done.1)
dropped routines stack done h = grind arith

last-get : (stack : List ℤ) (top : ℤ) → slice_get (stack ++ top ∷ []) (length stack) ≡ Some top
last-get [] top = refl
last-get (x ∷ stack) top = last-get stack top

-- and Drop takes a number that was pushed
pub removal-top : (stack : List ℤ) (top : ℤ) → removal (stack ++ top ∷ []) ≡ Ok (tt, stack)
removal-top stack top = grind (arith, nat_tests, common_steps, length-append, last-get, take-append_seam)

-- the numbers of a phrase whose operator has one byte
pub numbers-of : (more : ℕ) (bytes : List ℕ) → more < length bytes → without_operator (take (more + 1) bytes) ≡ take more bytes
numbers-of more bytes h = grind (arith, length-take-le, take-take)

-- a phrase with bytes and Drop in place of an operator of one byte
drop-in : (other : Lists) (left : ℕ) (b : ℕ) (r : List ℕ) (st : State) (ns : List ℤ) (op : Operator) (more : ℕ) →
    IsLocal 0 (b ∷ r) ns op more →
    stands_flat (kind op) ≡ false → (extra : List ℕ) (zs : List ℤ) →
    ((x : List ℕ) → phrase (extra ++ 0x0c ∷ 0x12 ∷ x) ≡ Complete zs Drop (length extra + 1)) →
    (rest : List ℤ) → removal (st.stack ++ (ns ++ zs)) ≡ Ok (tt, rest) →
    Tells other left st (dropping (take more (b ∷ r) ++ extra)) (λ x. mean other left false x (stacked rest st))
drop-in other left b r st ns op more l short extra zs reads rest removes =
    let numbers : List ℕ = take more (b ∷ r) in
    let bytes : List ℕ = (numbers ++ extra) ++ 0x0c ∷ 0x12 ∷ [] in
    let numbers-long : length numbers ≡ more = let h : more < length (b ∷ r) = l.room in length-take-le more (b ∷ r) (omega arith) in
    let long : length bytes ≡ more + (length extra + 1) + 1 = omega
    (arith, numbers-long, length-append (numbers ++ extra) (0x0c ∷ 0x12 ∷ []), length-append numbers extra) in
    phrase-in other left bytes st (ns ++ zs) Drop (more + (length extra + 1)) (Keeps rest st.stored) tt (λ x.
    ap phrase (append_assoc (numbers ++ extra) (0x0c ∷ 0x12 ∷ []) x ∙ append_assoc numbers extra (0x0c ∷ 0x12 ∷ x))
    ∙ l.fronts short (extra ++ 0x0c ∷ 0x12 ∷ x) ∙ ap (fronted ns more) (reads x))
    (λ x. ap (work_move st.stored) removes) long

call-in : (other : Lists) (left : ℕ) (b : ℕ) (r : List ℕ) (st : State) (ns : List ℤ) (op : Operator) (more : ℕ) →
    IsLocal 0 (b ∷ r) ns op more →
    (routines : Lists → List (List ℕ)) → kind op ≡ CallsFrom routines → (lists : Lists) (result : Result (List ℕ × List ℤ) Refusal) →
    subroutine (routines lists) (st.stack ++ ns) ≡ result → InFlat other left st (moved op more (b ∷ r) (pushed ns st) (call_move result))
call-in other left b r st ns op more l routines is lists (Err e) does = tt
call-in other left b r st ns op more l routines is lists (Ok done) does =
    let numbers : List ℕ = take more (b ∷ r) in
    let flat : flat_by op (take (more + 1) (b ∷ r)) ≡ dropping (numbers ++ []) =
    ap (λ k. flat_of k op (take (more + 1) (b ∷ r))) is
    ∙ ap dropping (numbers-of more (b ∷ r) l.room ∙ sym (append-nil numbers)) in
    let removes : removal (st.stack ++ (ns ++ [])) ≡ Ok (tt, done.1) =
    ap (λ xs. removal (st.stack ++ xs)) (append-nil ns) ∙ dropped (routines lists) (st.stack ++ ns) done does in
    subst (λ s. Tells other left st s (λ x. mean other left false x (stacked done.1 st))) (sym flat)
    (drop-in other left b r st ns op more l (ap stands_flat is) [] [] (λ x. refl) done.1 removes)

return-in : (other : Lists) (left : ℕ) (b : ℕ) (r : List ℕ) (st : State) (ns : List ℤ) (op : Operator) (more : ℕ) →
    IsLocal 0 (b ∷ r) ns op more →
    kind op ≡ GoesBack → InFlat other left st (Back (said op more (b ∷ r)) (pushed ns st))
return-in other left b r st ns op more l is =
    let flat : flat_by op (take (more + 1) (b ∷ r)) ≡ dropping (take more (b ∷ r) ++ 0x8b ∷ []) =
    ap (λ k. flat_of k op (take (more + 1) (b ∷ r))) is
    ∙ ap (λ xs. dropping (xs ++ 0x8b ∷ [])) (numbers-of more (b ∷ r) l.room) in
    let removes : removal (st.stack ++ (ns ++ pos 0 ∷ [])) ≡ Ok (tt, st.stack ++ ns) =
    ap removal (sym (append_assoc st.stack ns (pos 0 ∷ []))) ∙ removal-top (st.stack ++ ns) (pos 0) in
    subst (λ s. Tells other left st s (λ x. mean other left false x (pushed ns st))) (sym flat)
    (drop-in other left b r st ns op more l (ap stands_flat is) (0x8b ∷ []) (pos 0 ∷ []) (λ x. refl) (st.stack ++ ns) removes)

-- a move without a mask's bytes
abbrev pub IsBare : Effect → Type 0
IsBare move = IsOwn move × (mask_of move ≡ 0)

pub clearing-bare : (st : State) (stems : ℕ) (taken : Option ℕ) → IsBare (clearing st stems taken)
clearing-bare st stems taken = grind arith

pub stems-bare : (stems : ℕ) (move : Effect) → IsBare move → IsBare (with_stems stems move)
stems-bare stems move bare = grind arith

pub work-bare : (stored : List ℤ) (result : Result (Unit {0} × List ℤ) Refusal) → IsBare (work_move stored result)
work-bare stored result = grind arith

pub store-bare : (result : Result (List ℤ × List ℤ) Refusal) → IsBare (store_move result)
store-bare result = grind arith

-- one phrase
pub in-flat : (lists other : Lists) (left : ℕ) (b : ℕ) (r : List ℕ) (st : State) → InFlat other left st (stride lists (b ∷ r) st)
in-flat lists other left b r st = by_phrase (phrase (b ∷ r)) (local 0 (b ∷ r))
  where
    bare-in : (ns : List ℤ) (op : Operator) (more : ℕ) → IsLocal 0 (b ∷ r) ns op more → (k : Kind) → kind op ≡ k → stands_flat k ≡ true →
        (move : Effect) → IsBare move →
        ((after : List ℕ) → effect_of k other op after (pushed ns st) ≡ move) → InFlat other left st
        (moved op more (b ∷ r) (pushed ns st) move)
    bare-in ns op more l k is flat move bare does =
        own-in other left b r st ns op more l move bare.0 (ap stands_flat is ∙ flat)
        (let h : more < length (b ∷ r) = l.room in omega (arith, bare.1))
        (λ after h. ap (λ k. effect_of k other op after (pushed ns st)) is ∙ does after)

    mask-in : (ns : List ℤ) (op : Operator) (more : ℕ) → IsLocal 0 (b ∷ r) ns op more → (takes : ℕ → Bool) → kind op ≡ Masks takes →
        (o : Option ℕ) → taken op (length (st.stack ++ ns)) ≡ o → (fits short : Bool) →
        nat_lt (stems_after (pushed ns st)) (2 ^ 32) ≡ fits → nat_lt (length (drop (more + 1) (b ∷ r)))
        (mask_len (stems_after (pushed ns st))) ≡ short →
        InFlat other left st (moved op more (b ∷ r) (pushed ns st)
        (if fits then (if short then Refuses unexpected_eof else mask_clearing (pushed ns st) (stems_after (pushed ns st)) o) else Refuses
        too_many_stems))
    mask-in ns op more l takes is o counts false short f e = tt
    mask-in ns op more l takes is o counts true true f e = tt
    mask-in ns op more l takes is None counts true false f e = tt
    mask-in ns op more l takes is (Some n) counts true false f e =
        let stems : ℕ = stems_after (pushed ns st) in
        let room : more + mask_len stems < length (b ∷ r) = let h : more < length (b ∷ r) = l.room in
        let d = length-drop (more + 1) (b ∷ r) in grind (arith, nat_tests) in
        own-in other left b r st ns op more l (mask_clearing (pushed ns st) stems (Some n)) tt (ap stands_flat is) room (λ after h.
        let enough : nat_lt (length after) (mask_len stems) ≡ false = grind (arith, nat_tests) in
        ap (λ k. effect_of k other op after (pushed ns st)) is
        ∙ ap (λ t. if t then (if nat_lt (length after) (mask_len stems) then Refuses unexpected_eof else mask_clearing
        (pushed ns st) stems (taken op (length (st.stack ++ ns)))) else Refuses too_many_stems) f
        ∙ ap (λ t. if t then Refuses unexpected_eof else mask_clearing (pushed ns st) stems (taken op (length (st.stack ++ ns)))) enough
        ∙ ap (mask_clearing (pushed ns st) stems) counts)

    by_kind : (ns : List ℤ) (op : Operator) (more : ℕ) → IsLocal 0 (b ∷ r) ns op more → (k : Kind) → kind op ≡ k →
        InFlat other left st (moved op more (b ∷ r) (pushed ns st) (effect_of k lists op (drop (more + 1) (b ∷ r)) (pushed ns st)))
    by_kind ns op more l (Draws takes) is =
        bare-in ns op more l (Draws takes) is refl _ (clearing-bare (pushed ns st) st.stems (taken op (length (st.stack ++ ns))))
        (λ after. refl)
    by_kind ns op more l (DeclaresStems takes) is =
        let stems : ℕ = stems_after (pushed ns st) in
        bare-in ns op more l (DeclaresStems takes) is refl _
        (stems-bare stems _ (clearing-bare (pushed ns st) stems (taken op (length (st.stack ++ ns))))) (λ after. refl)
    by_kind ns op more l (Masks takes) is = mask-in ns op more l takes is _ refl _ _ refl refl
    by_kind ns op more l (Works work) is =
        bare-in ns op more l (Works work) is refl _ (work-bare st.stored (work (st.stack ++ ns))) (λ after. refl)
    by_kind ns op more l (Stores work) is =
        bare-in ns op more l (Stores work) is refl _ (store-bare (work st.stored (st.stack ++ ns))) (λ after. refl)
    by_kind ns op more l (CallsFrom routines) is =
        call-in other left b r st ns op more l routines is lists (subroutine (routines lists) (st.stack ++ ns)) refl
    by_kind ns op more l GoesBack is = return-in other left b r st ns op more l is
    by_kind ns op more l EndsGlyph is = bare-in ns op more l EndsGlyph is refl (end_move (pushed ns st)) (tt, refl) (λ after. refl)
    by_kind ns op more l (IsRefused part) is = tt

    by_phrase : (p : Parsed) → Local 0 (b ∷ r) p → InFlat other left st (stride_by lists (b ∷ r) st p)
    by_phrase (Complete ns op more) l = by_kind ns op more l (kind op) refl
    by_phrase (NoPhrase e) l = tt
