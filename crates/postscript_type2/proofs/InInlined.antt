-- One phrase of a run, in inlined code.
use Rattle.postscript_type2.specs.Program.Stacks.{removal}
use Rattle.std.proofs.Common.{◌≡◌, refl, ap, sym, subst, ◌∙◌, ℕ, ◌+◌, Bool, true, false, List, [], ◌∷◌, ◌++◌, take, drop, length, nat_lt, ℤ, Option, Some, None, Result, Ok, Err, if◌then◌else◌, arith, append_assoc}
use Rattle.std.proofs.lemmas.List.{length-take-le}
use Rattle.postscript_base.specs.Refusal.{Refusal, unexpected_eof}
use Rattle.postscript_type2.specs.declared.operation.Operator.{Operator}
use Rattle.postscript_type2.specs.Operation.Kinds.{Kind, Draws, DeclaresStems, Masks, Works, Stores, CallsFrom, GoesBack, EndsGlyph, IsRefused, kind, taken}
use Rattle.postscript_type2.specs.Program.Effects.{Effect, Keeps, Clears, Calls, Returns, Ends, Refuses, clearing, work_move, store_move, end_move, with_stems, mask_len, mask_clearing, subroutine, call_move, effect_of}
use Rattle.postscript_type2.specs.Program.States.{State, stems_after, pushed, stacked, holding}
use Rattle.postscript_type2.specs.Program.Evaluation.{with_any_answer, at_end, Stride, On, Into, Back, Over, Faults, said, moved, stride_by, stride, mean}
use Rattle.postscript_type2.specs.Program.Flat.{without_operator, dropping, flat_of, flat_said}
use Rattle.postscript_type2.specs.Program.Inlined.{before_last, Piece, Stands, Leaves, call_piece, piece_of, piece}
use Rattle.postscript_type2.specs.Program.Parsing.{Parsed, Complete, NoPhrase, phrase}
use Rattle.postscript_type2.specs.Program.Routines.{Lists}
use Rattle.postscript_type2.specs.Program.Runs.{by, Finished, Run}
use Rattle.postscript_type2.proofs.Carried.{Fronts}
use Rattle.postscript_type2.proofs.InFlat.{Tells, InFlat, IsOwn, flat-own, numbers-of, dropped, removal-top, clearing-bare, stems-bare, work-bare, store-bare, in-flat}
use Rattle.postscript_type2.proofs.LastNumbers.{Last, last-number}
use Rattle.postscript_type2.proofs.Locals.{stands_flat, IsLocal, Local, local}

-- what a piece of a call or a return does: it stands, or leaves numbers that are on the stack after it
abbrev pub InPiece : (other : Lists) (left : ℕ) → (st st' : State) → Piece → Type 0
InPiece other left st st' (Stands said) = Tells other left st said (λ x. mean other left false x st')
InPiece other left st st' (Leaves front) = (numbers : List ℤ) × Fronts front numbers × (st' ≡ pushed numbers st)

-- what a stride's phrase means in inlined code
abbrev pub InInlined : (other : Lists) (left : ℕ) → State → Stride → Type 0
InInlined other left st (On said answer st' more) =
    (piece said ≡ Stands said) × Tells other left st said (λ x. with_any_answer answer (mean other left false x st'))
InInlined other left st (Into said routine st' more) = InPiece other left st st' (piece said)
InInlined other left st (Back said st') = InPiece other left st st' (piece said)
InInlined other left st (Over said taken width more) =
    (piece said ≡ Stands said) × Tells other left st said (λ x. at_end (Finished taken width))
InInlined other left st (Faults e) = Unit {0}

own-tells : (other : Lists) (left : ℕ) (st : State) (op : Operator) (bytes : List ℕ) (k : Kind) → kind op ≡ k → stands_flat k ≡ true →
    (go : List ℕ → Run) →
    Tells other left st (flat_said (by op bytes)) go → (piece (by op bytes) ≡ Stands (by op bytes)) × Tells other left st (by op bytes) go
own-tells other left st op bytes k is own go flat = grind (arith, flat-own)

own-in : (other : Lists) (left : ℕ) (bytes : List ℕ) (st st' : State) (op : Operator) (more : ℕ) (k : Kind) → kind op ≡ k →
    stands_flat k ≡ true → (move : Effect) → IsOwn move →
    InFlat other left st (moved op more bytes st' move) → InInlined other left st (moved op more bytes st' move)
own-in other left bytes st st' op more k is own (Keeps stack stored) o flat =
    own-tells other left st op (take (more + 1) bytes) k is own (λ x. mean other left false x (holding stack stored st')) flat
own-in other left bytes st st' op more k is own (Clears taken pairs stems width mask) o flat = grind (arith, own-tells)
own-in other left bytes st st' op more k is own (Calls routine stack) o flat = absurd o
own-in other left bytes st st' op more k is own Returns o flat = absurd o
own-in other left bytes st st' op more k is own (Ends taken width) o flat =
    own-tells other left st op (take (more + 1) bytes) k is own (λ x. at_end (Finished taken width)) flat
own-in other left bytes st st' op more k is own (Refuses e) o flat = tt

mask-own : (st : State) (stems : ℕ) (short : Bool) (o : Option ℕ) →
    IsOwn (with_stems stems (if short then Refuses unexpected_eof else mask_clearing st stems o))
mask-own st stems short o = grind arith

-- a call leaves what stood beneath its number
beneath : (routines : List (List ℕ)) (stack before : List ℤ) (number : ℤ) (done : List ℕ × List ℤ) →
    subroutine routines (stack ++ (before ++ number ∷ [])) ≡ Ok done → done.1 ≡ stack ++ before
beneath routines stack before number done does =
    let gone : removal (stack ++ (before ++ number ∷ [])) ≡ Ok (tt, done.1) = dropped routines
    (stack ++ (before ++ number ∷ [])) done does in
    let left : removal (stack ++ (before ++ number ∷ [])) ≡ Ok (tt, stack ++ before) =
    ap removal (sym (append_assoc stack before (number ∷ []))) ∙ removal-top (stack ++ before) number in
    ap stack_of (sym gone ∙ left)
  where
    stack_of : Result (Unit {0} × List ℤ) Refusal → List ℤ
    stack_of (Ok done) = done.1
    stack_of (Err e) = []

call-in : (other : Lists) (left : ℕ) (b : ℕ) (r : List ℕ) (st : State) (ns : List ℤ) (op : Operator) (more : ℕ) →
    IsLocal 0 (b ∷ r) ns op more → phrase (b ∷ r) ≡ Complete ns op more →
    (routines : Lists → List (List ℕ)) → kind op ≡ CallsFrom routines → (lists : Lists) (result : Result (List ℕ × List ℤ) Refusal) →
    subroutine (routines lists) (st.stack ++ ns) ≡ result → InFlat other left st (moved op more (b ∷ r) (pushed ns st) (call_move result)) →
    InInlined other left st (moved op more (b ∷ r) (pushed ns st) (call_move result))
call-in other left b r st ns op more l reads routines is lists (Err e) does flat = tt
call-in other left b r st ns op more l reads routines is lists (Ok done) does flat =
    let bytes : without_operator (take (more + 1) (b ∷ r)) ≡ take more (b ∷ r) = numbers-of more (b ∷ r) l.room in
    let there : piece (said op more (b ∷ r)) ≡ call_piece (before_last (take more (b ∷ r))) =
    ap (λ k. piece_of k op (take (more + 1) (b ∷ r))) is ∙ ap (λ xs. call_piece (before_last xs)) bytes in
    let dropping-is : flat_said (said op more (b ∷ r)) ≡ dropping (take more (b ∷ r)) =
    ap (λ k. flat_of k op (take (more + 1) (b ∷ r))) is ∙ ap dropping bytes in
    subst (InPiece other left st (stacked done.1 st)) (sym there)
    (by_last (before_last (take more (b ∷ r))) (last-number (b ∷ r) ns op more reads (ap stands_flat is))
    (subst (λ s. Tells other left st s (λ x. mean other left false x (stacked done.1 st))) dropping-is flat))
  where
    by_last : (o : Option (List ℕ)) → Last 0 (b ∷ r) ns more o → Tells other left st (dropping (take more (b ∷ r)))
        (λ x. mean other left false x (stacked done.1 st)) →
        InPiece other left st (stacked done.1 st) (call_piece o)
    by_last (Some front) last flat =
        let same : st.stack ++ ns ≡ st.stack ++ (last.before ++ last.last ∷ []) = ap (λ xs. st.stack ++ xs) last.are in (
          last.before,
          last.fronts,
          ap (λ stack. stacked stack st)
              (beneath (routines lists) st.stack last.before last.last done (sym (ap (subroutine (routines lists)) same) ∙ does)),
        )
    by_last None last flat =
        subst (λ n. Tells other left st (dropping (take n (b ∷ r))) (λ x. mean other left false x (stacked done.1 st))) last.1 flat

return-in : (other : Lists) (left : ℕ) (b : ℕ) (r : List ℕ) (st : State) (ns : List ℤ) (op : Operator) (more : ℕ) →
    IsLocal 0 (b ∷ r) ns op more → kind op ≡ GoesBack →
    InInlined other left st (Back (said op more (b ∷ r)) (pushed ns st))
return-in other left b r st ns op more l is = grind (arith, length-take-le, numbers-of, stands_flat)

-- one phrase
pub in-inlined : (lists other : Lists) (left : ℕ) (b : ℕ) (r : List ℕ) (st : State) → InInlined other left st (stride lists (b ∷ r) st)
in-inlined lists other left b r st = by_phrase (phrase (b ∷ r)) refl (local 0 (b ∷ r)) (in-flat lists other left b r st)
  where
    by_kind : (ns : List ℤ) (op : Operator) (more : ℕ) → IsLocal 0 (b ∷ r) ns op more → phrase (b ∷ r) ≡ Complete ns op more →
        (k : Kind) → kind op ≡ k →
        InFlat other left st (moved op more (b ∷ r) (pushed ns st) (effect_of k lists op (drop (more + 1) (b ∷ r)) (pushed ns st))) →
        InInlined other left st (moved op more (b ∷ r) (pushed ns st) (effect_of k lists op (drop (more + 1) (b ∷ r)) (pushed ns st)))
    by_kind ns op more l reads (Draws takes) is = own-in other left (b ∷ r) st (pushed ns st) op more (Draws takes) is refl
        (clearing (pushed ns st) st.stems (taken op (length (st.stack ++ ns))))
        (clearing-bare (pushed ns st) st.stems (taken op (length (st.stack ++ ns)))).0
    by_kind ns op more l reads (DeclaresStems takes) is =
        let stems : ℕ = stems_after (pushed ns st) in
        let move : Effect = clearing (pushed ns st) stems (taken op (length (st.stack ++ ns))) in
        own-in other left (b ∷ r) st (pushed ns st) op more (DeclaresStems takes) is refl (with_stems stems move)
        (stems-bare stems move (clearing-bare (pushed ns st) stems (taken op (length (st.stack ++ ns))))).0
    by_kind ns op more l reads (Masks takes) is =
        let stems : ℕ = stems_after (pushed ns st) in
        let short : Bool = nat_lt (length (drop (more + 1) (b ∷ r))) (mask_len stems) in
        let count : Option ℕ = taken op (length (st.stack ++ ns)) in
        own-in other left (b ∷ r) st (pushed ns st) op more (Masks takes) is refl
        (with_stems stems (if short then Refuses unexpected_eof else mask_clearing (pushed ns st) stems count))
        (mask-own (pushed ns st) stems short count)
    by_kind ns op more l reads (Works work) is = own-in other left (b ∷ r) st (pushed ns st) op more (Works work) is refl
        (work_move st.stored (work (st.stack ++ ns))) (work-bare st.stored (work (st.stack ++ ns))).0
    by_kind ns op more l reads (Stores work) is = own-in other left (b ∷ r) st (pushed ns st) op more (Stores work) is refl
        (store_move (work st.stored (st.stack ++ ns))) (store-bare (work st.stored (st.stack ++ ns))).0
    by_kind ns op more l reads (CallsFrom routines) is =
        call-in other left b r st ns op more l reads routines is lists (subroutine (routines lists) (st.stack ++ ns)) refl
    by_kind ns op more l reads GoesBack is = λ flat. return-in other left b r st ns op more l is
    by_kind ns op more l reads EndsGlyph is =
        own-in other left (b ∷ r) st (pushed ns st) op more EndsGlyph is refl (end_move (pushed ns st)) tt
    by_kind ns op more l reads (IsRefused part) is = λ flat. tt

    by_phrase : (p : Parsed) → phrase (b ∷ r) ≡ p → Local 0 (b ∷ r) p → InFlat other left st (stride_by lists (b ∷ r) st p) →
        InInlined other left st (stride_by lists (b ∷ r) st p)
    by_phrase (Complete ns op more) reads l = by_kind ns op more l reads (kind op) refl
    by_phrase (NoPhrase e) reads l = λ flat. tt
