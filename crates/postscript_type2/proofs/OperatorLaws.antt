-- What operators do by the table is what is computed.
use Rattle.std.proofs.lemmas.Grind.{common_steps}
use Rattle.std.proofs.lemmas.Bool.{cases_lt}
use Rattle.std.proofs.lemmas.Bool.Decides.{nat_tests}
use Rattle.std.proofs.lemmas.Int.{ints, by_lt_z}
use Rattle.std.proofs.lemmas.List.{take-append-drop, length-drop, length-take-le}
use Rattle.std.proofs.lemmas.Option.{slice_get-get_or, slice_get_past}
use Rattle.std.proofs.Math.Seq.{take-append_seam, drop-append_seam}
use Rattle.std.proofs.Common.{◌≡◌, ◌≢◌, refl, ap, sym, subst, ◌∙◌, ◌⊎◌, inl, inr, ℕ, zero, suc, ◌+◌, ◌-◌, ◌*◌, ◌/◌, ◌%◌, ◌^◌, ◌<◌, ◌≤◌, ℤ, pos, negsuc, neg_ℤ, nat_abs, ◌+ℤ◌, ◌-ℤ◌, ◌*ℤ◌, nat_lt, ◌==◌, ◌&&◌, ◌||◌, not, Bool, true, false, List, [], ◌∷◌, ◌++◌, length, length-append, append_assoc, append-nil, take, drop as drop_of, slice_get, slice_set, get_or, Option, Some, None, Result, Ok, Err, if◌then◌else◌, arith}
use Rattle.std.specs.Option.{ok_or}
use Rattle.std.specs.Ordering.{int_eq}
use Rattle.postscript_base.specs.Refusal.{Refusal, OfPart, unexpected_eof, malformed_operands, expected_operand, expected_integer, expected_more_operands, invalid_operand, missing_subroutine, overflow, zero_divisor, negative_root, too_many_stems}
use Rattle.postscript_type2.specs.declared.operation.Operator.{Operator}
use Rattle.postscript_type2.specs.declared.operation.Operator.TheVariants.{HintMask, CntrMask, And, Or, Not, Abs, Add, Sub, Div, Neg, Eq, Drop, Put, Get, IfElse, Mul, Sqrt, Dup, Exch, Index, Roll}
use Rattle.postscript_type2.specs.Number.{whole}
use Rattle.postscript_type2.specs.Operation.Kinds.{Kind, Draws, DeclaresStems, Masks, Works, Stores, CallsFrom, GoesBack, EndsGlyph, IsRefused, kind, lengths, taken as taken_of}
use Rattle.postscript_type2.specs.Operation.Lengths.{exactly, greatest}
use Rattle.postscript_type2.specs.Program.Effects.{Effect, Keeps, Clears, Calls, Returns, Ends, Refuses, last_of, clearing, with_stems, mask_len, implied, mask_clearing, taken_at_end, end_move, work_move, store_move, named, effect_of, effect}
use Rattle.postscript_type2.specs.Program.States.{State, stacked, settled, stems_after}
use Rattle.postscript_type2.specs.Program.FixedPoint.{cut, fit, absolute_value, opposite, root, sum, difference, product, quotient, truth, is_true, both, either, denial, same_bits}
use Rattle.postscript_type2.specs.Program.OperatorRules.{IsSettled, settled_before, operand_beneath, nothing_beneath, StemsAfter, in_pairs, TakesAtEnd, last_four, fewer, Does, makes, refused, without_meaning, draws, draws_none, declares, declares_none, declares_too_many, masks, masks_cut, masks_too_many, calls, calls_no_number, calls_nothing, returns, ends, OperatorsDoSo}
use Rattle.postscript_type2.specs.Program.StackRules.{IsHeld, HasResult, abs, neg, add, sub, mul, div, Leaves, result, sqrt, and, or, negated, eq, if_not_above, if_above, drop, exch, dup, index, roll as rolls, Makes, stored_stay, put, get, pops, NamesByTop, index_names, roll_names, put_names, get_names, HasNoWholeTop, NamesNone, below_zero, past_last, IsRefusedOn, too_few, zero_divisor_on_top, root_of_negative, past_range, nothing_to_double, no_whole_top, index_too_deep, no_whole_span, span_below_zero, span_too_long, nothing_to_put, put_nowhere, get_nowhere}
use Rattle.postscript_type2.specs.Program.Routines.{Lists}
use Rattle.postscript_type2.specs.Program.Stacks.{IsRolled, distance, copy, roll, roll_by, rolled as rolled_of, rolled_top}
use Rattle.postscript_type2.specs.Program.Storage.{stored_at, storing, fetching}
use Rattle.postscript_type2.specs.Program.StackWork.{after, ◌>>=◌, given, whole_operand, operand, operand_below, push}
use Rattle.postscript_type2.proofs.RollingLaws.{rolled-law}
use Rattle.postscript_type2.proofs.StackLaws.{no-whole, whole-top, most-taken, none-taken, last-is, Taking, taking}
use Rattle.postscript_type2.proofs.StackEnds.{get-seam, Ending, nothing, last, ending, one-last, two-lasts, popped, whole-popped, two-last, below-past, choice-last, removal-last, exchange-last, below-there}
use Rattle.postscript_type2.proofs.Taken.{exactly-taken}
use Rattle.postscript_type2.proofs.Roots.{whole_root-is}

-- numbers that 32 bits hold, and others
fit-held : (x : ℤ) → IsHeld x → fit x ≡ Ok x
fit-held x h = grind arith

is-held : (x : ℤ) → (IsHeld x) ⊎ ((IsHeld x → ⊥) × (fit x ≡ Err overflow))
is-held x = grind arith

fit-past : (x : ℤ) → (IsHeld x → ⊥) → fit x ≡ Err overflow
fit-past x other = grind arith

-- what is pushed, where it can be
given-pushed : (r : Result ℤ Refusal) (x : ℤ) (beneath : List ℤ) → r ≡ Ok x → (given r >>= push) beneath ≡ Ok (tt, beneath ++ x ∷ [])
given-pushed r x beneath e = ap (λ r. (given r >>= push) beneath) e

-- copies and rolls
index-on : (stored beneath : List ℤ) (x : ℤ) (above : List ℤ) (i : ℤ) → distance i ≡ length above →
    work_move stored (copy (beneath ++ (x ∷ (above ++ whole i ∷ [])))) ≡ Keeps (beneath ++ (x ∷ (above ++ x ∷ []))) stored
index-on stored beneath x above i far =
    let split : (y : ℤ) → beneath ++ (x ∷ (above ++ y ∷ [])) ≡ (beneath ++ x ∷ above) ++ y ∷ [] = λ y. sym
    (append_assoc beneath (x ∷ above) (y ∷ [])) in
    ap (λ stack. work_move stored (copy stack)) (split (whole i))
    ∙ ap (work_move stored) (whole-popped (beneath ++ x ∷ above) i (λ i. operand_below (distance i) >>= push))
    ∙ ap (λ k. work_move stored ((operand_below k >>= push) (beneath ++ x ∷ above))) far
    ∙ ap (λ r. work_move stored (after r push)) (below-there beneath x above)
    ∙ ap (λ stack. Keeps stack stored) (sym (split x))

roll-last : (beneath : List ℤ) (span shift : ℤ) → roll (beneath ++ (whole span ∷ whole shift ∷ [])) ≡ roll_by shift span beneath
roll-last beneath span shift = grind (arith, two-last, whole-popped)

roll-on : (stored beneath : List ℤ) (shift : ℤ) (items rolled : List ℤ) → IsRolled shift items rolled →
    work_move stored (roll (beneath ++ (items ++ (whole (pos (length items)) ∷ whole shift ∷ [])))) ≡ Keeps (beneath ++ rolled) stored
roll-on stored beneath shift items rolled is =
    let n = pos (length items) in
    let split : beneath ++ (items ++ (whole n ∷ whole shift ∷ [])) ≡ ((beneath ++ items) ++ whole n ∷ []) ++ whole shift ∷ [] = simp
    append_assoc in
    let all : length (beneath ++ items) ≡ length beneath + length items = length-append beneath items in
    let test : nat_lt (length (beneath ++ items)) (length items) ≡ false = grind (arith, nat_tests) in
    let far : length (beneath ++ items) - length items ≡ length beneath = omega arith in
    let turned : rolled ≡ rolled_of shift items = (rolled-law shift items rolled).0 is in
    ap (λ stack. work_move stored (roll stack)) split
    ∙ ap (work_move stored) (whole-popped ((beneath ++ items) ++ whole n ∷ []) shift
    (λ shift. whole_operand >>= λ span. roll_by shift span))
    ∙ ap (work_move stored) (whole-popped (beneath ++ items) n (λ span. roll_by shift span))
    ∙ ap (λ t. work_move stored (if t then Err expected_more_operands else Ok (tt, rolled_top shift (length items) (beneath ++ items))))
    test
    ∙ ap (λ k. Keeps (take k (beneath ++ items) ++ rolled_of shift (drop_of k (beneath ++ items))) stored) far
    ∙ ap (λ front. Keeps (front ++ rolled_of shift (drop_of (length beneath) (beneath ++ items))) stored) (take-append_seam beneath items)
    ∙ ap (λ back. Keeps (beneath ++ rolled_of shift back) stored) (drop-append_seam beneath items)
    ∙ ap (λ top. Keeps (beneath ++ top) stored) (sym turned)

not-zero : (b : ℤ) → b ≢ pos 0 → int_eq b (pos 0) ≡ false
not-zero b some = grind arith

-- an operator on a stack
abbrev on : Lists → Operator → (behind : List ℕ) → State → (stack : List ℤ) → Effect
on lists op behind st stack = effect lists op behind (stacked stack st)

-- the number of an arithmetic operator
result-on : (lists : Lists) (op : Operator) (behind : List ℕ) (st : State) (beneath taken : List ℤ) (x : ℤ) (r : Result ℤ Refusal) →
    HasResult op taken x → fit x ≡ r →
    on lists op behind st (beneath ++ taken) ≡ work_move st.stored ((given r >>= push) beneath)
result-on lists op behind st beneath _ _ r (abs a) e =
    ap (work_move st.stored) (one-last absolute_value beneath a ∙ ap (λ r. (given r >>= push) beneath) e)
result-on lists op behind st beneath _ _ r (neg a) e =
    ap (work_move st.stored) (one-last opposite beneath a ∙ ap (λ r. (given r >>= push) beneath) e)
result-on lists op behind st beneath _ _ r (add a b) e =
    ap (work_move st.stored) (two-lasts sum beneath a b ∙ ap (λ r. (given r >>= push) beneath) e)
result-on lists op behind st beneath _ _ r (sub a b) e =
    ap (work_move st.stored) (two-lasts difference beneath a b ∙ ap (λ r. (given r >>= push) beneath) e)
result-on lists op behind st beneath _ _ r (mul a b) e =
    ap (work_move st.stored) (two-lasts product beneath a b ∙ ap (λ r. (given r >>= push) beneath) e)
result-on lists op behind st beneath _ _ r (div a b some) e = grind (arith, one-last, two-lasts, not-zero)

leaves-on : (lists : Lists) (op : Operator) (behind : List ℕ) (st : State) (beneath taken left : List ℤ) → Leaves op taken left →
    on lists op behind st (beneath ++ taken) ≡ Keeps (beneath ++ left) st.stored
leaves-on lists _ behind st beneath _ _ (result op taken x is held) =
    result-on lists op behind st beneath taken x (Ok x) is (fit-held x held)
leaves-on lists op behind st beneath _ _ (sqrt a r low high) = grind (arith, one-last, given-pushed, whole_root-is)
leaves-on lists op behind st beneath _ _ (and a b) = ap (work_move st.stored) (two-lasts both beneath a b)
leaves-on lists op behind st beneath _ _ (or a b) = ap (work_move st.stored) (two-lasts either beneath a b)
leaves-on lists op behind st beneath _ _ (negated a) = ap (work_move st.stored) (one-last denial beneath a)
leaves-on lists op behind st beneath _ _ (eq a b) = ap (work_move st.stored) (two-lasts same_bits beneath a b)
leaves-on lists op behind st beneath _ _ (if_not_above p q v w below) = grind (arith, nat_tests, ints, choice-last)
leaves-on lists op behind st beneath _ _ (if_above p q v w above) = grind (arith, nat_tests, ints, choice-last)
leaves-on lists op behind st beneath _ _ (drop a) =
    ap (work_move st.stored) (removal-last beneath a) ∙ ap (λ stack. Keeps stack st.stored) (sym (append-nil beneath))
leaves-on lists op behind st beneath _ _ (exch a b) = ap (work_move st.stored) (exchange-last beneath a b)
leaves-on lists op behind st beneath _ _ (dup a) = grind (arith, nat_tests, common_steps, below-there)
leaves-on lists op behind st beneath _ _ (index x above i far) = index-on st.stored beneath x above i far
leaves-on lists op behind st beneath _ _ (rolls shift items rolled is) = roll-on st.stored beneath shift items rolled is

-- the stored numbers
stored-there : (stored : List ℤ) (i : ℕ) (x : ℤ) → slice_get stored i ≡ Some x → stored_at stored (pos i) ≡ Ok x
stored-there stored i x there = ap (λ o. ok_or o invalid_operand) there

stored-nowhere : (stored : List ℤ) (i : ℤ) → NamesNone stored i → stored_at stored i ≡ Err invalid_operand
stored-nowhere stored i h0 = grind (arith, slice_get_past)

put-last : (stored beneath : List ℤ) (a i : ℤ) →
    storing stored (beneath ++ (a ∷ whole i ∷ [])) ≡ after (given (stored_at stored i) beneath)
    (λ _. given (Ok (slice_set stored (nat_abs i) a)))
put-last stored beneath a i = grind (arith, two-last, whole-popped, popped)

get-last : (stored beneath : List ℤ) (i : ℤ) → fetching stored (beneath ++ whole i ∷ []) ≡ after (given (stored_at stored i) beneath)
    (λ x. push x >>= λ _. given (Ok stored))
get-last stored beneath i = whole-popped beneath i (λ i. given (stored_at stored i) >>= λ x. push x >>= λ _. given (Ok stored))

makes-on : (lists : Lists) (op : Operator) (behind : List ℕ) (st : State) (beneath taken left new : List ℤ) →
    Makes st.stored op taken left new →
    on lists op behind st (beneath ++ taken) ≡ Keeps (beneath ++ left) new
makes-on lists _ behind st beneath _ _ _ (stored_stay op taken left is) = leaves-on lists op behind st beneath taken left is
makes-on lists op behind st beneath _ _ _ (put a i h) = ap store_move
    (put-last st.stored beneath a (pos i)
    ∙ ap (λ r. after (given r beneath) (λ _. given (Ok (slice_set st.stored i a))))
    (stored-there st.stored i (get_or st.stored i a) (slice_get-get_or st.stored i a h)))
    ∙ ap (λ stack. Keeps stack (slice_set st.stored i a)) (sym (append-nil beneath))
makes-on lists op behind st beneath _ _ _ (get i x h) =
    ap store_move (get-last st.stored beneath (pos i)
    ∙ ap (λ r. after (given r beneath) (λ x. push x >>= λ _. given (Ok st.stored))) (stored-there st.stored i x h))

few-on : (lists : Lists) (op : Operator) (behind : List ℕ) (st : State) (stack : List ℤ) → length stack < pops op →
    on lists op behind st stack ≡ Refuses expected_operand
few-on lists op behind st stack h = grind (arith, nat_tests, common_steps)

refused-on : (lists : Lists) (op : Operator) (behind : List ℕ) (st : State) (stack : List ℤ) (e : Refusal) →
    IsRefusedOn st.stored op stack e →
    on lists op behind st stack ≡ Refuses e
refused-on lists _ behind st _ _ (too_few op stack h) = few-on lists op behind st stack h
refused-on lists op behind st _ _ (zero_divisor_on_top beneath a) = ap (work_move st.stored) (two-lasts quotient beneath a (pos 0))
refused-on lists op behind st _ _ (root_of_negative beneath n) = ap (work_move st.stored) (one-last root beneath (negsuc n))
refused-on lists _ behind st _ _ (past_range op beneath taken x is other) =
    result-on lists op behind st beneath taken x (Err overflow) is (fit-past x other)
refused-on lists op behind st _ _ nothing_to_double = refl
refused-on lists _ behind st _ _ (no_whole_top _ stack index_names h) =
    ap (λ r. work_move st.stored (after r (λ i. operand_below (distance i) >>= push))) (no-whole stack h)
refused-on lists _ behind st _ _ (no_whole_top _ stack roll_names h) =
    ap (λ r. work_move st.stored (after r (λ shift. whole_operand >>= λ span. roll_by shift span))) (no-whole stack h)
refused-on lists _ behind st _ _ (no_whole_top _ stack put_names h) = grind (arith, no-whole)
refused-on lists _ behind st _ _ (no_whole_top _ stack get_names h) =
    ap (λ r. store_move (after r (λ i. given (stored_at st.stored i) >>= λ x. push x >>= λ _. given (Ok st.stored)))) (no-whole stack h)
refused-on lists op behind st _ _ (index_too_deep beneath i h) = grind (arith, whole-popped, below-past)
refused-on lists op behind st _ _ (no_whole_span beneath shift h) = grind (arith, whole-popped, no-whole)
refused-on lists op behind st _ _ (span_below_zero beneath n shift) = ap (work_move st.stored) (roll-last beneath (negsuc n) shift)
refused-on lists op behind st _ _ (span_too_long beneath n shift h) =
    let test : nat_lt (length beneath) n ≡ true = grind (arith, nat_tests) in
    ap (work_move st.stored) (roll-last beneath (pos n) shift
    ∙ ap (λ t. if t then Err expected_more_operands else Ok (tt, rolled_top shift n beneath)) test)
refused-on lists op behind st _ _ (nothing_to_put i) =
    ap store_move (whole-popped [] i
    (λ i. operand >>= λ a. given (stored_at st.stored i) >>= λ _. given (Ok (slice_set st.stored (nat_abs i) a))))
refused-on lists op behind st _ _ (put_nowhere beneath a i h) = grind (arith, put-last, stored-nowhere)
refused-on lists op behind st _ _ (get_nowhere beneath i h) = grind (arith, get-last, stored-nowhere)

-- the width is settled beneath the operands taken
settled-is : (before : Option (Option ℤ)) (stack beneath taken : List ℤ) (width : Option ℤ) → stack ≡ beneath ++ taken →
    IsSettled before beneath width →
    settled before stack (length taken) ≡ width
settled-is _ stack _ taken _ e (settled_before width beneath) = refl
settled-is _ stack _ taken _ e (operand_beneath lower x) =
    let all : length stack ≡ length lower + 1 + length taken = ap length e ∙ length-append (lower ++ x ∷ []) taken
    ∙ ap (λ n. n + length taken) (length-append lower (x ∷ [])) in
    let test : (length taken == length stack) ≡ false = grind (arith, nat_tests) in
    let far : length stack - length taken - 1 ≡ length lower = omega arith in
    ap (λ t. if t then None else slice_get stack (length stack - length taken - 1)) test
    ∙ ap (slice_get stack) far ∙ ap (λ s. slice_get s (length lower)) (e ∙ append_assoc lower (x ∷ []) taken) ∙ get-seam lower x taken
settled-is _ stack _ taken _ e nothing_beneath = grind (arith, length-append, nat_tests, get-seam)

clearing-is : (st : State) (stems : ℕ) (beneath taken : List ℤ) (width : Option ℤ) → st.stack ≡ beneath ++ taken →
    IsSettled st.width beneath width →
    clearing st stems (Some (length taken)) ≡ Clears taken [] stems width 0
clearing-is st stems beneath taken width e h = grind (arith, last-is, settled-is)

stems-are : (st : State) (stems : ℕ) → StemsAfter st stems → stems_after st ≡ stems
stems-are st _ (in_pairs n odd few all) = omega arith

within : (stems : ℕ) (move : Effect) → stems < 2 ^ 32 → with_stems stems move ≡ move
within stems move h = grind arith

too_many : (stems : ℕ) (move : Effect) → 2 ^ 32 ≤ stems → with_stems stems move ≡ Refuses too_many_stems
too_many stems move h = grind arith

-- how many of the operands an operator of a kind takes
taken-by : (op : Operator) (k : Kind) (n : ℕ) → kind op ≡ k → taken_of op n ≡ greatest (lengths k) n
taken-by op k n e = ap (λ k. greatest (lengths k) n) e

mask-is : (st : State) (stems : ℕ) (beneath pairs : List ℤ) (width : Option ℤ) → st.stack ≡ beneath ++ pairs → length beneath < 2 →
    length pairs % 2 ≡ 0 → IsSettled st.width beneath width →
    mask_clearing st stems (Some 0) ≡ Clears [] pairs stems width (mask_len stems)
mask-is st stems beneath pairs width e few even h =
    let all : length st.stack ≡ length beneath + length pairs = ap length e ∙ length-append beneath pairs in
    let them : implied st.stack ≡ length pairs = omega arith in
    ap (λ t. Clears t (last_of st.stack (implied st.stack)) stems (settled st.width st.stack (implied st.stack)) (mask_len stems))
    (last-is st.stack st.stack [] (sym (append-nil st.stack)))
    ∙ ap (λ u. Clears [] (last_of st.stack u) stems (settled st.width st.stack u) (mask_len stems)) them
    ∙ ap (λ ps. Clears [] ps stems (settled st.width st.stack (length pairs)) (mask_len stems)) (last-is st.stack beneath pairs e)
    ∙ ap (λ w. Clears [] pairs stems w (mask_len stems)) (settled-is st.width st.stack beneath pairs width e h)

end-parts : (stack beneath taken : List ℤ) → TakesAtEnd stack beneath taken → stack ≡ beneath ++ taken
end-parts _ _ _ (last_four beneath taken n) = refl
end-parts _ _ _ (fewer stack few) = sym (append-nil stack)

end-count : (stack beneath taken : List ℤ) → TakesAtEnd stack beneath taken → taken_at_end (length stack) ≡ length taken
end-count _ _ _ (last_four beneath taken n) = grind (arith, length-append, nat_tests)
end-count _ _ _ (fewer stack few) = grind (arith, nat_tests)

end-is : (st : State) (beneath taken : List ℤ) (width : Option ℤ) → TakesAtEnd st.stack beneath taken → IsSettled st.width beneath width →
    end_move st ≡ Ends taken width
end-is st beneath taken width h settles =
    let parts = end-parts st.stack beneath taken h in
    ap (λ n. Ends (last_of st.stack n) (settled st.width st.stack n)) (end-count st.stack beneath taken h)
    ∙ ap (λ xs. Ends xs (settled st.width st.stack (length taken))) (last-is st.stack beneath taken parts)
    ∙ ap (Ends taken) (settled-is st.width st.stack beneath taken width parts settles)

does-on : (lists : Lists) (op : Operator) (behind : List ℕ) (st : State) (move : Effect) → Does lists op behind st move →
    effect lists op behind st ≡ move
does-on lists op behind st _ (makes beneath taken left new is e) =
    ap (on lists op behind st) e ∙ makes-on lists op behind st beneath taken left new is
does-on lists op behind st _ (refused e is) = refused-on lists op behind st st.stack e is
does-on lists op behind st _ (without_meaning part k) = ap (λ k. effect_of k lists op behind st) k
does-on lists op behind st _ (draws takes beneath taken width k h settles) = ap (λ k. effect_of k lists op behind st) k
    ∙ ap (clearing st st.stems) (taken-by op (Draws takes) (length st.stack) k ∙ most-taken takes st.stack beneath taken h)
    ∙ clearing-is st st.stems beneath taken width h.parts settles
does-on lists op behind st _ (draws_none takes k h) = grind (arith, taken-by, none-taken)
does-on lists op behind st _ (declares takes beneath taken width stems k counts few h settles) = ap (λ k. effect_of k lists op behind st) k
    ∙ ap (λ o. with_stems (stems_after st) (clearing st (stems_after st) o))
    (taken-by op (DeclaresStems takes) (length st.stack) k ∙ most-taken takes st.stack beneath taken h)
    ∙ ap (λ stems. with_stems stems (clearing st stems (Some (length taken)))) (stems-are st stems counts)
    ∙ within stems (clearing st stems (Some (length taken))) few ∙ clearing-is st stems beneath taken width h.parts settles
does-on lists op behind st _ (declares_none takes stems k counts few h) = grind (arith, taken-by, none-taken, stems-are, within)
does-on lists op behind st _ (declares_too_many takes stems k counts many) = grind (arith, stems-are, too_many)
does-on lists op behind st _ (masks beneath pairs width stems k counts few bytes e small even settles) =
    let there : nat_lt (length behind) (mask_len stems) ≡ false = grind (arith, nat_tests) in
    ap (λ k. effect_of k lists op behind st) k
    ∙ ap (λ o. with_stems (stems_after st)
    (if nat_lt (length behind) (mask_len (stems_after st)) then Refuses unexpected_eof else mask_clearing st (stems_after st) o))
    (taken-by op (Masks (exactly 0)) (length st.stack) k ∙ exactly-taken 0 (length st.stack) (omega arith))
    ∙ ap (λ stems. with_stems stems
    (if nat_lt (length behind) (mask_len stems) then Refuses unexpected_eof else mask_clearing st stems (Some 0)))
    (stems-are st stems counts)
    ∙ within stems (if nat_lt (length behind) (mask_len stems) then Refuses unexpected_eof else mask_clearing st stems (Some 0)) few
    ∙ ap (λ t. if t then Refuses unexpected_eof else mask_clearing st stems (Some 0)) there
    ∙ mask-is st stems beneath pairs width e small even settles
does-on lists op behind st _ (masks_cut takes stems k counts few missing) = grind (arith, nat_tests, stems-are, within)
does-on lists op behind st _ (masks_too_many takes stems k counts many) = grind (arith, stems-are, too_many)
does-on lists op behind st _ (calls routines beneath n routine k e there) = grind (arith, whole-popped)
does-on lists op behind st _ (calls_no_number routines k h) = grind (arith, no-whole)
does-on lists op behind st _ (calls_nothing routines beneath n k e missing) = grind (arith, whole-popped)
does-on lists op behind st _ (returns k) = ap (λ k. effect_of k lists op behind st) k
does-on lists op behind st _ (ends beneath taken width k h settles) =
    ap (λ k. effect_of k lists op behind st) k ∙ end-is st beneath taken width h settles

-- Each operator does something from each state.
abbrev Found : Lists → Operator → (behind : List ℕ) → State → Type 0
Found lists op behind st = (move : Effect) × Does lists op behind st move

found-refused : (lists : Lists) (op : Operator) (behind : List ℕ) (st : State) (stack : List ℤ) (e : Refusal) → st.stack ≡ stack →
    IsRefusedOn st.stored op stack e → Found lists op behind st
found-refused lists op behind st stack e is h = (Refuses e, refused e (subst (λ s. IsRefusedOn st.stored op s e) (sym is) h))

found-left : (lists : Lists) (op : Operator) (behind : List ℕ) (st : State) (beneath taken left : List ℤ) → st.stack ≡ beneath ++ taken →
    Leaves op taken left → Found lists op behind st
found-left lists op behind st beneath taken left is h =
    (Keeps (beneath ++ left) st.stored, makes beneath taken left st.stored (stored_stay op taken left h) is)

found-result : (lists : Lists) (op : Operator) (behind : List ℕ) (st : State) (beneath taken : List ℤ) (x : ℤ) →
    st.stack ≡ beneath ++ taken → HasResult op taken x → Found lists op behind st
found-result lists op behind st beneath taken x is h = by_size (is-held x)
  where
    by_size : (IsHeld x) ⊎ ((IsHeld x → ⊥) × (fit x ≡ Err overflow)) → Found lists op behind st
    by_size (inl held) = found-left lists op behind st beneath taken (x ∷ []) is (result op taken x h held)
    by_size (inr other) = found-refused lists op behind st (beneath ++ taken) overflow is (past_range op beneath taken x h other.0)

-- the operands that it pops, or too few
found-one : (lists : Lists) (op : Operator) (behind : List ℕ) (st : State) (n : ℕ) → pops op ≡ n + 1 → (stack : List ℤ) →
    st.stack ≡ stack → Ending stack →
    ((beneath : List ℤ) (a : ℤ) → st.stack ≡ beneath ++ a ∷ [] → Found lists op behind st) → Found lists op behind st
found-one lists op behind st n many _ is nothing go = found-refused lists op behind st [] expected_operand is (too_few op [] (omega arith))
found-one lists op behind st n many _ is (last beneath a) go = go beneath a is

found-next : (lists : Lists) (op : Operator) (behind : List ℕ) (st : State) (n : ℕ) (above : List ℤ) → pops op ≡ n → length above < n →
    (stack : List ℤ) → st.stack ≡ stack ++ above → Ending stack →
    ((beneath : List ℤ) (a : ℤ) → st.stack ≡ beneath ++ (a ∷ above) → Found lists op behind st) → Found lists op behind st
found-next lists op behind st n above many few _ is nothing go =
    found-refused lists op behind st above expected_operand is (too_few op above (omega arith))
found-next lists op behind st n above many few _ is (last beneath a) go = go beneath a (is ∙ append_assoc beneath (a ∷ []) above)

ones : (lists : Lists) (op : Operator) (behind : List ℕ) (st : State) → pops op ≡ 1 →
    ((beneath : List ℤ) (a : ℤ) → st.stack ≡ beneath ++ a ∷ [] → Found lists op behind st) → Found lists op behind st
ones lists op behind st many go = found-one lists op behind st 0 many st.stack refl (ending st.stack) go

twos : (lists : Lists) (op : Operator) (behind : List ℕ) (st : State) → pops op ≡ 2 →
    ((beneath : List ℤ) (a b : ℤ) → st.stack ≡ beneath ++ (a ∷ b ∷ []) → Found lists op behind st) → Found lists op behind st
twos lists op behind st many go = found-one lists op behind st 1 many st.stack refl (ending st.stack)
    (λ under b is. found-next lists op behind st 2 (b ∷ []) many (omega arith) under is (ending under) (λ beneath a is. go beneath a b is))

fours : (lists : Lists) (op : Operator) (behind : List ℕ) (st : State) → pops op ≡ 4 →
    ((beneath : List ℤ) (p q v w : ℤ) → st.stack ≡ beneath ++ (p ∷ q ∷ v ∷ w ∷ []) → Found lists op behind st) → Found lists op behind st
fours lists op behind st many go = found-one lists op behind st 3 many st.stack refl (ending st.stack)
    (λ third w is. found-next lists op behind st 4 (w ∷ []) many (omega arith) third is (ending third)
    (λ second v is. found-next lists op behind st 4 (v ∷ w ∷ []) many (omega arith) second is (ending second)
    (λ first q is. found-next lists op behind st 4 (q ∷ v ∷ w ∷ []) many (omega arith) first is (ending first)
    (λ beneath p is. go beneath p q v w is))))

found-named : (lists : Lists) (op : Operator) (behind : List ℕ) (st : State) → NamesByTop op →
    ((beneath : List ℤ) (n : ℤ) → st.stack ≡ beneath ++ whole n ∷ [] → Found lists op behind st) → Found lists op behind st
found-named lists op behind st names go = by_top (whole-top st.stack)
  where
    by_top : (HasNoWholeTop st.stack) ⊎ ((beneath : List ℤ) × (n : ℤ) × (st.stack ≡ beneath ++ whole n ∷ [])) → Found lists op behind st
    by_top (inl other) = found-refused lists op behind st st.stack expected_integer refl (no_whole_top op st.stack names other)
    by_top (inr there) = go there.0 there.1 there.2

-- an item so far from the end
first-of : (k : ℕ) (xs : List ℤ) → length xs ≡ suc k → (x : ℤ) × (above : List ℤ) × (xs ≡ x ∷ above) × (length above ≡ k)
first-of k [] n = absurd (omega arith)
first-of k (x ∷ above) n = (x, above, refl, omega arith)

found-index : (lists : Lists) (behind : List ℕ) (st : State) (beneath : List ℤ) (i : ℤ) → st.stack ≡ beneath ++ whole i ∷ [] →
    Found lists Index behind st
found-index lists behind st beneath i is = by_depth (cases_lt (distance i) (length beneath))
  where
    by_depth : (distance i < length beneath) ⊎ (length beneath ≤ distance i) → Found lists Index behind st
    by_depth (inr deep) =
        found-refused lists Index behind st (beneath ++ whole i ∷ []) expected_more_operands is (index_too_deep beneath i deep)
    by_depth (inl there) =
        let front = take (length beneath - suc (distance i)) beneath in
        let back = drop_of (length beneath - suc (distance i)) beneath in
        let whole_list : front ++ back ≡ beneath = take-append-drop (length beneath - suc (distance i)) beneath in
        let many : length back ≡ suc (distance i) = length-drop (length beneath - suc (distance i)) beneath ∙ omega arith in
        let item = first-of (distance i) back many in
        let split : beneath ++ whole i ∷ [] ≡ front ++ (item.0 ∷ (item.1 ++ whole i ∷ [])) =
        ap (λ s. s ++ whole i ∷ []) (sym whole_list ∙ ap (λ b. front ++ b) item.2) ∙ append_assoc front (item.0 ∷ item.1) (whole i ∷ []) in
        found-left lists Index behind st front (item.0 ∷ (item.1 ++ whole i ∷ [])) (item.0 ∷ (item.1 ++ item.0 ∷ [])) (is ∙ split)
        (index item.0 item.1 i (sym item.3))

found-roll : (lists : Lists) (behind : List ℕ) (st : State) (under : List ℤ) (shift : ℤ) → st.stack ≡ under ++ whole shift ∷ [] →
    Found lists Roll behind st
found-roll lists behind st under shift is = by_top (whole-top under)
  where
    rolled : (beneath : List ℤ) (n : ℕ) → st.stack ≡ beneath ++ (whole (pos n) ∷ whole shift ∷ []) → n ≤ length beneath →
        Found lists Roll behind st
    rolled beneath n is fits =
        let front = take (length beneath - n) beneath in
        let items = drop_of (length beneath - n) beneath in
        let whole_list : front ++ items ≡ beneath = take-append-drop (length beneath - n) beneath in
        let many : length items ≡ n = length-drop (length beneath - n) beneath ∙ omega arith in
        let split : beneath ++ (whole (pos n) ∷ whole shift ∷ []) ≡ front ++ (items ++ (whole (pos (length items)) ∷ whole shift ∷ [])) =
        ap (λ s. s ++ (whole (pos n) ∷ whole shift ∷ [])) (sym whole_list) ∙ append_assoc front items (whole (pos n) ∷ whole shift ∷ [])
        ∙ ap (λ n. front ++ (items ++ (whole (pos n) ∷ whole shift ∷ []))) (sym many) in
        found-left lists Roll behind st front (items ++ (whole (pos (length items)) ∷ whole shift ∷ [])) (rolled_of shift items)
        (is ∙ split)
        (rolls shift items (rolled_of shift items) ((rolled-law shift items (rolled_of shift items)).1 refl))

    by_span : (beneath : List ℤ) (n : ℕ) → st.stack ≡ beneath ++ (whole (pos n) ∷ whole shift ∷ []) →
        (length beneath < n) ⊎ (n ≤ length beneath) → Found lists Roll behind st
    by_span beneath n is (inl long) =
        found-refused lists Roll behind st (beneath ++ (whole (pos n) ∷ whole shift ∷ [])) expected_more_operands is
        (span_too_long beneath n shift long)
    by_span beneath n is (inr fits) = rolled beneath n is fits

    by_sign : (beneath : List ℤ) (n : ℤ) → st.stack ≡ beneath ++ (whole n ∷ whole shift ∷ []) → Found lists Roll behind st
    by_sign beneath (pos n) is = by_span beneath n is (cases_lt (length beneath) n)
    by_sign beneath (negsuc n) is =
        found-refused lists Roll behind st (beneath ++ (whole (negsuc n) ∷ whole shift ∷ [])) invalid_operand is
        (span_below_zero beneath n shift)

    by_top : (HasNoWholeTop under) ⊎ ((beneath : List ℤ) × (n : ℤ) × (under ≡ beneath ++ whole n ∷ [])) → Found lists Roll behind st
    by_top (inl other) =
        found-refused lists Roll behind st (under ++ whole shift ∷ []) expected_integer is (no_whole_span under shift other)
    by_top (inr there) =
        by_sign there.0 there.1 (is ∙ ap (λ s. s ++ whole shift ∷ []) there.2 ∙ sym (two-last there.0 (whole there.1) (whole shift)))

-- the stored number of a number, or none
names-one : (stored : List ℤ) (i : ℤ) → (NamesNone stored i) ⊎ ((k : ℕ) × (i ≡ pos k) × (k < length stored))
names-one stored (negsuc n) = inl (below_zero n)
names-one stored (pos n) = by_size (cases_lt n (length stored))
  where
    by_size : (n < length stored) ⊎ (length stored ≤ n) → (NamesNone stored (pos n)) ⊎ ((k : ℕ) × (pos n ≡ pos k) × (k < length stored))
    by_size (inl there) = inr (n, refl, there)
    by_size (inr h) = inl (past_last n h)

found-put : (lists : Lists) (behind : List ℕ) (st : State) (under : List ℤ) (i : ℤ) → st.stack ≡ under ++ whole i ∷ [] → Ending under →
    Found lists Put behind st
found-put lists behind st _ i is nothing = found-refused lists Put behind st (whole i ∷ []) expected_operand is (nothing_to_put i)
found-put lists behind st _ i is (last beneath a) = by_place (names-one st.stored i)
  where
    there : st.stack ≡ beneath ++ (a ∷ whole i ∷ [])
    there = is ∙ sym (two-last beneath a (whole i))

    by_place : (NamesNone st.stored i) ⊎ ((k : ℕ) × (i ≡ pos k) × (k < length st.stored)) → Found lists Put behind st
    by_place (inl h) = found-refused lists Put behind st (beneath ++ (a ∷ whole i ∷ [])) invalid_operand there (put_nowhere beneath a i h)
    by_place (inr h) = (
      Keeps (beneath ++ []) (slice_set st.stored h.0 a),
      makes beneath (a ∷ whole (pos h.0) ∷ []) [] (slice_set st.stored h.0 a) (put a h.0 h.2)
          (there ∙ ap (λ i. beneath ++ (a ∷ whole i ∷ [])) h.1),
    )

found-get : (lists : Lists) (behind : List ℕ) (st : State) (beneath : List ℤ) (i : ℤ) → st.stack ≡ beneath ++ whole i ∷ [] →
    Found lists Get behind st
found-get lists behind st beneath i is = by_place (names-one st.stored i)
  where
    by_place : (NamesNone st.stored i) ⊎ ((k : ℕ) × (i ≡ pos k) × (k < length st.stored)) → Found lists Get behind st
    by_place (inl h) = found-refused lists Get behind st (beneath ++ whole i ∷ []) invalid_operand is (get_nowhere beneath i h)
    by_place (inr h) =
        let x = get_or st.stored h.0 (pos 0) in (
          Keeps (beneath ++ x ∷ []) st.stored,
          makes beneath (whole (pos h.0) ∷ []) (x ∷ []) st.stored (get h.0 x (slice_get-get_or st.stored h.0 (pos 0) h.2))
              (is ∙ ap (λ i. beneath ++ whole i ∷ []) h.1),
        )

-- the greatest root, rounded down
abbrev RootOf : ℕ → Type 0
RootOf n = (r : ℕ) × (r * r ≤ n) × (n < (r + 1) * (r + 1))

next-root : (n r : ℕ) → r * r ≤ n → n < (r + 1) * (r + 1) → (suc n < (r + 1) * (r + 1)) ⊎ ((r + 1) * (r + 1) ≤ suc n) → RootOf (suc n)
next-root n r under above h2 = grind arith

root-of : (n : ℕ) → RootOf n
root-of zero = (0, omega arith, omega arith)
root-of (suc n) = let one = root-of n in next-root n one.0 one.1 one.2 (cases_lt (suc n) ((one.0 + 1) * (one.0 + 1)))

found-sqrt : (lists : Lists) (behind : List ℕ) (st : State) (beneath : List ℤ) (a : ℤ) → st.stack ≡ beneath ++ a ∷ [] →
    Found lists Sqrt behind st
found-sqrt lists behind st beneath (negsuc n) is =
    found-refused lists Sqrt behind st (beneath ++ negsuc n ∷ []) negative_root is (root_of_negative beneath n)
found-sqrt lists behind st beneath (pos n) is =
    let root = root-of (n * 65536) in
    found-left lists Sqrt behind st beneath (pos n ∷ []) (pos root.0 ∷ []) is (sqrt n root.0 root.1 root.2)

found-div : (lists : Lists) (behind : List ℕ) (st : State) (beneath : List ℤ) (a b : ℤ) → st.stack ≡ beneath ++ (a ∷ b ∷ []) →
    Found lists Div behind st
found-div lists behind st beneath a (pos zero) is =
    found-refused lists Div behind st (beneath ++ (a ∷ pos 0 ∷ [])) zero_divisor is (zero_divisor_on_top beneath a)
found-div lists behind st beneath a (pos (suc n)) is =
    found-result lists Div behind st beneath (a ∷ pos (suc n) ∷ []) (cut (a *ℤ pos 65536) (pos (suc n))) is
    (div a (pos (suc n)) (λ e. let no : suc n ≡ 0 = cc in omega arith))
found-div lists behind st beneath a (negsuc n) is =
    found-result lists Div behind st beneath (a ∷ negsuc n ∷ []) (cut (a *ℤ pos 65536) (negsuc n)) is (div a (negsuc n) (λ e. cc))

found-if : (lists : Lists) (behind : List ℕ) (st : State) (beneath : List ℤ) (p q v w : ℤ) → st.stack ≡ beneath ++ (p ∷ q ∷ v ∷ w ∷ []) →
    Found lists IfElse behind st
found-if lists behind st beneath p q v w is =
    by_lt_z w v (λ above. found-left lists IfElse behind st beneath (p ∷ q ∷ v ∷ w ∷ []) (q ∷ []) is (if_above p q v w above))
    (λ under. found-left lists IfElse behind st beneath (p ∷ q ∷ v ∷ w ∷ []) (p ∷ []) is (if_not_above p q v w under))

-- the width beneath them
settle : (before : Option (Option ℤ)) (beneath : List ℤ) → (width : Option ℤ) × IsSettled before beneath width
settle (Some width) beneath = (width, settled_before width beneath)
settle None beneath = by_end beneath (ending beneath)
  where
    by_end : (beneath : List ℤ) → Ending beneath → (width : Option ℤ) × IsSettled None beneath width
    by_end _ nothing = (None, nothing_beneath)
    by_end _ (last lower x) = (Some x, operand_beneath lower x)

count-stems : (st : State) → StemsAfter st (stems_after st)
count-stems st = in_pairs (length st.stack / 2) (length st.stack % 2) (omega arith) (omega arith)

found-draws : (lists : Lists) (op : Operator) (behind : List ℕ) (st : State) (takes : ℕ → Bool) → kind op ≡ Draws takes →
    Found lists op behind st
found-draws lists op behind st takes k = by_parts (taking takes st.stack)
  where
    by_parts : Taking takes st.stack → Found lists op behind st
    by_parts (inr nowhere) = (Refuses malformed_operands, draws_none takes k nowhere)
    by_parts (inl split) =
        let width = settle st.width split.0 in
        (Clears split.1 [] st.stems width.0 0, draws takes split.0 split.1 width.0 k split.2 width.1)

found-stems : (lists : Lists) (op : Operator) (behind : List ℕ) (st : State) (takes : ℕ → Bool) → kind op ≡ DeclaresStems takes →
    Found lists op behind st
found-stems lists op behind st takes k = by_count (cases_lt (stems_after st) (2 ^ 32))
  where
    by_parts : stems_after st < 2 ^ 32 → Taking takes st.stack → Found lists op behind st
    by_parts few (inr nowhere) = (Refuses malformed_operands, declares_none takes (stems_after st) k (count-stems st) few nowhere)
    by_parts few (inl split) =
        let width = settle st.width split.0 in (
          Clears split.1 [] (stems_after st) width.0 0,
          declares takes split.0 split.1 width.0 (stems_after st) k (count-stems st) few split.2 width.1,
        )

    by_count : (stems_after st < 2 ^ 32) ⊎ (2 ^ 32 ≤ stems_after st) → Found lists op behind st
    by_count (inr many) = (Refuses too_many_stems, declares_too_many takes (stems_after st) k (count-stems st) many)
    by_count (inl few) = by_parts few (taking takes st.stack)

found-mask : (lists : Lists) (op : Operator) (behind : List ℕ) (st : State) → kind op ≡ Masks (exactly 0) → Found lists op behind st
found-mask lists op behind st k = by_count (cases_lt (stems_after st) (2 ^ 32))
  where
    by_bytes : stems_after st < 2 ^ 32 → (length behind < mask_len (stems_after st)) ⊎ (mask_len (stems_after st) ≤ length behind) →
        Found lists op behind st
    by_bytes few (inl short) = (Refuses unexpected_eof, masks_cut (exactly 0) (stems_after st) k (count-stems st) few short)
    by_bytes few (inr there) =
        let odd = length st.stack % 2 in
        let beneath = take odd st.stack in
        let rest = drop_of odd st.stack in
        let many : length rest ≡ length st.stack - odd = length-drop odd st.stack in
        let few_beneath : length beneath ≡ odd = length-take-le odd st.stack (omega arith) in
        let width = settle st.width beneath in (
          Clears [] rest (stems_after st) width.0 (mask_len (stems_after st)),
          masks beneath rest width.0 (stems_after st) k (count-stems st) few there (sym (take-append-drop odd st.stack)) (omega arith)
              (omega arith) width.1,
        )

    by_count : (stems_after st < 2 ^ 32) ⊎ (2 ^ 32 ≤ stems_after st) → Found lists op behind st
    by_count (inr many) = (Refuses too_many_stems, masks_too_many (exactly 0) (stems_after st) k (count-stems st) many)
    by_count (inl few) = by_bytes few (cases_lt (length behind) (mask_len (stems_after st)))

found-call : (lists : Lists) (op : Operator) (behind : List ℕ) (st : State) (routines : Lists → List (List ℕ)) →
    kind op ≡ CallsFrom routines → Found lists op behind st
found-call lists op behind st routines k = by_top (whole-top st.stack)
  where
    by_name : (beneath : List ℤ) (n : ℤ) → st.stack ≡ beneath ++ whole n ∷ [] → (o : Option (List ℕ)) → named (routines lists) n ≡ o →
        Found lists op behind st
    by_name beneath n is (Some routine) there = (Calls routine beneath, calls routines beneath n routine k is there)
    by_name beneath n is None missing = (Refuses missing_subroutine, calls_nothing routines beneath n k is missing)

    by_top : (HasNoWholeTop st.stack) ⊎ ((beneath : List ℤ) × (n : ℤ) × (st.stack ≡ beneath ++ whole n ∷ [])) → Found lists op behind st
    by_top (inl other) = (Refuses expected_integer, calls_no_number routines k other)
    by_top (inr there) = by_name there.0 there.1 there.2 (named (routines lists) there.1) refl

found-end : (lists : Lists) (op : Operator) (behind : List ℕ) (st : State) → kind op ≡ EndsGlyph → Found lists op behind st
found-end lists op behind st k = by_length (cases_lt (length st.stack) 4)
  where
    by_length : (length st.stack < 4) ⊎ (4 ≤ length st.stack) → Found lists op behind st
    by_length (inl few) = let width = settle st.width st.stack in (Ends [] width.0, ends st.stack [] width.0 k (fewer st.stack few) width.1)
    by_length (inr there) =
        let front = take (length st.stack - 4) st.stack in
        let back = drop_of (length st.stack - 4) st.stack in
        let many : length back ≡ 4 = length-drop (length st.stack - 4) st.stack ∙ omega arith in
        let width = settle st.width front in (
          Ends back width.0,
          ends front back width.0 k
              (subst (λ stack. TakesAtEnd stack front back) (take-append-drop (length st.stack - 4) st.stack) (last_four front back many))
              width.1,
        )

-- the operators that clear the stack, call, return, end the glyph or are refused for good
abbrev IsOther : Kind → Type 0
IsOther (Works work) = ⊥
IsOther (Stores work) = ⊥
IsOther (Masks takes) = takes ≡ exactly 0
IsOther k = Unit {0}

found-other : (lists : Lists) (op : Operator) (behind : List ℕ) (st : State) (k : Kind) → kind op ≡ k → IsOther k → Found lists op behind st
found-other lists op behind st (Draws takes) k other = found-draws lists op behind st takes k
found-other lists op behind st (DeclaresStems takes) k other = found-stems lists op behind st takes k
found-other lists op behind st (Masks takes) k other = found-mask lists op behind st (k ∙ ap Masks other)
found-other lists op behind st (CallsFrom routines) k other = found-call lists op behind st routines k
found-other lists op behind st GoesBack k other = (Returns, returns k)
found-other lists op behind st EndsGlyph k other = found-end lists op behind st k
found-other lists op behind st (IsRefused part) k other = (Refuses (OfPart part), without_meaning part k)
found-other lists op behind st (Works work) k other = absurd other
found-other lists op behind st (Stores work) k other = absurd other

found : (lists : Lists) (op : Operator) (behind : List ℕ) (st : State) → Found lists op behind st
found lists Abs behind st =
    ones lists Abs behind st refl (λ beneath a is. found-result lists Abs behind st beneath (a ∷ []) (pos (nat_abs a)) is (abs a))
found lists Neg behind st =
    ones lists Neg behind st refl (λ beneath a is. found-result lists Neg behind st beneath (a ∷ []) (neg_ℤ a) is (neg a))
found lists Sqrt behind st = ones lists Sqrt behind st refl (found-sqrt lists behind st)
found lists Not behind st =
    ones lists Not behind st refl
    (λ beneath a is. found-left lists Not behind st beneath (a ∷ []) (truth (not (is_true a)) ∷ []) is (negated a))
found lists Drop behind st =
    ones lists Drop behind st refl (λ beneath a is. found-left lists Drop behind st beneath (a ∷ []) [] is (drop a))
found lists Add behind st =
    twos lists Add behind st refl (λ beneath a b is. found-result lists Add behind st beneath (a ∷ b ∷ []) (a +ℤ b) is (add a b))
found lists Sub behind st =
    twos lists Sub behind st refl (λ beneath a b is. found-result lists Sub behind st beneath (a ∷ b ∷ []) (a -ℤ b) is (sub a b))
found lists Mul behind st =
    twos lists Mul behind st refl
    (λ beneath a b is. found-result lists Mul behind st beneath (a ∷ b ∷ []) (cut (a *ℤ b) (pos 65536)) is (mul a b))
found lists Div behind st = twos lists Div behind st refl (found-div lists behind st)
found lists And behind st =
    twos lists And behind st refl
    (λ beneath a b is. found-left lists And behind st beneath (a ∷ b ∷ []) (truth (is_true a && is_true b) ∷ []) is (and a b))
found lists Or behind st =
    twos lists Or behind st refl
    (λ beneath a b is. found-left lists Or behind st beneath (a ∷ b ∷ []) (truth (is_true a || is_true b) ∷ []) is (or a b))
found lists Eq behind st =
    twos lists Eq behind st refl
    (λ beneath a b is. found-left lists Eq behind st beneath (a ∷ b ∷ []) (truth (int_eq a b) ∷ []) is (eq a b))
found lists Exch behind st =
    twos lists Exch behind st refl (λ beneath a b is. found-left lists Exch behind st beneath (a ∷ b ∷ []) (b ∷ a ∷ []) is (exch a b))
found lists IfElse behind st = fours lists IfElse behind st refl (found-if lists behind st)
found lists Dup behind st = by_end st.stack refl (ending st.stack)
  where
    by_end : (stack : List ℤ) → st.stack ≡ stack → Ending stack → Found lists Dup behind st
    by_end _ is nothing = found-refused lists Dup behind st [] expected_more_operands is nothing_to_double
    by_end _ is (last beneath a) = found-left lists Dup behind st beneath (a ∷ []) (a ∷ a ∷ []) is (dup a)
found lists Index behind st = found-named lists Index behind st index_names (found-index lists behind st)
found lists Roll behind st = found-named lists Roll behind st roll_names (found-roll lists behind st)
found lists Put behind st = found-named lists Put behind st put_names (λ under i is. found-put lists behind st under i is (ending under))
found lists Get behind st = found-named lists Get behind st get_names (found-get lists behind st)
found lists HintMask behind st = found-other lists HintMask behind st (kind HintMask) refl refl
found lists CntrMask behind st = found-other lists CntrMask behind st (kind CntrMask) refl refl
found lists op behind st = found-other lists op behind st (kind op) refl tt

pub law : OperatorsDoSo
law lists op behind st move = (
  does-on lists op behind st move,
  λ is. let one = found lists op behind st in subst (Does lists op behind st) (sym (does-on lists op behind st one.0 one.1) ∙ is) one.1,
)
