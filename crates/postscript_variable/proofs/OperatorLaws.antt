-- What operators do by the table is what is computed.
use Rattle.std.proofs.lemmas.Bool.{cases_lt, lt-ltb, le-ltb}
use Rattle.std.proofs.lemmas.List.{take-append-drop, length-take-le, append-nil}
use Rattle.std.proofs.Math.Seq.{take-append_seam, drop-append_seam}
use Rattle.std.proofs.Common.{◌≡◌, refl, ap, sym, subst, ◌∙◌, ◌⊎◌, inl, inr, ℕ, suc, ◌+◌, ◌-◌, ◌*◌, ◌/◌, ◌%◌, ◌^◌, ◌<◌, ◌≤◌, ℤ, pos, negsuc, nat_lt, Bool, true, false, cond, List, [], ◌∷◌, ◌++◌, length, length-append, length-drop, append_assoc, take, drop, Option, Some, None, Result, Ok, Err, if◌then◌else◌, arith}
use Rattle.postscript_base.specs.Refusal.{Refusal, unexpected_eof, malformed_operands, expected_integer, expected_more_operands, invalid_operand, overflow, too_many_stems}
use Rattle.postscript_type2.specs.declared.operation.Operator.{Operator}
use Rattle.postscript_type2.specs.declared.operation.Operator.TheVariants.{HintMask, CntrMask}
use Rattle.postscript_type2.specs.Number.{whole}
use Rattle.postscript_type2.specs.Operation.Kinds.{Kind, Draws, DeclaresStems, Masks, Works, Stores, GoesBack, EndsGlyph, IsRefused, CallsFrom as KindCalls, kind, lengths, taken as taken_of}
use Rattle.postscript_type2.specs.Operation.Lengths.{greatest}
use Rattle.postscript_type2.specs.Program.Effects.{mask_len, last_of, named}
use Rattle.postscript_type2.specs.Program.OperatorRules.{TakesMost, TakesNone}
use Rattle.postscript_type2.specs.Program.StackRules.{HasNoWholeTop}
use Rattle.postscript_type2.specs.Program.StackWork.{whole_operand, at}
use Rattle.postscript_type2.proofs.Greatest.{greatest-none}
use Rattle.postscript_type2.proofs.Taken.{exactly-taken}
use Rattle.postscript_variable.specs.declared.command.Command.{Command}
use Rattle.postscript_variable.specs.declared.command.Command.TheVariants.{Answered, VsIndex, Blend, CallSubr, CallGSubr}
use Rattle.postscript_variable.specs.Blending.{values}
use Rattle.postscript_variable.specs.Effects.{clearing, stems_after, with_stems, path_move, answer_move, index_move, chosen, chosen_by, blended, blend_top, blend_many, blend_by, blend_over, called_as, call_by, call_move, effect}
use Rattle.postscript_variable.specs.State.{Font, State, cleared, Effect, Clears, Refuses}
use Rattle.postscript_variable.specs.OperatorRules as rules
use Rattle.postscript_variable.specs.OperatorRules.{StemsAfter, CallsFrom, IsOther, Does, OperatorsDoSo}
use Rattle.postscript_variable.specs.BlendRules.{AreBlended, LeavesRange}
use Rattle.postscript_variable.proofs.BlendLaws.{values-are, values-past, Blend as BlendOf, blend-of}
use Rattle.postscript_type2.proofs.StackLaws.{no-whole, whole-on, WholeTop, whole-top, most-taken, none-taken, last-is, Taking, taking}

-- operators that are answered
clearing-is : (op : Operator) (st : State) (stems : ℕ) (takes : ℕ → Bool) (beneath taken : List ℤ) →
    TakesMost takes st.stack beneath taken →
    clearing op st stems 0 (greatest takes (length st.stack)) ≡ Clears op taken (cleared stems st) 0
clearing-is op st stems takes beneath taken h =
    ap (clearing op st stems 0) (most-taken takes st.stack beneath taken h)
    ∙ ap (λ xs. Clears op xs (cleared stems st) 0) (last-is st.stack beneath taken h.parts)

clearing-none : (op : Operator) (st : State) (stems : ℕ) (takes : ℕ → Bool) → TakesNone takes st.stack →
    clearing op st stems 0 (greatest takes (length st.stack)) ≡ Refuses malformed_operands
clearing-none op st stems takes h = ap (clearing op st stems 0) (none-taken takes st.stack h)

stems-are : (st : State) (stems : ℕ) → StemsAfter st stems → stems_after st ≡ stems
stems-are st _ (rules.in_pairs n odd few all) = omega arith

within : (stems : ℕ) (move : Effect) → stems < 2 ^ 32 → with_stems stems move ≡ move
within stems move h = grind arith

too_many : (stems : ℕ) (move : Effect) → 2 ^ 32 ≤ stems → with_stems stems move ≡ Refuses too_many_stems
too_many stems move h = grind arith

-- by kinds, each with the lengths that it takes
by-kind : (op : Operator) (behind : List ℕ) (st : State) (k : Kind) → kind op ≡ k →
    answer_move (kind op) op behind st ≡ answer_move k op behind st
by-kind op behind st k e = ap (λ k. answer_move k op behind st) e

taken-by : (op : Operator) (k : Kind) (n : ℕ) → kind op ≡ k → taken_of op n ≡ greatest (lengths k) n
taken-by op k n e = ap (λ k. greatest (lengths k) n) e

draws-on : (op : Operator) (behind : List ℕ) (st : State) (takes : ℕ → Bool) → kind op ≡ Draws takes →
    answer_move (kind op) op behind st ≡ clearing op st st.stems 0 (greatest takes (length st.stack))
draws-on op behind st takes k =
    by-kind op behind st (Draws takes) k ∙ ap (clearing op st st.stems 0) (taken-by op (Draws takes) (length st.stack) k)

declares-on : (op : Operator) (behind : List ℕ) (st : State) (takes : ℕ → Bool) (stems : ℕ) → kind op ≡ DeclaresStems takes →
    StemsAfter st stems →
    answer_move (kind op) op behind st ≡ with_stems stems (clearing op st stems 0 (greatest takes (length st.stack)))
declares-on op behind st takes stems k counts = by-kind op behind st (DeclaresStems takes) k
    ∙ ap (λ o. with_stems (stems_after st) (clearing op st (stems_after st) 0 o)) (taken-by op (DeclaresStems takes) (length st.stack) k)
    ∙ ap (λ n. with_stems n (clearing op st n 0 (greatest takes (length st.stack)))) (stems-are st stems counts)

abbrev masked : Operator → (behind : List ℕ) → State → (stems : ℕ) → (taken : Option ℕ) → Effect
masked op behind st stems taken =
    with_stems stems (if nat_lt (length behind) (mask_len stems) then Refuses unexpected_eof else clearing op st stems
    (mask_len stems) taken)

masks-on : (op : Operator) (behind : List ℕ) (st : State) (takes : ℕ → Bool) (stems : ℕ) → kind op ≡ Masks takes → StemsAfter st stems →
    answer_move (kind op) op behind st ≡ masked op behind st stems (taken_of op (length st.stack))
masks-on op behind st takes stems k counts =
    by-kind op behind st (Masks takes) k ∙ ap (λ n. masked op behind st n (taken_of op (length st.stack))) (stems-are st stems counts)

-- a mask takes no operands
mask-takes : (op : Operator) (takes : ℕ → Bool) (n : ℕ) → kind op ≡ Masks takes → taken_of op n ≡ Some 0
mask-takes HintMask takes n k = exactly-taken 0 n (omega arith)
mask-takes CntrMask takes n k = exactly-taken 0 n (omega arith)
mask-takes op takes n k = absurd (cc)

clears-none : (op : Operator) (st : State) (stems mask : ℕ) → clearing op st stems mask (Some 0) ≡ Clears op [] (cleared stems st) mask
clears-none op st stems mask = ap (λ xs. Clears op xs (cleared stems st) mask) (last-is st.stack st.stack [] (sym (append-nil st.stack)))

mask-there : (op : Operator) (behind : List ℕ) (st : State) (stems : ℕ) → stems < 2 ^ 32 → mask_len stems ≤ length behind →
    masked op behind st stems (Some 0) ≡ Clears op [] (cleared stems st) (mask_len stems)
mask-there op behind st stems few there = within stems _ few
    ∙ ap (λ b. cond b (Refuses unexpected_eof) (clearing op st stems (mask_len stems) (Some 0)))
    (le-ltb (length behind) (mask_len stems) there) ∙ clears-none op st stems (mask_len stems)

mask-cut : (op : Operator) (behind : List ℕ) (st : State) (stems : ℕ) (taken : Option ℕ) → stems < 2 ^ 32 → length behind < mask_len stems →
    masked op behind st stems taken ≡ Refuses unexpected_eof
mask-cut op behind st stems taken few short = within stems _ few
    ∙ ap (λ b. cond b (Refuses unexpected_eof) (clearing op st stems (mask_len stems) taken))
    (lt-ltb (length behind) (mask_len stems) short)

-- other kinds take no number of operands
no-length : (k : Kind) (n : ℕ) → IsOther k → lengths k n ≡ false
no-length k n other = grind arith

path-of : (op : Operator) (behind : List ℕ) (st : State) (k : Kind) → IsOther k → answer_move k op behind st ≡ path_move op st
path-of op behind st k other = grind arith

others-on : (op : Operator) (behind : List ℕ) (st : State) → IsOther (kind op) →
    answer_move (kind op) op behind st ≡ Refuses malformed_operands
others-on op behind st other =
    path-of op behind st (kind op) other
    ∙ ap (clearing op st st.stems 0) (greatest-none (lengths (kind op)) (length st.stack) (λ j below. no-length (kind op) j other))

-- a call, where a number is on top and where none is
call-on : (st : State) (routines : List (List ℕ)) (beneath : List ℤ) (n : ℤ) (o : Option (List ℕ)) → st.stack ≡ beneath ++ whole n ∷ [] →
    named routines n ≡ o →
    call_move st routines ≡ called_as st beneath o
call-on st routines beneath n o e there =
    ap (λ stack. call_by st routines (whole_operand stack)) e ∙ ap (call_by st routines) (whole-on beneath n)
    ∙ ap (called_as st beneath) there

call-without : (st : State) (routines : List (List ℕ)) → HasNoWholeTop st.stack → call_move st routines ≡ Refuses expected_integer
call-without st routines h = ap (call_by st routines) (no-whole st.stack h)

calls-from : (font : Font) (command : Command) (behind : List ℕ) (st : State) (routines : List (List ℕ)) → CallsFrom font command routines →
    effect font command behind st ≡ call_move st routines
calls-from font CallSubr behind st routines is = ap (call_move st) (sym is)
calls-from font CallGSubr behind st routines is = ap (call_move st) (sym is)
calls-from font (Answered op) behind st routines is = absurd is
calls-from font VsIndex behind st routines is = absurd is
calls-from font Blend behind st routines is = absurd is

-- vsindex
index-early : (tables : List (List ℕ)) (st : State) → st.is_blended ≡ false →
    index_move tables st ≡ chosen_by tables st (whole_operand st.stack)
index-early tables st early = ap (λ b. cond b (Refuses invalid_operand) (chosen_by tables st (whole_operand st.stack))) early

index-late : (tables : List (List ℕ)) (st : State) → st.is_blended ≡ true → index_move tables st ≡ Refuses invalid_operand
index-late tables st late = ap (λ b. cond b (Refuses invalid_operand) (chosen_by tables st (whole_operand st.stack))) late

index-on : (tables : List (List ℕ)) (st : State) (beneath : List ℤ) (n : ℤ) (o : Option (List ℕ)) → st.is_blended ≡ false →
    st.stack ≡ beneath ++ whole n ∷ [] → at tables n ≡ o →
    index_move tables st ≡ chosen st o
index-on tables st beneath n o early e there =
    index-early tables st early ∙ ap (λ stack. chosen_by tables st (whole_operand stack)) e
    ∙ ap (chosen_by tables st) (whole-on beneath n) ∙ ap (chosen st) there

index-without : (tables : List (List ℕ)) (st : State) → st.is_blended ≡ false → HasNoWholeTop st.stack →
    index_move tables st ≡ Refuses expected_integer
index-without tables st early h = index-early tables st early ∙ ap (chosen_by tables st) (no-whole st.stack h)

-- blend
blend-with : (st : State) (scalars : List ℕ) → st.scalars ≡ Some scalars →
    blend_over st st.scalars ≡ blend_by st scalars (whole_operand st.stack)
blend-with st scalars is = ap (blend_over st) is

blend-number : (st : State) (scalars : List ℕ) (operands : List ℤ) (n : ℤ) → st.scalars ≡ Some scalars →
    st.stack ≡ operands ++ whole n ∷ [] →
    blend_over st st.scalars ≡ blend_many st scalars n operands
blend-number st scalars operands n is e =
    blend-with st scalars is ∙ ap (λ stack. blend_by st scalars (whole_operand stack)) e ∙ ap (blend_by st scalars) (whole-on operands n)

-- n values of the top, where there are as many operands and where there are fewer
abbrev above : State → (scalars : List ℕ) → (n : ℕ) → (operands : List ℤ) → Effect
above st scalars n operands =
    let top = last_of operands (n * suc (length scalars)) in
    blended st (take (length operands - n * suc (length scalars)) operands) (values (take n top) (drop n top) scalars)

blend-few : (st : State) (scalars : List ℕ) (n : ℕ) (operands : List ℤ) → length operands < n * suc (length scalars) →
    blend_top st scalars n operands ≡ Refuses expected_more_operands
blend-few st scalars n operands few =
    ap (λ b. cond b (Refuses expected_more_operands) (above st scalars n operands))
    (lt-ltb (length operands) (n * suc (length scalars)) few)

blend-enough : (st : State) (scalars : List ℕ) (n : ℕ) (operands : List ℤ) → n * suc (length scalars) ≤ length operands →
    blend_top st scalars n operands ≡ above st scalars n operands
blend-enough st scalars n operands enough =
    ap (λ b. cond b (Refuses expected_more_operands) (above st scalars n operands))
    (le-ltb (length operands) (n * suc (length scalars)) enough)

parts-of : (st : State) (scalars : List ℕ) (beneath nums deltas : List ℤ) → length deltas ≡ length nums * length scalars →
    blend_top st scalars (length nums) (beneath ++ (nums ++ deltas)) ≡ blended st beneath (values nums deltas scalars)
parts-of st scalars beneath nums deltas many =
    let operands = beneath ++ (nums ++ deltas) in
    let n = length nums in
    let both : length (nums ++ deltas) ≡ n + length deltas = length-append nums deltas in
    let size : n * suc (length scalars) ≡ length (nums ++ deltas) = omega (arith, both, many) in
    let all : length operands ≡ length beneath + length (nums ++ deltas) = length-append beneath (nums ++ deltas) in
    let under : length operands - length (nums ++ deltas) ≡ length beneath = omega (arith, all) in
    let top : last_of operands (length (nums ++ deltas)) ≡ nums ++ deltas = last-is operands beneath (nums ++ deltas) refl in
    blend-enough st scalars n operands (omega (arith, size, all))
    ∙ ap (λ m. blended st (take (length operands - m) operands)
    (values (take n (last_of operands m)) (drop n (last_of operands m)) scalars)) size
    ∙ ap (λ xs. blended st (take (length operands - length (nums ++ deltas)) operands) (values (take n xs) (drop n xs) scalars)) top
    ∙ ap (λ k. blended st (take k operands) (values (take n (nums ++ deltas)) (drop n (nums ++ deltas)) scalars)) under
    ∙ ap (λ xs. blended st xs (values (take n (nums ++ deltas)) (drop n (nums ++ deltas)) scalars))
    (take-append_seam beneath (nums ++ deltas))
    ∙ ap (λ xs. blended st beneath (values xs (drop n (nums ++ deltas)) scalars)) (take-append_seam nums deltas)
    ∙ ap (λ xs. blended st beneath (values nums xs scalars)) (drop-append_seam nums deltas)

-- the operands of a blend, with the number behind them
joined : (beneath nums deltas : List ℤ) (x : ℤ) → beneath ++ (nums ++ (deltas ++ x ∷ [])) ≡ (beneath ++ (nums ++ deltas)) ++ x ∷ []
joined beneath nums deltas x =
    ap (λ xs. beneath ++ xs) (sym (append_assoc nums deltas (x ∷ []))) ∙ sym (append_assoc beneath (nums ++ deltas) (x ∷ []))

blend-on : (st : State) (scalars : List ℕ) (beneath nums deltas : List ℤ) (r : Result (List ℤ) Refusal) → st.scalars ≡ Some scalars →
    st.stack ≡ beneath ++ (nums ++ (deltas ++ whole (pos (length nums)) ∷ [])) → length deltas ≡ length nums * length scalars → values
    nums deltas scalars ≡ r →
    blend_over st st.scalars ≡ blended st beneath r
blend-on st scalars beneath nums deltas r is e many vals =
    blend-number st scalars (beneath ++ (nums ++ deltas)) (pos (length nums)) is
    (e ∙ joined beneath nums deltas (whole (pos (length nums))))
    ∙ parts-of st scalars beneath nums deltas many ∙ ap (blended st beneath) vals

does-on : (font : Font) (command : Command) (behind : List ℕ) (st : State) (move : Effect) → Does font behind st command move →
    effect font command behind st ≡ move
does-on font _ behind st _ (rules.draws op takes beneath taken k h) =
    draws-on op behind st takes k ∙ clearing-is op st st.stems takes beneath taken h
does-on font _ behind st _ (rules.draws_none op takes k h) = draws-on op behind st takes k ∙ clearing-none op st st.stems takes h
does-on font _ behind st _ (rules.declares op takes beneath taken stems k counts few h) =
    declares-on op behind st takes stems k counts ∙ within stems _ few ∙ clearing-is op st stems takes beneath taken h
does-on font _ behind st _ (rules.declares_none op takes stems k counts few h) =
    declares-on op behind st takes stems k counts ∙ within stems _ few ∙ clearing-none op st stems takes h
does-on font _ behind st _ (rules.declares_too_many op takes stems k counts many) =
    declares-on op behind st takes stems k counts ∙ too_many stems _ many
does-on font _ behind st _ (rules.masks op takes stems k counts few there) =
    masks-on op behind st takes stems k counts ∙ ap (masked op behind st stems) (mask-takes op takes (length st.stack) k)
    ∙ mask-there op behind st stems few there
does-on font _ behind st _ (rules.masks_cut op takes stems k counts few short) =
    masks-on op behind st takes stems k counts ∙ mask-cut op behind st stems (taken_of op (length st.stack)) few short
does-on font _ behind st _ (rules.masks_too_many op takes stems k counts many) =
    masks-on op behind st takes stems k counts ∙ too_many stems _ many
does-on font _ behind st _ (rules.answers_nothing op other) = others-on op behind st other
does-on font _ behind st _ (rules.chooses beneath n scalars early e there) =
    index-on font.tables st beneath (pos n) (Some scalars) early e there
does-on font _ behind st _ (rules.chooses_late late) = index-late font.tables st late
does-on font _ behind st _ (rules.chooses_no_number early h) = index-without font.tables st early h
does-on font _ behind st _ (rules.chooses_no_table beneath n early e none) = index-on font.tables st beneath n None early e none
does-on font _ behind st _ (rules.blends scalars beneath nums deltas vals is e h) =
    let there = values-are scalars nums deltas vals h in blend-on st scalars beneath nums deltas (Ok vals) is e there.1 there.0
does-on font _ behind st _ (rules.blends_past_range scalars beneath nums deltas is e many h) =
    blend-on st scalars beneath nums deltas (Err overflow) is e many (values-past scalars nums deltas h)
does-on font _ behind st _ (rules.blends_too_few scalars operands n is e few) =
    blend-number st scalars operands (pos n) is e ∙ blend-few st scalars n operands few
does-on font _ behind st _ (rules.blends_below_zero scalars operands n is e) = blend-number st scalars operands (negsuc n) is e
does-on font _ behind st _ (rules.blends_no_number scalars is h) = blend-with st scalars is ∙ ap (blend_by st scalars) (no-whole st.stack h)
does-on font _ behind st _ (rules.blends_with_nothing is) = ap (blend_over st) is
does-on font _ behind st _ (rules.calls command routines beneath n routine from e there) =
    calls-from font command behind st routines from ∙ call-on st routines beneath n (Some routine) e there
does-on font _ behind st _ (rules.calls_no_number command routines from h) =
    calls-from font command behind st routines from ∙ call-without st routines h
does-on font _ behind st _ (rules.calls_nothing command routines beneath n from e none) =
    calls-from font command behind st routines from ∙ call-on st routines beneath n None e none

-- Each operator does something from each state.
abbrev Found : Font → Command → (behind : List ℕ) → State → Type 0
Found font command behind st = (move : Effect) × Does font behind st command move

count-stems : (st : State) → StemsAfter st (stems_after st)
count-stems st = rules.in_pairs (length st.stack / 2) (length st.stack % 2) (omega arith) (omega arith)

found-draws : (font : Font) (op : Operator) (behind : List ℕ) (st : State) (takes : ℕ → Bool) → kind op ≡ Draws takes →
    Found font (Answered op) behind st
found-draws font op behind st takes k = by_length (taking takes st.stack)
  where
    by_length : Taking takes st.stack → Found font (Answered op) behind st
    by_length (inl one) = (Clears op one.1 (cleared st.stems st) 0, rules.draws op takes one.0 one.1 k one.2)
    by_length (inr nowhere) = (Refuses malformed_operands, rules.draws_none op takes k nowhere)

found-stems : (font : Font) (op : Operator) (behind : List ℕ) (st : State) (takes : ℕ → Bool) → kind op ≡ DeclaresStems takes →
    Found font (Answered op) behind st
found-stems font op behind st takes k = by_count (cases_lt (stems_after st) (2 ^ 32))
  where
    by_length : stems_after st < 2 ^ 32 → Taking takes st.stack → Found font (Answered op) behind st
    by_length few (inl one) =
        (Clears op one.1 (cleared (stems_after st) st) 0, rules.declares op takes one.0 one.1 (stems_after st) k (count-stems st) few one.2)
    by_length few (inr nowhere) = (Refuses malformed_operands, rules.declares_none op takes (stems_after st) k (count-stems st) few nowhere)

    by_count : (stems_after st < 2 ^ 32) ⊎ (2 ^ 32 ≤ stems_after st) → Found font (Answered op) behind st
    by_count (inl few) = by_length few (taking takes st.stack)
    by_count (inr many) = (Refuses too_many_stems, rules.declares_too_many op takes (stems_after st) k (count-stems st) many)

found-mask : (font : Font) (op : Operator) (behind : List ℕ) (st : State) (takes : ℕ → Bool) → kind op ≡ Masks takes →
    Found font (Answered op) behind st
found-mask font op behind st takes k = by_count (cases_lt (stems_after st) (2 ^ 32))
  where
    by_bytes : stems_after st < 2 ^ 32 → (length behind < mask_len (stems_after st)) ⊎ (mask_len (stems_after st) ≤ length behind) →
        Found font (Answered op) behind st
    by_bytes few (inl short) = (Refuses unexpected_eof, rules.masks_cut op takes (stems_after st) k (count-stems st) few short)
    by_bytes few (inr there) = (
      Clears op [] (cleared (stems_after st) st) (mask_len (stems_after st)),
      rules.masks op takes (stems_after st) k (count-stems st) few there,
    )

    by_count : (stems_after st < 2 ^ 32) ⊎ (2 ^ 32 ≤ stems_after st) → Found font (Answered op) behind st
    by_count (inl few) = by_bytes few (cases_lt (length behind) (mask_len (stems_after st)))
    by_count (inr many) = (Refuses too_many_stems, rules.masks_too_many op takes (stems_after st) k (count-stems st) many)

found-other : (font : Font) (op : Operator) (behind : List ℕ) (st : State) (k : Kind) → kind op ≡ k → IsOther k →
    Found font (Answered op) behind st
found-other font op behind st k e other = (Refuses malformed_operands, rules.answers_nothing op (subst IsOther (sym e) other))

found-answer : (font : Font) (op : Operator) (behind : List ℕ) (st : State) (k : Kind) → kind op ≡ k → Found font (Answered op) behind st
found-answer font op behind st (Draws takes) e = found-draws font op behind st takes e
found-answer font op behind st (DeclaresStems takes) e = found-stems font op behind st takes e
found-answer font op behind st (Masks takes) e = found-mask font op behind st takes e
found-answer font op behind st (Works work) e = found-other font op behind st (Works work) e tt
found-answer font op behind st (Stores work) e = found-other font op behind st (Stores work) e tt
found-answer font op behind st (KindCalls routines) e = found-other font op behind st (KindCalls routines) e tt
found-answer font op behind st GoesBack e = found-other font op behind st GoesBack e tt
found-answer font op behind st EndsGlyph e = found-other font op behind st EndsGlyph e tt
found-answer font op behind st (IsRefused part) e = found-other font op behind st (IsRefused part) e tt

found-index : (font : Font) (behind : List ℕ) (st : State) → Found font VsIndex behind st
found-index font behind st = by_time st.is_blended refl
  where
    by_table : st.is_blended ≡ false → (beneath : List ℤ) (n : ℤ) → st.stack ≡ beneath ++ whole n ∷ [] → (o : Option (List ℕ)) →
        at font.tables n ≡ o → Found font VsIndex behind st
    by_table early beneath (pos n) e (Some scalars) there = (_, rules.chooses beneath n scalars early e there)
    by_table early beneath (negsuc n) e (Some scalars) there = absurd (cc)
    by_table early beneath n e None none = (_, rules.chooses_no_table beneath n early e none)

    by_top : st.is_blended ≡ false → WholeTop st.stack → Found font VsIndex behind st
    by_top early (inl other) = (_, rules.chooses_no_number early other)
    by_top early (inr there) = by_table early there.0 there.1 there.2 (at font.tables there.1) refl

    by_time : (b : Bool) → st.is_blended ≡ b → Found font VsIndex behind st
    by_time true late = (_, rules.chooses_late late)
    by_time false early = by_top early (whole-top st.stack)

found-values : (font : Font) (behind : List ℕ) (st : State) (scalars : List ℕ) (beneath nums deltas : List ℤ) → st.scalars ≡ Some scalars →
    st.stack ≡ beneath ++ (nums ++ (deltas ++ whole (pos (length nums)) ∷ [])) → length deltas ≡ length nums * length scalars → BlendOf
    scalars nums deltas → Found font Blend behind st
found-values font behind st scalars beneath nums deltas is e many (inl there) =
    (_, rules.blends scalars beneath nums deltas there.0 is e there.1)
found-values font behind st scalars beneath nums deltas is e many (inr past) =
    (_, rules.blends_past_range scalars beneath nums deltas is e many past)

found-many : (font : Font) (behind : List ℕ) (st : State) (scalars : List ℕ) (operands : List ℤ) (n : ℕ) → st.scalars ≡ Some scalars →
    st.stack ≡ operands ++ whole (pos n) ∷ [] →
    n * suc (length scalars) ≤ length operands → Found font Blend behind st
found-many font behind st scalars operands n is e enough =
    let size = n * suc (length scalars) in
    let beneath = take (length operands - size) operands in
    let top = drop (length operands - size) operands in
    let nums = take n top in
    let deltas = drop n top in
    let high : length top ≡ size = length-drop (length operands - size) operands ∙ omega arith in
    let first : length nums ≡ n = length-take-le n top (omega (arith, high)) in
    let rest : length deltas ≡ length top - n = length-drop n top in
    let many : length deltas ≡ length nums * length scalars = rw first (omega (arith, rest, high)) in
    let whole_list : operands ≡ beneath ++ (nums ++ deltas) =
    sym (take-append-drop (length operands - size) operands) ∙ ap (λ xs. beneath ++ xs) (sym (take-append-drop n top)) in
    let split : st.stack ≡ beneath ++ (nums ++ (deltas ++ whole (pos (length nums)) ∷ [])) =
    e ∙ ap (λ xs. xs ++ whole (pos n) ∷ []) whole_list ∙ sym (joined beneath nums deltas (whole (pos n)))
    ∙ ap (λ m. beneath ++ (nums ++ (deltas ++ whole (pos m) ∷ []))) (sym first) in
    found-values font behind st scalars beneath nums deltas is split many (blend-of scalars nums deltas many)

found-blend : (font : Font) (behind : List ℕ) (st : State) → Found font Blend behind st
found-blend font behind st = by_table st.scalars refl
  where
    by_size : (scalars : List ℕ) (operands : List ℤ) (n : ℕ) → st.scalars ≡ Some scalars → st.stack ≡ operands ++ whole (pos n) ∷ [] →
        (length operands < n * suc (length scalars)) ⊎ (n * suc (length scalars) ≤ length operands) → Found font Blend behind st
    by_size scalars operands n is e (inl few) = (_, rules.blends_too_few scalars operands n is e few)
    by_size scalars operands n is e (inr enough) = found-many font behind st scalars operands n is e enough

    by_sign : (scalars : List ℕ) (operands : List ℤ) (n : ℤ) → st.scalars ≡ Some scalars → st.stack ≡ operands ++ whole n ∷ [] →
        Found font Blend behind st
    by_sign scalars operands (pos n) is e = by_size scalars operands n is e (cases_lt (length operands) (n * suc (length scalars)))
    by_sign scalars operands (negsuc n) is e = (_, rules.blends_below_zero scalars operands n is e)

    by_top : (scalars : List ℕ) → st.scalars ≡ Some scalars → WholeTop st.stack → Found font Blend behind st
    by_top scalars is (inl other) = (_, rules.blends_no_number scalars is other)
    by_top scalars is (inr there) = by_sign scalars there.0 there.1 is there.2

    by_table : (o : Option (List ℕ)) → st.scalars ≡ o → Found font Blend behind st
    by_table None is = (_, rules.blends_with_nothing is)
    by_table (Some scalars) is = by_top scalars is (whole-top st.stack)

found-call : (font : Font) (command : Command) (behind : List ℕ) (st : State) (routines : List (List ℕ)) →
    CallsFrom font command routines → Found font command behind st
found-call font command behind st routines from = by_top (whole-top st.stack)
  where
    by_name : (beneath : List ℤ) (n : ℤ) → st.stack ≡ beneath ++ whole n ∷ [] → (o : Option (List ℕ)) → named routines n ≡ o →
        Found font command behind st
    by_name beneath n e (Some routine) there = (_, rules.calls command routines beneath n routine from e there)
    by_name beneath n e None none = (_, rules.calls_nothing command routines beneath n from e none)

    by_top : WholeTop st.stack → Found font command behind st
    by_top (inl other) = (_, rules.calls_no_number command routines from other)
    by_top (inr there) = by_name there.0 there.1 there.2 (named routines there.1) refl

found : (font : Font) (command : Command) (behind : List ℕ) (st : State) → Found font command behind st
found font (Answered op) behind st = found-answer font op behind st (kind op) refl
found font VsIndex behind st = found-index font behind st
found font Blend behind st = found-blend font behind st
found font CallSubr behind st = found-call font CallSubr behind st font.lists.local refl
found font CallGSubr behind st = found-call font CallGSubr behind st font.lists.global refl

pub law : OperatorsDoSo
law font command behind st move = (
  does-on font command behind st move,
  λ is. let one =
      found font command behind st in subst (Does font behind st command) (sym (does-on font command behind st one.0 one.1) ∙ is) one.1,
)
