-- The operations of a run have as many operands as their operators take.
use Rattle.std.proofs.Common.{◌≡◌, ℕ, zero, suc, ◌-◌, ◌^◌, ◌≤◌, nat_lt, Bool, true, false, ℤ, List, [], ◌∷◌, ◌++◌, length, Option, Some, None, arith, refl, sym, subst, ap, ◌∙◌, if◌then◌else◌, length-drop}
use Rattle.postscript_base.specs.Refusal.{Refusal, unexpected_eof, too_many_stems}
use Rattle.postscript_drawing.specs.Fitting.{AllFit, Fits}
use Rattle.postscript_type2.specs.declared.operation.Operator.{Operator}
use Rattle.postscript_type2.specs.Operation.Kinds.{Kind, Draws, DeclaresStems, Masks, Works, Stores, CallsFrom, GoesBack, EndsGlyph, IsRefused, kind, lengths, taken}
use Rattle.postscript_type2.specs.Operation.Lengths.{greatest}
use Rattle.postscript_type2.specs.Program.Effects.{last_of, mask_len}
use Rattle.postscript_type2.specs.Program.Runs.{Answer}
use Rattle.postscript_variable.specs.declared.command.Command.{Command}
use Rattle.postscript_variable.specs.Effects.{clearing, path_move, with_stems, stems_after, answer_move, index_move, blend_over, call_move, effect}
use Rattle.postscript_variable.specs.State.{Font, State, Effect, Clears, Refuses}
use Rattle.postscript_variable.specs.Meaning.{End, Means}
use Rattle.postscript_variable.specs.Meaning as rules
use Rattle.postscript_variable.proofs.MeaningLaws.{run-means}
use Rattle.postscript_variable_font.specs.Fitting.{RunsFit}

-- the greatest number that passes is itself the greatest up to it
greatest-fits : (test : ℕ → Bool) (n m : ℕ) → greatest test n ≡ Some m → (m ≤ n) × (greatest test m ≡ Some m)
greatest-fits test zero m is = by_test (test 0) refl is
  where
    by_test : (b : Bool) → test 0 ≡ b → (if b then Some 0 else None) ≡ Some m → (m ≤ 0) × (greatest test m ≡ Some m)
    by_test true passes e =
        let z : 0 ≡ m = cc in subst (λ k. (k ≤ 0) × (greatest test k ≡ Some k)) z (omega arith, ap (λ v. if v then Some 0 else None) passes)
    by_test false fails e = cc
greatest-fits test (suc n) m is = by_test (test (suc n)) refl (greatest-fits test n m) is
  where
    by_test : (b : Bool) → test (suc n) ≡ b → (greatest test n ≡ Some m → (m ≤ n) × (greatest test m ≡ Some m)) →
        (if b then Some (suc n) else greatest test n) ≡ Some m → (m ≤ suc n) × (greatest test m ≡ Some m)
    by_test true passes lower e =
        let z : suc n ≡ m = cc in
        subst (λ k. (k ≤ suc n) × (greatest test k ≡ Some k)) z (omega arith, ap (λ v. if v then Some (suc n) else greatest test n) passes)
    by_test false fails lower e = let below = lower e in (omega (arith, below.0), below.1)

-- the last operands of a stack, as many as are taken
fits-last : (op : Operator) (stack : List ℤ) (m : ℕ) → taken op (length stack) ≡ Some m → Fits op (last_of stack m)
fits-last op stack m is =
    let fits = greatest-fits (lengths (kind op)) (length stack) m is in
    let size : length (last_of stack m) ≡ m = length-drop (length stack - m) stack ∙ omega (arith, fits.0) in
    subst (λ n. taken op n ≡ Some n) (sym size) fits.1

-- what a move answers fits
abbrev MoveFits : Effect → Type 0
MoveFits (Clears op operands st mask) = Fits op operands
MoveFits move = Unit {0}

clearing-fits : (op : Operator) (st : State) (stems mask : ℕ) (o : Option ℕ) → taken op (length st.stack) ≡ o →
    MoveFits (clearing op st stems mask o)
clearing-fits op st stems mask (Some n) is = fits-last op st.stack n is
clearing-fits op st stems mask None is = tt

chosen-fits : (b : Bool) (e : Refusal) (move : Effect) → MoveFits move → MoveFits (if b then move else Refuses e)
chosen-fits b e move h = grind arith

chosen-not-fits : (b : Bool) (e : Refusal) (move : Effect) → MoveFits move → MoveFits (if b then Refuses e else move)
chosen-not-fits b e move h = grind arith

with-fits : (stems : ℕ) (move : Effect) → MoveFits move → MoveFits (with_stems stems move)
with-fits stems move h = chosen-fits (nat_lt stems (2 ^ 32)) too_many_stems move h

path-fits : (op : Operator) (st : State) → MoveFits (path_move op st)
path-fits op st = clearing-fits op st st.stems 0 (taken op (length st.stack)) refl

answer-fits : (k : Kind) (op : Operator) (behind : List ℕ) (st : State) → MoveFits (answer_move k op behind st)
answer-fits (DeclaresStems takes) op behind st =
    let stems = stems_after st in
    with-fits stems (clearing op st stems 0 (taken op (length st.stack))) (clearing-fits op st stems 0 (taken op (length st.stack)) refl)
answer-fits (Masks takes) op behind st =
    let stems = stems_after st in
    let move = clearing op st stems (mask_len stems) (taken op (length st.stack)) in
    let cut = nat_lt (length behind) (mask_len stems) in
    with-fits stems (if cut then Refuses unexpected_eof else move)
    (chosen-not-fits cut unexpected_eof move (clearing-fits op st stems (mask_len stems) (taken op (length st.stack)) refl))
answer-fits (Draws takes) op behind st = path-fits op st
answer-fits (Works work) op behind st = path-fits op st
answer-fits (Stores work) op behind st = path-fits op st
answer-fits (CallsFrom routines) op behind st = path-fits op st
answer-fits GoesBack op behind st = path-fits op st
answer-fits EndsGlyph op behind st = path-fits op st
answer-fits (IsRefused part) op behind st = path-fits op st

index-fits : (tables : List (List ℕ)) (st : State) → MoveFits (index_move tables st)
index-fits tables st = grind arith

blend-fits : (st : State) (scalars : Option (List ℕ)) → MoveFits (blend_over st scalars)
blend-fits st scalars = grind arith

call-fits : (st : State) (routines : List (List ℕ)) → MoveFits (call_move st routines)
call-fits st routines = grind arith

effect-fits : (font : Font) (command : Command) (behind : List ℕ) (st : State) → MoveFits (effect font command behind st)
effect-fits font command behind st = grind (arith, answer-fits, index-fits, blend-fits, call-fits)

fit-append : (xs ys : List Answer) → AllFit xs → AllFit ys → AllFit (xs ++ ys)
fit-append [] ys h k = k
fit-append (x ∷ xs) ys h k = (h.0, fit-append xs ys h.1 k)

fit : (font : Font) {d : ℕ} {rest : List ℕ} {st : State} {xs : List Answer} {end : End} → Means font d rest st xs end → AllFit xs
fit font (rules.used_up d st) = tt
fit font (rules.number d spelling behind x st xs end is room later) = fit font later
fit font (rules.no_room d spelling behind x st is full) = tt
fit font (rules.unread d rest st e none) = tt
fit font (rules.refused d spelling behind command st e moves) = tt
fit font (rules.keeps d spelling behind command st after xs end moves later) = fit font later
fit font (rules.clears d spelling mask behind command op st after operands xs end moves later) =
    (subst MoveFits moves.does (effect-fits font command (mask ++ behind) st), fit font later)
fit font (rules.calls_too_deep d spelling behind command st after routine moves deep) = tt
fit font (rules.calls d spelling behind command st after back routine inner xs end moves room means later) =
    fit-append inner xs (fit font means) (fit font later)
fit font (rules.calls_to_stop d spelling behind command st after routine inner e moves room means) = fit font means

pub runs-fit : RunsFit
runs-fit font index code = fit font (run-means font index code)
