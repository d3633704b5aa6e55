-- The effect of each operator.
use Rattle.std.specs.Option.{ok_or}
use Rattle.std.specs.Prelude.{ℕ, ◌+◌, ◌-◌, ◌/◌, ◌%◌, ◌^◌, ℤ, pos, ◌+ℤ◌, nat_lt, List, [], drop, length, Option, Some, None, Result, Ok, Err, if◌then◌else◌}
use Rattle.postscript_base.specs.Refusal.{Refusal, OfPart, unexpected_eof, malformed_operands, missing_subroutine, too_many_stems}
use Rattle.postscript_type2.specs.declared.operation.Operator.{Operator}
use Rattle.postscript_type2.specs.Operation.Kinds.{Kind, Draws, DeclaresStems, Masks, Works, Stores, CallsFrom, GoesBack, EndsGlyph, IsRefused, kind, taken}
use Rattle.postscript_type2.specs.Program.Routines.{Lists}
use Rattle.postscript_type2.specs.Program.StackWork.{Work, ◌>>=◌, given, whole_operand, at}
use Rattle.postscript_type2.specs.Program.States.{State, settled, stems_after}

-- The effect of an operator. Keeps: it leaves a stack and stored numbers. Clears: it clears the stack. It has the operands that it takes,
-- the operands of the stems that a mask implies, the number of stems, the width, and the number of mask bytes. Calls: it calls a routine.
-- Returns: it returns. Ends: it ends the run, with the operands that it takes and the width. Refuses: it fails.
pub data Effect : Type 0 where
  Keeps : (stack stored : List ℤ) → Effect
  Clears : (taken pairs : List ℤ) (stems : ℕ) (width : Option ℤ) (mask : ℕ) → Effect
  Calls : (routine : List ℕ) (stack : List ℤ) → Effect
  Returns : Effect
  Ends : (taken : List ℤ) (width : Option ℤ) → Effect
  Refuses : Refusal → Effect

-- the last n items
abbrev pub last_of : {A : Type 0} → List A → ℕ → List A
last_of xs n = drop (length xs - n) xs

-- the stack is cleared, and the operation has its last n operands
abbrev pub clearing : State → (stems : ℕ) → (taken : Option ℕ) → Effect
clearing st stems (Some n) = Clears (last_of st.stack n) [] stems (settled st.width st.stack n) 0
clearing st stems None = Refuses malformed_operands

-- an effect with this number of stems, if it fits in 32 bits
abbrev pub with_stems : ℕ → Effect → Effect
with_stems stems move = if nat_lt stems (2 ^ 32) then move else Refuses too_many_stems

-- the number of bytes of a mask, with one bit for each stem
abbrev pub mask_len : (stems : ℕ) → ℕ
mask_len stems = (stems + 7) / 8

-- The greatest even number of operands on the stack. They are stems that no operator declared, and for the width they count as taken by the
-- mask.
abbrev pub implied : List ℤ → ℕ
implied stack = length stack - length stack % 2

-- a mask has the operands that it takes and the operands of the stems that it implies, and the width is beneath these
abbrev pub mask_clearing : State → (stems : ℕ) → (taken : Option ℕ) → Effect
mask_clearing st stems (Some n) =
    Clears (last_of st.stack n) (last_of st.stack (implied st.stack)) stems (settled st.width st.stack (implied st.stack)) (mask_len stems)
mask_clearing st stems None = Refuses malformed_operands

-- an operator that only works on the stack
abbrev pub work_move : (stored : List ℤ) → Result (Unit {0} × List ℤ) Refusal → Effect
work_move stored (Ok done) = Keeps done.1 stored
work_move stored (Err e) = Refuses e

-- an operator that also returns the stored numbers after it
abbrev pub store_move : Result (List ℤ × List ℤ) Refusal → Effect
store_move (Ok done) = Keeps done.1 done.0
store_move (Err e) = Refuses e

-- the bias that is added to subroutine numbers ("Subroutine Operators")
abbrev pub bias : (count : ℕ) → ℤ
bias count = if nat_lt count 1240 then pos 107 else if nat_lt count 33900 then pos 1131 else pos 32768

-- the subroutine with a number
abbrev pub named : List (List ℕ) → ℤ → Option (List ℕ)
named routines number = at routines (number +ℤ bias (length routines))

-- the subroutine with the number on top of the stack
abbrev pub subroutine : List (List ℕ) → Work (List ℕ)
subroutine routines = do
  number ← whole_operand
  given (ok_or (named routines number) missing_subroutine)

abbrev pub call_move : Result (List ℕ × List ℤ) Refusal → Effect
call_move (Ok done) = Calls done.0 done.1
call_move (Err e) = Refuses e

-- the number of operands that `endchar` takes: four, or none if there are fewer ("Operator for Finishing a Path")
abbrev pub taken_at_end : (count : ℕ) → ℕ
taken_at_end count = if nat_lt count 4 then 0 else 4

-- a `seac` glyph has these four (Appendix C), and the width is beneath them
abbrev pub end_move : State → Effect
end_move st = Ends (last_of st.stack (taken_at_end (length st.stack))) (settled st.width st.stack (taken_at_end (length st.stack)))

-- an operator that draws ("Path Construction Operators")
abbrev pub path_move : Operator → State → Effect
path_move op st = clearing st st.stems (taken op (length st.stack))

-- an operator that declares stems
abbrev pub stem_move : Operator → State → Effect
stem_move op st = with_stems (stems_after st) (clearing st (stems_after st) (taken op (length st.stack)))

-- a mask, if these bytes follow its operator
abbrev pub mask_move : Operator → (behind : List ℕ) → State → Effect
mask_move op behind st = with_stems (stems_after st)
    (if nat_lt (length behind) (mask_len (stems_after st)) then Refuses unexpected_eof
    else mask_clearing st (stems_after st) (taken op (length st.stack)))

-- the effect of an operator of a kind, if these bytes follow it
abbrev pub effect_of : Kind → Lists → Operator → (behind : List ℕ) → State → Effect
effect_of (Draws takes) lists op behind st = path_move op st
effect_of (DeclaresStems takes) lists op behind st = stem_move op st
effect_of (Masks takes) lists op behind st = mask_move op behind st
effect_of (Works work) lists op behind st = work_move st.stored (work st.stack)
effect_of (Stores work) lists op behind st = store_move (work st.stored st.stack)
effect_of (CallsFrom routines) lists op behind st = call_move (subroutine (routines lists) st.stack)
effect_of GoesBack lists op behind st = Returns
effect_of EndsGlyph lists op behind st = end_move st
effect_of (IsRefused part) lists op behind st = Refuses (OfPart part)

-- the effect of an operator
abbrev pub effect : Lists → Operator → (behind : List ℕ) → State → Effect
effect lists op behind st = effect_of (kind op) lists op behind st
