-- Runs end in no other refusal than those of the list.
use Rattle.std.proofs.Common.{◌≡◌, refl, ℕ, zero, suc, ◌-◌, ◌*◌, nat_lt, ℤ, pos, negsuc, ◌+ℤ◌, Bool, true, false, List, [], ◌∷◌, take, drop, length, Option, Some, None, Result, Ok, Err, if◌then◌else◌, arith}
use Rattle.postscript_base.specs.Error.{IsOneOf}
use Rattle.postscript_base.specs.Refusal.{Refusal, expected_more_operands}
use Rattle.postscript_base.specs.RefusalOf.{number_of}
use Rattle.postscript_type2.specs.declared.operation.Operator.{Operator}
use Rattle.postscript_type2.specs.Number.{spelled}
use Rattle.postscript_type2.specs.Operation.Kinds.{Kind}
use Rattle.postscript_type2.specs.Program.Effects.{last_of}
use Rattle.postscript_type2.specs.Program.FixedPoint.{fit}
use Rattle.postscript_type2.specs.Program.Parsing.{is_number}
use Rattle.postscript_type2.specs.Program.StackWork.{whole_operand}
use Rattle.postscript_type2.proofs.EndingLaws.{spelled-cut}
use Rattle.postscript_variable.specs.declared.command.Command.{Command}
use Rattle.postscript_variable.specs.declared.machine.Machine.{Machine}
use Rattle.postscript_variable.specs.Blending.{sum_of, value, before_all, values}
use Rattle.postscript_variable.specs.Effects.{answer_move, index_move, blended, blend_top, blend_many, blend_by, blend_over, call_move, effect}
use Rattle.postscript_variable.specs.State.{Font, State, start, Effect, Refuses}
use Rattle.postscript_variable.specs.Endings.{run_refusals, IsRunsEnd, RunsEndSo}
use Rattle.postscript_variable.specs.Evaluation.{Run, after_call, Stride, Halts, moved, stride_by, stride, Callee, paced, routine, callee, mean}
use Rattle.postscript_variable.specs.Meaning.{End}
use Rattle.postscript_variable.specs.Private.Machines.{still_of}
use Rattle.postscript_variable.specs.Private.Remaining.{through}
use Rattle.postscript_variable.specs.Tokens.{Token, NoToken, numbered, with_command, escaped, commanded, token}

abbrev Listed : Refusal → Type 0
Listed e = IsOneOf run_refusals (number_of e)

-- numbers and operators
abbrev TokenListed : Token → Type 0
TokenListed (NoToken e) = Listed e
TokenListed t = Unit {0}

operator-listed : (more : ℕ) (o : Option Command) → TokenListed (with_command more o)
operator-listed more o = grind arith

escaped-listed : (r : List ℕ) → TokenListed (escaped r)
escaped-listed r = grind arith

commanded-listed : (first : ℕ) (r : List ℕ) → TokenListed (commanded first r)
commanded-listed first r = grind (arith, escaped-listed, operator-listed)

number-listed : (first : ℕ) (r : List ℕ) → is_number first ≡ true → TokenListed (numbered (spelled first r 0))
number-listed first r is = grind (arith, spelled-cut)

token-listed : (first : ℕ) (r : List ℕ) → TokenListed (token first r)
token-listed first r = by_first (is_number first) refl
  where
    by_first : (b : Bool) → is_number first ≡ b → TokenListed (if b then numbered (spelled first r 0) else commanded first r)
    by_first true is = number-listed first r is
    by_first false is = commanded-listed first r

-- operators
abbrev ResultListed : {A : Type 0} → Result A Refusal → Type 0
ResultListed (Ok x) = Unit {0}
ResultListed (Err e) = Listed e

abbrev MoveListed : Effect → Type 0
MoveListed (Refuses e) = Listed e
MoveListed move = Unit {0}

fit-listed : (bits : ℤ) → ResultListed (fit bits)
fit-listed bits = grind arith

before-listed : (x : Result ℤ Refusal) (more : Result (List ℤ) Refusal) → ResultListed x → ResultListed more →
    ResultListed (before_all x more)
before-listed x more h i = grind arith

values-listed : (defaults deltas : List ℤ) (scalars : List ℕ) → ResultListed (values defaults deltas scalars)
values-listed [] deltas scalars = tt
values-listed (default ∷ defaults) deltas scalars =
    before-listed (value default (take (length scalars) deltas) scalars) (values defaults (drop (length scalars) deltas) scalars)
    (fit-listed (default +ℤ sum_of (take (length scalars) deltas) scalars)) (values-listed defaults (drop (length scalars) deltas) scalars)

blended-listed : (st : State) (beneath : List ℤ) (vals : Result (List ℤ) Refusal) → ResultListed vals → MoveListed (blended st beneath vals)
blended-listed st beneath vals h = grind arith

chosen-listed : (b : Bool) (e : Refusal) (m : Effect) → Listed e → MoveListed m → MoveListed (if b then Refuses e else m)
chosen-listed b e m h i = grind arith

more-listed : Listed expected_more_operands
more-listed = grind arith

top-listed : (st : State) (scalars : List ℕ) (n : ℕ) (stack : List ℤ) → MoveListed (blend_top st scalars n stack)
top-listed st scalars n stack =
    let top = last_of stack (n * suc (length scalars)) in
    chosen-listed (nat_lt (length stack) (n * suc (length scalars))) expected_more_operands
    (blended st (take (length stack - n * suc (length scalars)) stack) (values (take n top) (drop n top) scalars))
    more-listed (blended-listed st (take (length stack - n * suc (length scalars)) stack) (values (take n top) (drop n top) scalars)
    (values-listed (take n top) (drop n top) scalars))

many-listed : (st : State) (scalars : List ℕ) (n : ℤ) (stack : List ℤ) → MoveListed (blend_many st scalars n stack)
many-listed st scalars (pos n) stack = top-listed st scalars n stack
many-listed st scalars (negsuc n) stack = grind arith

whole-listed : (stack : List ℤ) → ResultListed (whole_operand stack)
whole-listed stack = grind arith

by-listed : (st : State) (scalars : List ℕ) (r : Result (ℤ × List ℤ) Refusal) → ResultListed r → MoveListed (blend_by st scalars r)
by-listed st scalars r h = grind (arith, many-listed)

over-listed : (st : State) (scalars : Option (List ℕ)) → MoveListed (blend_over st scalars)
over-listed st scalars = grind (arith, by-listed, whole-listed)

index-listed : (tables : List (List ℕ)) (st : State) → MoveListed (index_move tables st)
index-listed tables st = grind (arith, whole-listed)

call-listed : (st : State) (routines : List (List ℕ)) → MoveListed (call_move st routines)
call-listed st routines = grind (arith, whole-listed)

answer-listed : (k : Kind) (op : Operator) (behind : List ℕ) (st : State) → MoveListed (answer_move k op behind st)
answer-listed k op behind st = grind arith

effect-listed : (font : Font) (command : Command) (behind : List ℕ) (st : State) → MoveListed (effect font command behind st)
effect-listed font command behind st = grind (arith, answer-listed, index-listed, over-listed, call-listed)

-- strides
abbrev StrideListed : Stride → Type 0
StrideListed (Halts e) = Listed e
StrideListed s = Unit {0}

moved-listed : (stack : List ℤ) (behind : List ℕ) (more cost : ℕ) (m : Effect) → MoveListed m →
    StrideListed (moved stack behind more cost m)
moved-listed stack behind more cost m h = grind arith

stride-listed : (font : Font) (r : List ℕ) (st : State) (t : Token) → TokenListed t → StrideListed (stride_by font r st t)
stride-listed font r st t h = grind (arith, moved-listed, effect-listed)

-- runs
after-ends : (go : State → Run) → ((st : State) → IsRunsEnd (go st).end) → (end : End) → IsRunsEnd end → IsRunsEnd (after_call go end).end
after-ends go h end is = grind arith

abbrev CalleeEnds : Callee → Type 0
CalleeEnds None = Unit {0}
CalleeEnds (Some means) = (routine : List ℕ) (st : State) → IsRunsEnd (means routine st).end

paced-ends : (callee : Callee) → CalleeEnds callee → (go : ℕ → State → Run) → ((more : ℕ) (st : State) → IsRunsEnd (go more st).end) →
    (s : Stride) → StrideListed s → IsRunsEnd (paced callee go s).end
paced-ends callee called go h s l = grind (arith, after-ends)

routine-ends : (font : Font) (callee : Callee) → CalleeEnds callee → (k : ℕ) (r : List ℕ) (st : State) →
    IsRunsEnd (routine font callee k r st).end
routine-ends font callee called zero [] st = tt
routine-ends font callee called (suc k) [] st = tt
routine-ends font callee called (suc k) (b ∷ r) st = routine-ends font callee called k r st
routine-ends font callee called zero (b ∷ r) st = paced-ends callee called _ (λ more st'. routine-ends font callee called more r st')
    (stride font b r st) (stride-listed font r st (token b r) (token-listed b r))

callee-ends : (font : Font) (left : ℕ) → CalleeEnds (callee font left)
callee-ends font zero = tt
callee-ends font (suc left) = λ routine st. routine-ends font (callee font left) (callee-ends font left) 0 routine st

mean-ends : (font : Font) (left : ℕ) (rest : List ℕ) (st : State) → IsRunsEnd (mean font left rest st).end
mean-ends font left rest st = routine-ends font (callee font left) (callee-ends font left) 0 rest st

through-ends : (font : Font) (left : ℕ) (cs : List (List ℕ)) (run : Run) → IsRunsEnd run.end → IsRunsEnd (through font left cs run).end
through-ends font left [] run h = h
through-ends font left (c ∷ cs) run h =
    through-ends font (suc left) cs _ (after-ends (λ st. mean font (suc left) c st) (λ st. mean-ends font (suc left) c st) run.end h)

pub law : RunsEndSo
law font index code = mean-ends font 10 code (start font.tables index)

-- what a machine still answers
pub machine-ends : (machine : Machine) → IsRunsEnd (still_of machine).end
machine-ends machine = grind (arith, through-ends, mean-ends)
