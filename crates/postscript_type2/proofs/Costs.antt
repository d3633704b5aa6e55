-- Each phrase of a run has a byte, and the one at which it is refused is the last.
use Rattle.std.proofs.Common.{◌≡◌, subst, sym, ℕ, zero, suc, ◌+◌, ◌<◌, List, [], ◌∷◌, take, drop, length, Some, None, add-one, arith}
use Rattle.postscript_type2.specs.declared.operation.Operator.{Operator}
use Rattle.postscript_type2.specs.Program.Effects.{Effect, Keeps, Clears, Calls, Returns, Ends, Refuses}
use Rattle.postscript_type2.specs.Program.States.{State, pushed}
use Rattle.postscript_type2.specs.Program.Evaluation.{with_phrase, Stride, On, Into, Back, Over, Faults, moved, stride_by, stride}
use Rattle.postscript_type2.specs.Program.Limit.{cost_of}
use Rattle.postscript_type2.specs.Program.Parsing.{Parsed, Complete, NoPhrase, phrase}
use Rattle.postscript_type2.specs.Program.Routines.{Lists}
use Rattle.postscript_type2.specs.Program.Runs.{Phrase, Run}
use Rattle.postscript_type2.specs.declared.program.machine.Machine.{Machine}
use Rattle.postscript_type2.specs.Private.Machines.{still_of}
use Rattle.postscript_type2.specs.Private.Remaining.{still, next_still}
use Rattle.postscript_type2.specs.Private.Working.{state_of}
use Rattle.postscript_type2.specs.Program.Charstrings.{lists_of}
use Rattle.postscript_type2.proofs.Remains.{still_step, still_end}

-- the first phrase, if there is one, has a byte
abbrev pub HasByte : List Phrase → Type 0
HasByte [] = Unit {0}
HasByte (said ∷ more) = 0 < length said.bytes

abbrev StrideHasByte : Stride → Type 0
StrideHasByte (On said answer st more) = 0 < length said.bytes
StrideHasByte (Into said routine st more) = 0 < length said.bytes
StrideHasByte (Back said st) = 0 < length said.bytes
StrideHasByte (Over said taken width more) = 0 < length said.bytes
StrideHasByte (Faults e) = Unit {0}

some-taken : (k b : ℕ) (r : List ℕ) → 0 < length (take (k + 1) (b ∷ r))
some-taken k b r = rw add-one (omega arith)

moved-has : (op : Operator) (more b : ℕ) (r : List ℕ) (st : State) (move : Effect) → StrideHasByte (moved op more (b ∷ r) st move)
moved-has op more b r st (Keeps stack stored) = some-taken more b r
moved-has op more b r st (Clears taken pairs stems width mask) = some-taken (more + mask) b r
moved-has op more b r st (Calls routine stack) = some-taken more b r
moved-has op more b r st Returns = some-taken more b r
moved-has op more b r st (Ends taken width) = some-taken more b r
moved-has op more b r st (Refuses e) = tt

stride-by-has : (lists : Lists) (b : ℕ) (r : List ℕ) (st : State) (p : Parsed) → StrideHasByte (stride_by lists (b ∷ r) st p)
stride-by-has lists b r st (NoPhrase e) = tt
stride-by-has lists b r st (Complete numbers op more) = moved-has op more b r (pushed numbers st) _

next-has : (lists : Lists) (left : ℕ) (behind : ℕ → List ℕ) (cs : List (List ℕ)) (s : Stride) → StrideHasByte s →
    HasByte (next_still lists left behind cs s).trace
next-has lists left behind cs (On said None st more) h = h
next-has lists left behind cs (On said (Some answer) st more) h = h
next-has lists zero behind cs (Into said routine st more) h = h
next-has lists (suc left) behind cs (Into said routine st more) h = h
next-has lists left behind [] (Back said st) h = h
next-has lists left behind (c ∷ cs) (Back said st) h = h
next-has lists left behind cs (Over said taken width more) h = h
next-has lists left behind cs (Faults e) h = tt

-- the phrase at the front of what is still run has a byte
pub has-byte : (lists : Lists) (left : ℕ) (bytes : List ℕ) (cs : List (List ℕ)) (st : State) → HasByte (still lists left bytes cs st).trace
has-byte lists left [] cs st = subst (λ (run : Run). HasByte run.trace) (sym (still_end lists left cs st)) tt
has-byte lists left (b ∷ r) cs st =
    subst (λ (run : Run). HasByte run.trace) (sym (still_step lists left b r cs st))
    (next-has lists left (λ more. drop more r) cs (stride lists (b ∷ r) st) (stride-by-has lists b r st (phrase (b ∷ r))))

pub has : (machine : Machine) → HasByte (still_of machine).trace
has machine = has-byte (lists_of machine.lists) machine.left machine.routine machine.callers (state_of machine.state)

-- so it costs something
pub costs-some : {before rest : Run} {said : Phrase} → HasByte before.trace → before ≡ with_phrase said rest → 0 < cost_of said
costs-some {before} {rest} {said} has is =
    let some : 0 < length said.bytes = subst (λ (run : Run). HasByte run.trace) is has in omega (arith, some)
