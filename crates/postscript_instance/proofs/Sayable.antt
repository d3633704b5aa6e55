-- What is said along a run can be said again as Type 2: each operator has as many operands as it takes, and each mask as many bytes as
-- its stems ask for.
use Rattle.std.proofs.Common.{◌≡◌, refl, ap, sym, subst, ◌∙◌, ℕ, ◌+◌, ◌-◌, ◌*◌, ◌%◌, ◌^◌, ◌<◌, ◌≤◌, ℤ, Bool, IsTrue, List, [], ◌∷◌, ◌++◌, ◌⊎◌, inl, inr, length, length-append, length-drop, arith}
use Rattle.std.proofs.lemmas.Bool.Decides.{nat_tests}
use Rattle.std.proofs.lemmas.Bool.{cases_lt}
use Rattle.postscript_type2.specs.declared.operation.Operator.{Operator}
use Rattle.postscript_type2.specs.Operation.Kinds.{Kind, Draws, DeclaresStems, Masks, kind}
use Rattle.postscript_type2.specs.Operation.Lengths.{exactly, groups}
use Rattle.postscript_type2.specs.Program.Effects.{mask_len, last_of, implied}
use Rattle.postscript_type2.specs.Program.OperatorRules.{TakesMost}
use Rattle.postscript_type2.specs.Program.Runs.{Answer}
use Rattle.postscript_variable.specs.declared.command.Command.{Command}
use Rattle.postscript_variable.specs.Effects.{effect}
use Rattle.postscript_variable.specs.State.{Font, State, Effect, Keeps, Clears, Calls, Refuses}
use Rattle.postscript_variable.specs.Meaning as rules
use Rattle.postscript_variable.specs.Meaning.{End, UsedUp, Stopped, Means}
use Rattle.postscript_variable.specs.OperatorRules as does
use Rattle.postscript_variable.specs.OperatorRules.{Does, StemsAfter, in_pairs}
use Rattle.postscript_variable.specs.Sayings.{Phrase, said, implied_by}
use Rattle.postscript_variable.specs.Told.{told}
use Rattle.postscript_variable.proofs.OperatorLaws as operators

-- so many stems before and after what an operator of a kind says
abbrev pub SayableAs : Kind → (stems : ℕ) → Phrase → (after : ℕ) → Type 0
SayableAs (Draws takes) stems x after = (x.stems ≡ []) × (x.mask ≡ []) × IsTrue (takes (length x.operands)) × (after ≡ stems)
SayableAs (DeclaresStems takes) stems x after =
    (x.stems ≡ []) × (x.mask ≡ []) × IsTrue
    (takes (length x.operands)) × (after < 2 ^ 32) × ((n : ℕ) × (length x.operands ≡ n * 2) × (after ≡ stems + n))
SayableAs (Masks takes) stems x after =
    (x.operands ≡ []) × (length x.mask ≡ mask_len after) × (after < 2 ^ 32) × ((n : ℕ) × (length x.stems ≡ n * 2) × (after ≡ stems + n))
SayableAs kind stems x after = ⊥

abbrev pub IsSayable : (stems : ℕ) → Phrase → (after : ℕ) → Type 0
IsSayable stems x after = SayableAs (kind x.operator) stems x after

pub data AreSayable : (stems : ℕ) → List Phrase → (after : ℕ) → Type 0 where
  none : (stems : ℕ) → AreSayable stems [] stems
  more : (stems next after : ℕ) (x : Phrase) (xs : List Phrase) → IsSayable stems x next → AreSayable next xs after →
      AreSayable stems (x ∷ xs) after

joined : {stems next after : ℕ} {xs ys : List Phrase} → AreSayable stems xs next → AreSayable next ys after →
    AreSayable stems (xs ++ ys) after
joined (none stems) h = h
joined (more stems next after x xs is later) h = more stems next _ x _ is (joined later h)

-- operators that declare stems take them in twos, and masks take nothing
pub stems-take : (op : Operator) (takes : ℕ → Bool) → kind op ≡ DeclaresStems takes → takes ≡ groups 2
stems-take op takes k = grind arith

pub mask-kind : (op : Operator) (takes : ℕ → Bool) → kind op ≡ Masks takes → kind op ≡ Masks (exactly 0)
mask-kind op takes k = grind arith

-- what a move says
abbrev Good : State → Effect → Type 0
Good st (Keeps after) = after.stems ≡ st.stems
Good st (Calls routine after) = after.stems ≡ st.stems
Good st (Clears op taken after mask) =
    (bytes : List ℕ) → length bytes ≡ mask → IsSayable st.stems (said op st.stack taken bytes) after.stems
Good st (Refuses e) = Unit {0}

no-bytes : (bytes : List ℕ) → length bytes ≡ 0 → bytes ≡ []
no-bytes [] h = refl
no-bytes (b ∷ bytes) h = absurd (omega (arith, h))

draws-good : (op : Operator) (takes : ℕ → Bool) (stems : ℕ) (stack taken : List ℤ) (bytes : List ℕ) → kind op ≡ Draws takes →
    IsTrue (takes (length taken)) → length bytes ≡ 0 →
    IsSayable stems (said op stack taken bytes) stems
draws-good op takes stems stack taken bytes k allowed empty =
    subst (λ (k' : Kind). SayableAs k' stems (said op stack taken bytes) stems) (sym k)
    (ap (λ k'. implied_by k' stack) k, no-bytes bytes empty, allowed, refl)

-- as many as there are pairs
paired : (takes : ℕ → Bool) (stack beneath taken : List ℤ) (n odd : ℕ) → takes ≡ groups 2 → TakesMost takes stack beneath taken →
    odd < 2 → length stack ≡ n * 2 + odd → length taken ≡ n * 2
paired takes stack beneath taken n odd twos most low long = by (cases_lt (length taken) (n * 2))
  where
    even : (m : ℕ) → IsTrue (groups 2 m) → m % 2 ≡ 0
    even m h = grind (arith, nat_tests)

    twice : (m k : ℕ) → k < m * 2 → IsTrue (groups 2 (m * 2))
    twice m k h = grind (arith, nat_tests)

    by : (length taken < n * 2) ⊎ (n * 2 ≤ length taken) → length taken ≡ n * 2
    by (inl fewer) =
        absurd (most.longest (n * 2) fewer (omega (arith, long))
        (subst (λ (t : ℕ → Bool). IsTrue (t (n * 2))) (sym twos) (twice n (length taken) fewer)))
    by (inr many) =
        let all : length stack ≡ length beneath + length taken = ap length most.parts ∙ length-append beneath taken in
        let rest : length taken % 2 ≡ 0 = even (length taken) (subst (λ (t : ℕ → Bool). IsTrue (t (length taken))) twos most.allowed) in
        omega (arith, all, rest, long, low, many)

declares-good : (op : Operator) (takes : ℕ → Bool) (st : State) (beneath taken : List ℤ) (after : ℕ) (bytes : List ℕ) →
    kind op ≡ DeclaresStems takes → StemsAfter st after → after < 2 ^ 32 →
    TakesMost takes st.stack beneath taken → length bytes ≡ 0 → IsSayable st.stems (said op st.stack taken bytes) after
declares-good op takes st beneath taken after bytes k (in_pairs n odd low long) few most empty =
    subst (λ (k' : Kind). SayableAs k' st.stems (said op st.stack taken bytes) (st.stems + n)) (sym k) (
      ap (λ k'. implied_by k' st.stack) k,
      no-bytes bytes empty,
      most.allowed,
      few,
      (n, paired takes st.stack beneath taken n odd (stems-take op takes k) most low long, refl),
    )

implied-pairs : (stack : List ℤ) (n odd : ℕ) → odd < 2 → length stack ≡ n * 2 + odd → length (last_of stack (implied stack)) ≡ n * 2
implied-pairs stack n odd low long = length-drop (length stack - implied stack) stack ∙ omega (arith, long, low)

masks-good : (op : Operator) (takes : ℕ → Bool) (st : State) (after : ℕ) (bytes : List ℕ) → kind op ≡ Masks takes → StemsAfter st after →
    after < 2 ^ 32 → length bytes ≡ mask_len after →
    IsSayable st.stems (said op st.stack [] bytes) after
masks-good op takes st after bytes k (in_pairs n odd low long) few full =
    subst (λ (k' : Kind). SayableAs k' st.stems (said op st.stack [] bytes) (st.stems + n)) (sym k) (
      refl,
      full,
      few,
      (n, ap (λ k'. length (implied_by k' st.stack)) k ∙ implied-pairs st.stack n odd low long, refl),
    )

good : {font : Font} {behind : List ℕ} {st : State} {command : Command} {move : Effect} → Does font behind st command move → Good st move
good (does.draws op takes beneath taken k most) = λ bytes empty. draws-good op takes _ _ taken bytes k most.allowed empty
good (does.draws_none op takes k nowhere) = tt
good (does.declares op takes beneath taken stems k counts few most) =
    λ bytes empty. declares-good op takes _ beneath taken stems bytes k counts few most empty
good (does.declares_none op takes stems k counts few nowhere) = tt
good (does.declares_too_many op takes stems k counts many) = tt
good (does.masks op takes stems k counts few there) = λ bytes full. masks-good op takes _ stems bytes k counts few full
good (does.masks_cut op takes stems k counts few short) = tt
good (does.masks_too_many op takes stems k counts many) = tt
good (does.answers_nothing op other) = tt
good (does.chooses beneath n scalars early e there) = refl
good (does.chooses_late late) = tt
good (does.chooses_no_number early h) = tt
good (does.chooses_no_table beneath n early e nowhere) = tt
good (does.blends scalars beneath nums deltas vals is e h) = refl
good (does.blends_past_range scalars beneath nums deltas is e many h) = tt
good (does.blends_too_few scalars operands n is e few) = tt
good (does.blends_below_zero scalars operands n is e) = tt
good (does.blends_no_number scalars is h) = tt
good (does.blends_with_nothing is) = tt
good (does.calls command routines beneath n routine from e there) = refl
good (does.calls_no_number command routines from h) = tt
good (does.calls_nothing command routines beneath n from e nowhere) = tt

made-good : (font : Font) (command : Command) (behind : List ℕ) (st : State) (move : Effect) → effect font command behind st ≡ move →
    Good st move
made-good font command behind st move is = good ((operators.law font command behind st move).1 is)

-- the stems at an end, and some where a refusal ends the run
abbrev SaysTo : (stems : ℕ) → List Phrase → End → Type 0
SaysTo stems xs (UsedUp last) = AreSayable stems xs last.stems
SaysTo stems xs (Stopped e) = (after : ℕ) × AreSayable stems xs after

before : {stems next : ℕ} (xs ys : List Phrase) (end : End) → AreSayable stems xs next → SaysTo next ys end → SaysTo stems (xs ++ ys) end
before xs ys (UsedUp last) h later = joined h later
before xs ys (Stopped e) h later = (later.0, joined h later.1)

pub sayable : {font : Font} {d : ℕ} {rest : List ℕ} {st : State} {xs : List Answer} {end : End} (run : Means font d rest st xs end) →
    SaysTo st.stems (told run) end
sayable (rules.used_up d st) = none st.stems
sayable (rules.number d spelling behind x st xs end is room later) = sayable later
sayable (rules.no_room d spelling behind x st is full) = (st.stems, none st.stems)
sayable (rules.unread d rest st e nowhere) = (st.stems, none st.stems)
sayable (rules.refused d spelling behind command st e moves) = (st.stems, none st.stems)
sayable {font} (rules.keeps d spelling behind command st after xs end moves later) =
    subst (λ stems. SaysTo stems (told later) end) (made-good font command behind st (Keeps after) moves.does) (sayable later)
sayable {font} (rules.clears d spelling mask behind command op st after taken xs end moves later) =
    let is = made-good font command (mask ++ behind) st (Clears op taken after (length mask)) moves.does mask refl in
    before _ (told later) end (more st.stems after.stems after.stems (said op st.stack taken mask) [] is (none after.stems)) (sayable later)
sayable (rules.calls_too_deep d spelling behind command st after routine moves deep) = (st.stems, none st.stems)
sayable {font} (rules.calls d spelling behind command st after back routine inner xs end moves room within later) =
    before (told within) (told later) end
    (subst (λ stems. AreSayable stems (told within) back.stems) (made-good font command behind st (Calls routine after) moves.does)
    (sayable within)) (sayable later)
sayable {font} (rules.calls_to_stop d spelling behind command st after routine inner e moves room within) =
    subst (λ stems. SaysTo stems (told within) (Stopped e)) (made-good font command behind st (Calls routine after) moves.does)
    (sayable within)
