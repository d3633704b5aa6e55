-- What one phrase comes to, by the move of its operator.
use Rattle.std.proofs.lemmas.List.{drop-drop, drop_all, length-take, length-take-le}
use Rattle.std.proofs.lemmas.Bool.{eqb-false}
use Rattle.std.proofs.Common.{◌≢◌, ◌==◌, ◌≡◌, ap, sym, subst, ◌∙◌, ◌⊎◌, inl, inr, ℕ, zero, suc, ◌+◌, ◌-◌, ◌<◌, ◌≤◌, Bool, true, false, List, [], ◌∷◌, take, drop, length, ℤ, Option, if◌then◌else◌, length-drop, arith}
use Rattle.std.proofs.lemmas.Grind.{common_steps}
use Rattle.postscript_type2.specs.declared.refused.Refused.{Refused}
use Rattle.postscript_type2.specs.declared.refused.Refused.TheVariants.{Memory}
use Rattle.postscript_base.specs.Refusal.{Refusal, return_without_caller, trailing_data, too_deep}
use Rattle.postscript_type2.specs.Refused.{reason}
use Rattle.postscript_type2.specs.declared.operation.Operator.{Operator}
use Rattle.postscript_type2.specs.Program.Effects.{Effect, Keeps, Clears, Calls, Returns, Ends, Refuses, effect, last_of}
use Rattle.postscript_type2.specs.Program.States.{State, stacked, holding, cleared}
use Rattle.postscript_type2.specs.Program.Evaluation as answers
use Rattle.postscript_type2.specs.Program.Evaluation.{with_phrase, with_answer, at_end, said, moved, stride}
use Rattle.postscript_type2.specs.Program.Limit.{IsLast}
use Rattle.postscript_type2.specs.Program.Meaning.{answer, hinting}
use Rattle.postscript_type2.specs.Program.Parsing.{Complete, NoPhrase, phrase, fronted}
use Rattle.postscript_type2.specs.Program.Routines.{Lists}
use Rattle.postscript_type2.specs.Program.Runs.{Answer, Phrase, UsedUp, Finished, Fault, Run}
use Rattle.postscript_type2.specs.Private.Remaining.{still, next_still, are_used_up}
use Rattle.postscript_type2.specs.Private.Working.{after_move}
use Rattle.postscript_type2.proofs.Remains.{still_end}
use Rattle.postscript_type2.proofs.Strides.{still_step-at, stride-is}

-- A phrase was read off the front of these bytes into this stack and operator, and this rest is behind it.
pub record IsRead (bytes rest : List ℕ) (st : State) (ys : List ℤ) (op : Operator) (more : ℕ) : Type 0 where
  pub some : 0 < length bytes
  pub spelled : fronted st.stack 0 (phrase bytes) ≡ Complete ys op more
  pub behind : rest ≡ drop (more + 1) bytes

-- what a slice's is_empty answers of its length
pub some-of : (n : ℕ) → false ≡ (n == 0) → 0 < n
some-of n h = let e : n ≢ 0 = λ z. eqb-false n 0 (sym h) z in omega arith

pub is-read : {bytes rest left : List ℕ} {st : State} {ys : List ℤ} {op : Operator} {more : ℕ} → left ≡ bytes → false ≡ (length left == 0) →
    fronted st.stack 0 (phrase bytes) ≡ Complete ys op more → rest ≡ drop (more + 1) bytes → IsRead bytes rest st ys op more
is-read {bytes} {rest} {left} same h spelled behind =
    record { some = subst (λ xs. 0 < length xs) same (some-of (length left) h); spelled = spelled; behind = behind }

-- a front that is what a rest lacks
pub front-of : (bytes rest front : List ℕ) (k : ℕ) → rest ≡ drop k bytes → front ≡ take (length bytes - length rest) bytes →
    front ≡ take k bytes
front-of bytes rest front k behind is = grind (arith, common_steps, length-drop)

-- what is still answered, by the operator's move
stepped : (lists : Lists) (left : ℕ) (cs : List (List ℕ)) (bytes rest : List ℕ) (st : State) (ys : List ℤ) (op : Operator) (more : ℕ)
    (move : Effect) →
    IsRead bytes rest st ys op more → effect lists op rest (stacked ys st) ≡ move →
    still lists left bytes cs st ≡ next_still lists left (λ k. drop (k + 1) bytes) cs (moved op more bytes (stacked ys st) move)
stepped lists left cs bytes rest st ys op more move read does =
    let acts : effect lists op (drop (more + 1) bytes) (stacked ys st) ≡ move = ap (λ after. effect lists op after (stacked ys st))
    (sym read.behind) ∙ does in
    let whole : more - 0 ≡ more = omega arith in
    let strides : stride lists bytes st ≡ moved op more bytes (stacked ys st) (effect lists op (drop (more + 1) bytes) (stacked ys st)) =
    subst (λ n. stride lists bytes st ≡ moved op n bytes (stacked ys st) (effect lists op (drop (n + 1) bytes) (stacked ys st))) whole
    (stride-is lists bytes 0 st ys op more read.spelled) in
    still_step-at lists left bytes cs st read.some
    ∙ ap (next_still lists left (λ k. drop (k + 1) bytes) cs) (strides ∙ ap (moved op more bytes (stacked ys st)) acts)

-- a phrase with this front
abbrev with : Operator → List ℕ → Phrase
with op front = record { operator = op; bytes = front }

-- a stack and stored numbers are left
pub kept : (lists : Lists) (left : ℕ) (cs : List (List ℕ)) {bytes rest front : List ℕ} {st now : State} {ys : List ℤ} {op : Operator}
    {more : ℕ} →
    IsRead bytes rest st ys op more → effect lists op rest (stacked ys st) ≡ Keeps now.stack now.stored → now ≡ after_move
    (effect lists op rest (stacked ys st)) (stacked ys st) →
    front ≡ take (length bytes - length rest)
    bytes → (still lists left bytes cs st ≡ with_phrase (with op front) (still lists left rest cs now)) × (now.width ≡ st.width)
kept lists left cs {bytes} {rest} {front} {st} {now} {ys} {op} {more} read does after is_front =
    let is : now ≡ holding now.stack now.stored st = after ∙ ap (λ move. after_move move (stacked ys st)) does in (
      stepped lists left cs bytes rest st ys op more (Keeps now.stack now.stored) read does
          ∙ ap (λ after. with_phrase (said op more bytes) (still lists left after cs (holding now.stack now.stored st))) (sym read.behind)
          ∙ ap (λ s. with_phrase (said op more bytes) (still lists left rest cs s)) (sym is)
          ∙ ap (λ front'. with_phrase (with op front') (still lists left rest cs now))
          (sym (front-of bytes rest front (more + 1) read.behind is_front)),
      ap (λ (s : State). s.width) is,
    )

-- the mask stands last in the bytes of a phrase
mask-last : (bytes front : List ℕ) (more mask : ℕ) → front ≡ take (more + mask + 1) bytes → mask ≤ length (drop (more + 1) bytes) →
    drop (more + 1) front ≡ last_of front mask
mask-last bytes front more zero is room =
    let few = length-take (more + 0 + 1) bytes in
    let long = ap length is in
    drop_all (more + 1) front (omega (arith, few, long)) ∙ sym (drop_all (length front - 0) front (omega arith))
mask-last bytes front more (suc mask) is room =
    let behind = length-drop (more + 1) bytes in
    let long : length front ≡ more + suc mask + 1 = ap length is
    ∙ length-take-le (more + suc mask + 1) bytes (omega (arith, behind, room)) in
    ap (λ n. drop n front) (omega (arith, long))

-- an operation is answered, and the bytes of its mask are passed
pub answered : (lists : Lists) (left : ℕ) (cs : List (List ℕ)) {bytes rest behind front : List ℕ} {st : State} {ys : List ℤ}
    {op : Operator} {more mask : ℕ} {taken pairs : List ℤ} {now : State} {width : Option ℤ} →
    IsRead bytes rest st ys op more → effect lists op rest
    (stacked ys st) ≡ Clears taken pairs now.stems width mask → now ≡ cleared now.stems width st → behind ≡ drop mask rest →
    mask ≤ length rest → front ≡ take (length bytes - length behind) bytes →
    still lists left bytes cs st ≡ with_phrase (with op front)
    (with_answer (answer op taken (hinting pairs (last_of front mask)) width) (still lists left behind cs now))
answered lists left cs {bytes} {rest} {behind} {front} {st} {ys} {op} {more} {mask} {taken} {pairs} {now} {width} read does is past room
    is_front =
    let step = stepped lists left cs bytes rest st ys op more (Clears taken pairs now.stems width mask) read does in
    let all : List ℕ = take (more + mask + 1) bytes in
    let answer' : Answer = answers.answered op taken pairs more all width in
    let there : behind ≡ drop (more + mask + 1) bytes =
    past ∙ ap (drop mask) read.behind ∙ drop-drop mask (more + 1) bytes ∙ ap (λ n. drop n bytes) (omega arith) in
    let fronts : front ≡ all = front-of bytes behind front (more + mask + 1) there is_front in
    step ∙ ap (λ after. with_phrase (said op (more + mask) bytes)
    (with_answer answer' (still lists left after cs (cleared now.stems width st)))) (sym there)
    ∙ ap (λ s. with_phrase (said op (more + mask) bytes) (with_answer answer' (still lists left behind cs s))) (sym is)
    ∙ ap (λ front'. with_phrase (with op front')
    (with_answer (answers.answered op taken pairs more front' width) (still lists left behind cs now))) (sym fronts)
    ∙ ap (λ q. with_phrase (with op front) (with_answer (answer op taken (hinting pairs q) width) (still lists left behind cs now)))
    (mask-last bytes front more mask fronts (subst (λ xs. mask ≤ length xs) read.behind room))

-- a subroutine is entered
pub entered : (lists : Lists) {left left' : ℕ} {cs cs' : List (List ℕ)} {bytes rest front code routine : List ℕ} {st now : State}
    {ys : List ℤ} {op : Operator} {more : ℕ} →
    IsRead bytes rest st ys op more → effect lists op rest (stacked ys st) ≡ Calls code now.stack → now ≡ after_move
    (effect lists op rest (stacked ys st)) (stacked ys st) →
    left ≡ suc left' → cs' ≡ rest ∷ cs → routine ≡ code → front ≡ take (length bytes - length rest) bytes →
    (still lists left bytes cs st ≡ with_phrase (with op front) (still lists left' routine cs' now)) × (now.width ≡ st.width)
entered lists {left} {left'} {cs} {cs'} {bytes} {rest} {front} {code} {routine} {st} {now} {ys} {op} {more} read does after one_less
    pushed entry is_front =
    let is : now ≡ stacked now.stack st = after ∙ ap (λ move. after_move move (stacked ys st)) does in (
      rw (one_less, pushed, entry, front-of bytes rest front (more + 1) read.behind is_front)
          (stepped lists (suc left') cs bytes rest st ys op more (Calls code now.stack) read does
          ∙ ap (λ after. with_phrase (said op more bytes) (still lists left' code (after ∷ cs) (stacked now.stack st))) (sym read.behind)
          ∙ ap (λ s. with_phrase (said op more bytes) (still lists left' code (rest ∷ cs) s)) (sym is)),
      ap (λ (s : State). s.width) is,
    )

-- an eleventh call
pub too-deep-call : (lists : Lists) (cs : List (List ℕ)) {bytes rest routine : List ℕ} {st now : State} {ys : List ℤ} {op : Operator}
    {more : ℕ} →
    IsRead bytes rest st ys op more → effect lists op rest (stacked ys st) ≡ Calls routine now.stack → now ≡ after_move
    (effect lists op rest (stacked ys st)) (stacked ys st) →
    (((still lists 0 bytes cs st).answers ≡ []) × ((still lists 0 bytes cs st).end ≡ Fault too_deep)) × (now.width ≡ st.width)
too-deep-call lists cs {bytes} {rest} {routine} {st} {now} {ys} {op} {more} read does after =
    let step = stepped lists 0 cs bytes rest st ys op more (Calls routine now.stack) read does in (
      (ap (λ run. run.answers) step, ap (λ run. run.end) step),
      ap (λ (s : State). s.width) (after ∙ ap (λ move. after_move move (stacked ys st)) does),
    )

-- a subroutine returns to its caller, and the outermost code to none
pub returned : (lists : Lists) {left left' : ℕ} {cs cs' : List (List ℕ)} {bytes rest front caller : List ℕ} {st now : State} {ys : List ℤ}
    {op : Operator} {more : ℕ} →
    IsRead bytes rest st ys op more → effect lists op rest (stacked ys st) ≡ Returns → now ≡ after_move
    (effect lists op rest (stacked ys st)) (stacked ys st) →
    left' ≡ suc left → cs ≡ caller ∷ cs' → front ≡ take (length bytes - length rest) bytes →
    (still lists left bytes cs st ≡ with_phrase (with op front) (still lists left' caller cs' now)) × (now.width ≡ st.width)
returned lists {left} {left'} {cs} {cs'} {bytes} {rest} {front} {caller} {st} {now} {ys} {op} {more} read does after one_more popped
    is_front =
    let is : now ≡ stacked ys st = after ∙ ap (λ move. after_move move (stacked ys st)) does in (
      rw (one_more, popped, front-of bytes rest front (more + 1) read.behind is_front)
          (stepped lists left (caller ∷ cs') bytes rest st ys op more Returns read does
          ∙ ap (λ s. with_phrase (said op more bytes) (still lists (suc left) caller cs' s)) (sym is)),
      ap (λ (s : State). s.width) is,
    )

pub no-caller : (lists : Lists) (left : ℕ) (bytes rest : List ℕ) (st : State) (ys : List ℤ) (op : Operator) (more : ℕ) →
    IsRead bytes rest st ys op more → effect lists op rest (stacked ys st) ≡ Returns →
    ((still lists left bytes [] st).answers ≡ []) × ((still lists left bytes [] st).end ≡ Fault return_without_caller)
no-caller lists left bytes rest st ys op more read does =
    let step = stepped lists left [] bytes rest st ys op more Returns read does in
    (ap (λ run. run.answers) step, ap (λ run. run.end) step)

-- EndChar, where the subroutines of the chain are used up and where they are not
ended : (lists : Lists) (left : ℕ) (cs : List (List ℕ)) (bytes rest : List ℕ) (st : State) (ys : List ℤ) (op : Operator) (more : ℕ)
    (taken : List ℤ) (width : Option ℤ) (used_up : Bool) →
    IsRead bytes rest st ys op more → effect lists op rest (stacked ys st) ≡ Ends taken width → used_up ≡ are_used_up rest cs →
    still lists left bytes cs st ≡ with_phrase (said op more bytes) (at_end (if used_up then Finished taken width else Fault trailing_data))
ended lists left cs bytes rest st ys op more taken width used_up read does is =
    stepped lists left cs bytes rest st ys op more (Ends taken width) read does
    ∙ ap (λ after. with_phrase (said op more bytes) (at_end (if are_used_up after cs then Finished taken width else Fault trailing_data)))
    (sym read.behind)
    ∙ ap (λ b. with_phrase (said op more bytes) (at_end (if b then Finished taken width else Fault trailing_data))) (sym is)

pub finished : (lists : Lists) (left : ℕ) (cs : List (List ℕ)) {bytes rest front : List ℕ} {st : State} {ys : List ℤ} {op : Operator}
    {more : ℕ} {taken : List ℤ} {width : Option ℤ} →
    IsRead bytes rest st ys op more → effect lists op rest (stacked ys st) ≡ Ends taken width → true ≡ are_used_up rest cs → front ≡ take
    (length bytes - length rest) bytes →
    still lists left bytes cs st ≡ with_phrase (with op front) (at_end (Finished taken width))
finished lists left cs {bytes} {rest} {front} {st} {ys} {op} {more} {taken} {width} read does is is_front =
    ended lists left cs bytes rest st ys op more taken width true read does is
    ∙ ap (λ front'. with_phrase (with op front') (at_end (Finished taken width)))
    (sym (front-of bytes rest front (more + 1) read.behind is_front))

pub trailing : (lists : Lists) (left : ℕ) (cs : List (List ℕ)) {bytes rest : List ℕ} {st now : State} {ys : List ℤ} {op : Operator}
    {more : ℕ} {taken : List ℤ} {width : Option ℤ} →
    IsRead bytes rest st ys op more → effect lists op rest (stacked ys st) ≡ Ends taken width → now ≡ after_move
    (effect lists op rest (stacked ys st)) (stacked ys st) → false ≡ are_used_up rest cs →
    (((still lists left bytes cs st).answers ≡ []) × ((still lists left bytes cs st).end ≡ Fault trailing_data)) × (now.width ≡ st.width)
trailing lists left cs {bytes} {rest} {st} {now} {ys} {op} {more} {taken} {width} read does after is =
    let step = ended lists left cs bytes rest st ys op more taken width false read does is in (
      (ap (λ run. run.answers) step, ap (λ run. run.end) step),
      ap (λ (s : State). s.width) (after ∙ ap (λ move. after_move move (stacked ys st)) does),
    )

-- a refusal of the phrase
unread : (lists : Lists) (left : ℕ) (cs : List (List ℕ)) (bytes : List ℕ) (st : State) (e : Refusal) → 0 < length bytes →
    phrase bytes ≡ NoPhrase e →
    ((still lists left bytes cs st).answers ≡ []) × ((still lists left bytes cs st).end ≡ Fault e)
unread lists left cs bytes st e some bad = grind (arith, still_step-at)

-- the same, where running out of memory may come in place of a refusal
pub refused-or-memory : (lists : Lists) (left : ℕ) (cs : List (List ℕ)) {bytes rest : List ℕ} {st : State} {ys : List ℤ} {op : Operator}
    {more : ℕ} {e : Refused} →
    IsRead bytes rest st ys op more → (e ≡ Memory) ⊎ (effect lists op rest (stacked ys st) ≡ Refuses (reason e)) →
    (e ≡ Memory) ⊎ (((still lists left bytes cs st).answers ≡ []) × ((still lists left bytes cs st).end ≡ Fault (reason e)))
refused-or-memory lists left cs read (inl memory) = inl memory
refused-or-memory lists left cs {bytes} {rest} {st} {ys} {op} {more} {e} read (inr does) =
    let step = stepped lists left cs bytes rest st ys op more (Refuses (reason e)) read does in
    inr (ap (λ run. run.answers) step, ap (λ run. run.end) step)

pub unread-or-memory : (lists : Lists) (left : ℕ) (cs : List (List ℕ)) (bytes : List ℕ) (st : State) (e : Refused) → 0 < length bytes →
    (e ≡ Memory) ⊎ (phrase bytes ≡ NoPhrase
    (reason e)) → (e ≡ Memory) ⊎ (((still lists left bytes cs st).answers ≡ []) × ((still lists left bytes cs st).end ≡ Fault (reason e)))
unread-or-memory lists left cs bytes st e some h1 = grind (arith, unread)

-- a routine that is used up ends the run
pub used-up : (lists : Lists) (left : ℕ) (cs : List (List ℕ)) (bytes : List ℕ) (st : State) → length bytes ≡ 0 →
    still lists left bytes cs st ≡ at_end UsedUp
used-up lists left cs [] st is = still_end lists left cs st
used-up lists left cs (b ∷ r) st is = absurd (omega arith)

-- where a run is refused at a phrase, no phrase is behind that one

none-left : IsLast []
none-left = omega arith

one-left : (said : Phrase) → IsLast (said ∷ [])
one-left said = omega arith

last-by : {run run' : Run} → run ≡ run' → IsLast run'.trace → IsLast run.trace
last-by {run} {run'} same h = subst (λ (r : Run). IsLast r.trace) (sym same) h

pub unread-is-last : (lists : Lists) (left : ℕ) (cs : List (List ℕ)) (bytes : List ℕ) (st : State) (e : Refused) → 0 < length bytes →
    (e ≡ Memory) ⊎ (phrase bytes ≡ NoPhrase (reason e)) → (e ≡ Memory) ⊎ IsLast (still lists left bytes cs st).trace
unread-is-last lists left cs bytes st e some (inl memory) = inl memory
unread-is-last lists left cs bytes st e some (inr bad) =
    let step : still lists left bytes cs st ≡ at_end (Fault (reason e)) = grind (arith, still_step-at) in inr (last-by step none-left)

pub refused-is-last : (lists : Lists) (left : ℕ) (cs : List (List ℕ)) {bytes rest : List ℕ} {st : State} {ys : List ℤ} {op : Operator}
    {more : ℕ} {e : Refused} →
    IsRead bytes rest st ys op more → (e ≡ Memory) ⊎ (effect lists op rest (stacked ys st) ≡ Refuses (reason e)) → (e ≡ Memory) ⊎ IsLast
    (still lists left bytes cs st).trace
refused-is-last lists left cs read (inl memory) = inl memory
refused-is-last lists left cs {bytes} {rest} {st} {ys} {op} {more} {e} read (inr does) =
    inr (last-by (stepped lists left cs bytes rest st ys op more (Refuses (reason e)) read does) none-left)

pub too-deep-is-last : (lists : Lists) (cs : List (List ℕ)) {bytes rest routine : List ℕ} {st : State} {ys left : List ℤ} {op : Operator}
    {more : ℕ} →
    IsRead bytes rest st ys op more → effect lists op rest (stacked ys st) ≡ Calls routine left → IsLast (still lists 0 bytes cs st).trace
too-deep-is-last lists cs {bytes} {rest} {routine} {st} {ys} {left} {op} {more} read does =
    last-by (stepped lists 0 cs bytes rest st ys op more (Calls routine left) read does) (one-left (said op more bytes))

pub trailing-is-last : (lists : Lists) (left : ℕ) (cs : List (List ℕ)) {bytes rest : List ℕ} {st : State} {ys : List ℤ} {op : Operator}
    {more : ℕ} {taken : List ℤ} {width : Option ℤ} →
    IsRead bytes rest st ys op more → effect lists op rest (stacked ys st) ≡ Ends taken width → false ≡ are_used_up rest cs → IsLast
    (still lists left bytes cs st).trace
trailing-is-last lists left cs {bytes} {rest} {st} {ys} {op} {more} {taken} {width} read does is =
    last-by (ended lists left cs bytes rest st ys op more taken width false read does is) (one-left (said op more bytes))
