-- What a rest means by the rules is what is computed.
use Rattle.std.proofs.Common.{◌≡◌, refl, ap, sym, subst, ◌∙◌, ℕ, zero, suc, ◌+◌, ◌-◌, ◌<◌, ◌≤◌, ℤ, Bool, true, false, cond, nat_lt, List, [], ◌∷◌, ◌++◌, take, drop, length, length-drop, arith}
use Rattle.std.proofs.Math.Seq.{drop-append_seam}
use Rattle.std.proofs.lemmas.Bool.{ltb-true, ltb-false, lt-ltb, le-ltb}
use Rattle.std.proofs.lemmas.List.{take-append-drop, length-take-le, append-nil}
use Rattle.postscript_base.specs.Refusal.{Refusal, overflow}
use Rattle.postscript_type2.specs.Program.Phrases.{IsNumber}
use Rattle.postscript_type2.specs.Program.Runs.{Answer}
use Rattle.postscript_variable.specs.declared.command.Command.{Command}
use Rattle.postscript_variable.specs.Computed.{Tells, MeaningIsComputed, RunIsMeant, EachHasARun, NoOtherRun}
use Rattle.postscript_variable.specs.Costs.{cost_beside}
use Rattle.postscript_variable.specs.Effects.{effect}
use Rattle.postscript_variable.specs.State.{Font, State, start, stack_limit, pushed, Effect, Keeps, Clears, Calls, Refuses}
use Rattle.postscript_variable.specs.Evaluation.{Run, at_end, with_step, with_answer, followed, after_call, mean, run_of}
use Rattle.postscript_variable.specs.Meaning as rules
use Rattle.postscript_variable.specs.Meaning.{answer, End, UsedUp, Stopped, Means, IsRunOf}
use Rattle.postscript_variable.specs.Private.Remaining.{still_number, still_moved}
use Rattle.postscript_variable.specs.Sayings.{said}
use Rattle.postscript_variable.specs.Tokens as spellings
use Rattle.postscript_variable.specs.Tokens.{Token, IsOperator, HasNoToken, token}
use Rattle.postscript_variable.proofs.Remains.{still-number, still-operator, still-unread}
use Rattle.postscript_variable.proofs.TokenLaws.{number-read, operator-read, nothing-read, Spells, token-spells}

-- what a rest means, by what is spelled at its front
pub mean-number : (font : Font) (left : ℕ) (spelling behind : List ℕ) (st : State) (x : ℤ) → IsNumber spelling x →
    mean font left (spelling ++ behind) st ≡ still_number font left behind [] st (length spelling) x
mean-number font left spelling behind st x is =
    let read = number-read spelling x is in
    ap (λ bytes. mean font left (bytes ++ behind) st) read.2
    ∙ still-number font left read.0 (read.1 ++ behind) [] st x (length read.1) (read.3 behind)
    ∙ ap (λ rest. still_number font left rest [] st (suc (length read.1)) x) (drop-append_seam read.1 behind)
    ∙ ap (λ bytes. still_number font left behind [] st (length bytes) x) (sym read.2)

pub mean-operator : (font : Font) (left : ℕ) (spelling behind : List ℕ) (st : State) (command : Command) (move : Effect) →
    IsOperator spelling command → effect font command behind st ≡ move →
    mean font left (spelling ++ behind) st ≡ still_moved font left behind [] st.stack (length spelling + cost_beside command st.stack) move
mean-operator font left spelling behind st command move is does =
    let read = operator-read spelling command is in
    ap (λ bytes. mean font left (bytes ++ behind) st) read.2
    ∙ still-operator font left read.0 (read.1 ++ behind) [] st command (length read.1) (read.3 behind)
    ∙ ap (λ rest. still_moved font left rest [] st.stack (suc (length read.1) + cost_beside command st.stack)
    (effect font command rest st)) (drop-append_seam read.1 behind)
    ∙ ap (λ bytes. still_moved font left behind [] st.stack (length bytes + cost_beside command st.stack) (effect font command behind st))
    (sym read.2)
    ∙ ap (still_moved font left behind [] st.stack (length spelling + cost_beside command st.stack)) does

pub mean-unread : (font : Font) (left : ℕ) (rest : List ℕ) (st : State) (e : Refusal) → HasNoToken rest e →
    mean font left rest st ≡ at_end (Stopped e)
mean-unread font left rest st e none =
    let read = nothing-read rest e none in
    ap (λ bytes. mean font left bytes st) read.2 ∙ still-unread font left read.0 read.1 [] st e read.3

-- a number, where the stack has room and where it has none
pub with-room : (font : Font) (left : ℕ) (behind : List ℕ) (st : State) (cost : ℕ) (x : ℤ) → length st.stack < stack_limit →
    still_number font left behind [] st cost x ≡ with_step cost (mean font left behind (pushed x st))
with-room font left behind st cost x room =
    ap (λ b. cond b (with_step cost (mean font left behind (pushed x st))) (at_end (Stopped overflow)))
    (lt-ltb (length st.stack) stack_limit room)

pub without-room : (font : Font) (left : ℕ) (behind : List ℕ) (st : State) (cost : ℕ) (x : ℤ) → stack_limit ≤ length st.stack →
    still_number font left behind [] st cost x ≡ at_end (Stopped overflow)
without-room font left behind st cost x full =
    ap (λ b. cond b (with_step cost (mean font left behind (pushed x st))) (at_end (Stopped overflow)))
    (le-ltb (length st.stack) stack_limit full)

-- a run that is the same tells the same
tells-same : {run same : Run} {xs : List Answer} {end : End} → run ≡ same → Tells same xs end → Tells run xs end
tells-same {run} {same} {xs} {end} is h = subst (λ r. Tells r xs end) (sym is) h

-- a call, and what follows it
tells-call : (run : Run) (go : State → Run) (xs ys : List Answer) (back : State) (end : End) → Tells run xs (UsedUp back) →
    Tells (go back) ys end →
    Tells (followed run (after_call go)) (xs ++ ys) end
tells-call run go xs ys back end h i =
    let goes : after_call go run.end ≡ go back = ap (after_call go) h.1 in (
      ap (λ zs. zs ++ (after_call go run.end).answers) h.0 ∙ ap (λ (r : Run). xs ++ r.answers) goes ∙ ap (λ zs. xs ++ zs) i.0,
      ap (λ (r : Run). r.end) goes ∙ i.1,
    )

tells-stop : (run : Run) (go : State → Run) (xs : List Answer) (e : Refusal) → Tells run xs (Stopped e) →
    Tells (followed run (after_call go)) xs (Stopped e)
tells-stop run go xs e h =
    let goes : after_call go run.end ≡ at_end (Stopped e) = ap (after_call go) h.1 in (
      ap (λ (r : Run). run.answers ++ r.answers) goes ∙ append-nil run.answers ∙ h.0,
      ap (λ (r : Run). r.end) goes,
    )

-- what follows by the rules is computed
pub sound : (font : Font) {d : ℕ} {rest : List ℕ} {st : State} {xs : List Answer} {end : End} → Means font d rest st xs end → (left : ℕ) →
    left + d ≡ 10 →
    Tells (mean font left rest st) xs end
sound font (rules.used_up d st) left h = (refl, refl)
sound font (rules.number d spelling behind x st xs end is room later) left h =
    tells-same (mean-number font left spelling behind st x is ∙ with-room font left behind st (length spelling) x room)
    (sound font later left h)
sound font (rules.no_room d spelling behind x st is full) left h =
    tells-same (mean-number font left spelling behind st x is ∙ without-room font left behind st (length spelling) x full) (refl, refl)
sound font (rules.unread d rest st e none) left h = tells-same (mean-unread font left rest st e none) (refl, refl)
sound font (rules.refused d spelling behind command st e moves) left h =
    tells-same (mean-operator font left spelling behind st command (Refuses e) moves.spelled moves.does) (refl, refl)
sound font (rules.keeps d spelling behind command st after xs end moves later) left h =
    tells-same (mean-operator font left spelling behind st command (Keeps after) moves.spelled moves.does) (sound font later left h)
sound font (rules.clears d spelling mask behind command op st after taken xs end moves later) left h =
    let then = sound font later left h in
    tells-same (mean-operator font left spelling (mask ++ behind) st command (Clears op taken after (length mask)) moves.spelled moves.does
    ∙ ap (λ rest. with_step (length spelling + cost_beside command st.stack + length mask)
    (with_answer (said op st.stack taken (take (length mask) (mask ++ behind))) (mean font left rest after)))
    (drop-append_seam mask behind))
    (ap (λ ys. answer op taken ∷ ys) then.0, then.1)
sound font (rules.calls_too_deep d spelling behind command st after routine moves deep) zero h =
    tells-same (mean-operator font zero spelling behind st command (Calls routine after) moves.spelled moves.does) (refl, refl)
sound font (rules.calls_too_deep d spelling behind command st after routine moves deep) (suc left) h = absurd (omega arith)
sound font (rules.calls d spelling behind command st after back routine inner xs end moves room means later) zero h = absurd (omega arith)
sound font (rules.calls d spelling behind command st after back routine inner xs end moves room means later) (suc left) h =
    tells-same (mean-operator font (suc left) spelling behind st command (Calls routine after) moves.spelled moves.does)
    (tells-call (mean font left routine after) (λ st'. mean font (suc left) behind st') inner xs back end
    (sound font means left (omega arith)) (sound font later (suc left) h))
sound font (rules.calls_to_stop d spelling behind command st after routine inner e moves room means) zero h = absurd (omega arith)
sound font (rules.calls_to_stop d spelling behind command st after routine inner e moves room means) (suc left) h =
    tells-same (mean-operator font (suc left) spelling behind st command (Calls routine after) moves.spelled moves.does)
    (tells-stop (mean font left routine after) (λ st'. mean font (suc left) behind st') inner e (sound font means left (omega arith)))

-- a run that a rest has by the rules
abbrev pub MeansRun : Font → (depth : ℕ) → (rest : List ℕ) → State → Run → Type 0
MeansRun font depth rest st run = Means font depth rest st run.answers run.end

-- the bytes of a mask follow its operator
abbrev MaskFits : (behind : List ℕ) → Effect → Type 0
MaskFits behind (Clears op taken after mask) = mask ≤ length behind
MaskFits behind move = Unit {0}

effect-fits : (font : Font) (command : Command) (behind : List ℕ) (st : State) → MaskFits behind (effect font command behind st)
effect-fits font command behind st = grind arith

-- what a routine that is called means by the rules, where so many calls may still nest
abbrev CalledMean : (font : Font) (left d : ℕ) → Type 0
CalledMean font zero d = Unit {0}
CalledMean font (suc left) d = (routine : List ℕ) (st : State) → MeansRun font (suc d) routine st (mean font left routine st)

-- a call, by the end of its routine
called-means : (font : Font) (left d : ℕ) (spelling behind : List ℕ) (command : Command) (st after : State) (routine : List ℕ) →
    IsOperator spelling command →
    effect font command behind st ≡ Calls routine
    after → d < 10 → ((st' : State) → MeansRun font d behind st' (mean font left behind st')) →
    (run : Run) (xs : List Answer) (end : End) → run.answers ≡ xs → run.end ≡ end → Means font (suc d) routine after xs end →
    MeansRun font d (spelling ++ behind) st (followed run (after_call (λ st'. mean font left behind st')))
called-means font left d spelling behind command st after routine is does room ih run xs (UsedUp back) told ends means =
    let go : State → Run = λ st'. mean font left behind st' in
    let tells = tells-call run go xs (go back).answers back (go back).end (told, ends) (refl, refl) in
    let by_rule : Means font d (spelling ++ behind) st (xs ++ (go back).answers) (go back).end =
    rules.calls d spelling behind command st after back routine xs (go back).answers (go back).end
    (record { spelled = is; does = does }) room means (ih back) in
    subst (λ ys. Means font d (spelling ++ behind) st ys (followed run (after_call go)).end) (sym tells.0)
    (subst (λ e. Means font d (spelling ++ behind) st (xs ++ (go back).answers) e) (sym tells.1) by_rule)
called-means font left d spelling behind command st after routine is does room ih run xs (Stopped e) told ends means =
    let go : State → Run = λ st'. mean font left behind st' in
    let tells = tells-stop run go xs e (told, ends) in
    let by_rule : Means font d (spelling ++ behind) st xs (Stopped e) =
    rules.calls_to_stop d spelling behind command st after routine xs e (record { spelled = is; does = does }) room means in
    subst (λ ys. Means font d (spelling ++ behind) st ys (followed run (after_call go)).end) (sym tells.0)
    (subst (λ end. Means font d (spelling ++ behind) st xs end) (sym tells.1) by_rule)

-- an operator, by its move
moved-means : (font : Font) (left d : ℕ) → left + d ≡ 10 → CalledMean font left d → (spelling behind : List ℕ) (command : Command)
    (st : State) (cost : ℕ) → IsOperator spelling command →
    ((rest : List ℕ) (st' : State) → length rest ≤ length behind → MeansRun font d rest st' (mean font left rest st')) →
    (m : Effect) → effect font command behind st ≡ m → MeansRun font d (spelling ++ behind) st
    (still_moved font left behind [] st.stack cost m)
moved-means font left d h subs spelling behind command st cost is ih (Keeps after) does =
    rules.keeps d spelling behind command st after _ _ (record { spelled = is; does = does }) (ih behind after (omega arith))
moved-means font left d h subs spelling behind command st cost is ih (Clears op taken after mask) does =
    let q = take mask behind in
    let rest = drop mask behind in
    let whole : q ++ rest ≡ behind = take-append-drop mask behind in
    let room : mask ≤ length behind = subst (MaskFits behind) does (effect-fits font command behind st) in
    let long : length q ≡ mask = length-take-le mask behind room in
    let fewer : length rest ≡ length behind - mask = length-drop mask behind in
    let does' : effect font command (q ++ rest) st ≡ Clears op taken after (length q) =
    ap (λ bytes. effect font command bytes st) whole ∙ does ∙ ap (Clears op taken after) (sym long) in
    subst (λ bytes. MeansRun font d (spelling ++ bytes) st
    (with_step (cost + mask) (with_answer (said op st.stack taken (take mask behind)) (mean font left rest after)))) whole
    (rules.clears d spelling q rest command op st after taken _ _ (record { spelled = is; does = does' })
    (ih rest after (omega (arith, fewer))))
moved-means font zero d h subs spelling behind command st cost is ih (Calls routine after) does =
    rules.calls_too_deep d spelling behind command st after routine (record { spelled = is; does = does }) (omega (arith, h))
moved-means font (suc left) d h subs spelling behind command st cost is ih (Calls routine after) does =
    called-means font (suc left) d spelling behind command st after routine is does (omega (arith, h))
    (λ st'. ih behind st' (omega arith)) (mean font left routine after) _ _ refl refl (subs routine after)
moved-means font left d h subs spelling behind command st cost is ih (Refuses e) does =
    rules.refused d spelling behind command st e (record { spelled = is; does = does })

-- a number, by whether the stack has room
number-means : (font : Font) (left d : ℕ) (spelling behind : List ℕ) (st : State) (cost : ℕ) (x : ℤ) → IsNumber spelling x →
    ((st' : State) → MeansRun font d behind st' (mean font left behind st')) →
    (b : Bool) → nat_lt (length st.stack) stack_limit ≡ b → MeansRun font d (spelling ++ behind) st
    (cond b (with_step cost (mean font left behind (pushed x st))) (at_end (Stopped overflow)))
number-means font left d spelling behind st cost x is ih true room =
    rules.number d spelling behind x st _ _ is (ltb-true (length st.stack) stack_limit room) (ih (pushed x st))
number-means font left d spelling behind st cost x is ih false full =
    rules.no_room d spelling behind x st is (ltb-false (length st.stack) stack_limit full)

rest-means : (font : Font) (n left d : ℕ) → left + d ≡ 10 → CalledMean font left d → (rest : List ℕ) (st : State) → length rest ≤ n →
    MeansRun font d rest st (mean font left rest st)
rest-means font n left d h subs [] st few = rules.used_up d st
rest-means font zero left d h subs (b ∷ r) st few = absurd (omega arith)
rest-means font (suc n) left d h subs (b ∷ r) st few =
    by_token (λ rest st' fewer. rest-means font n left d h subs rest st' (omega (arith, fewer, few))) (token b r) refl (token-spells b r)
  where
    by_token : ((rest : List ℕ) (st' : State) → length rest ≤ length r → MeansRun font d rest st' (mean font left rest st')) →
        (t : Token) → token b r ≡ t → Spells b r t → MeansRun font d (b ∷ r) st (mean font left (b ∷ r) st)
    by_token ih (spellings.NoToken e) is none =
        subst (MeansRun font d (b ∷ r) st) (sym (still-unread font left b r [] st e is)) (rules.unread d (b ∷ r) st e none)
    by_token ih (spellings.Number x more) is spelled =
        let behind = drop more r in
        let whole : (b ∷ take more r) ++ behind ≡ b ∷ r = ap (λ bytes. b ∷ bytes) (take-append-drop more r) in
        let all : length behind ≡ length r - more = length-drop more r in
        subst (MeansRun font d (b ∷ r) st) (sym (still-number font left b r [] st x more is))
        (subst (λ bytes. MeansRun font d bytes st (still_number font left behind [] st (suc more) x)) whole
        (number-means font left d (b ∷ take more r) behind st (suc more) x spelled.0 (λ st'. ih behind st' (omega (arith, all)))
        (nat_lt (length st.stack) stack_limit) refl))
    by_token ih (spellings.Operator command more) is spelled =
        let behind = drop more r in
        let whole : (b ∷ take more r) ++ behind ≡ b ∷ r = ap (λ bytes. b ∷ bytes) (take-append-drop more r) in
        let all : length behind ≡ length r - more = length-drop more r in
        subst (MeansRun font d (b ∷ r) st) (sym (still-operator font left b r [] st command more is))
        (subst (λ bytes. MeansRun font d bytes st
        (still_moved font left behind [] st.stack (suc more + cost_beside command st.stack) (effect font command behind st))) whole
        (moved-means font left d h subs (b ∷ take more r) behind command st (suc more + cost_beside command st.stack) spelled.0
        (λ rest st' fewer. ih rest st' (omega (arith, all, fewer))) (effect font command behind st) refl))

called-mean : (font : Font) (left d : ℕ) → left + d ≡ 10 → CalledMean font left d
called-mean font zero d h = tt
called-mean font (suc left) d h =
    λ routine st. rest-means font (length routine) left (suc d) (omega (arith, h))
    (called-mean font left (suc d) (omega (arith, h))) routine st (omega arith)

-- what is computed follows by the rules
pub complete : (font : Font) (left d : ℕ) → left + d ≡ 10 → (rest : List ℕ) (st : State) → MeansRun font d rest st (mean font left rest st)
complete font left d h rest st = rest-means font (length rest) left d h (called-mean font left d h) rest st (omega arith)

means-told : (font : Font) (d : ℕ) (rest : List ℕ) (st : State) (run : Run) (xs : List Answer) (end : End) → MeansRun font d rest st run →
    Tells run xs end → Means font d rest st xs end
means-told font d rest st run xs end means tells =
    subst (λ e. Means font d rest st xs e) tells.1 (subst (λ ys. Means font d rest st ys run.end) tells.0 means)

pub law : MeaningIsComputed
law font d few rest st xs end =
    let all : 10 - d + d ≡ 10 = omega arith in (
      λ means. sound font means (10 - d) all,
      λ tells. means-told font d rest st (mean font (10 - d) rest st) xs end (complete font (10 - d) d all rest st) tells,
    )

pub runs : RunIsMeant
runs font index code xs end = law font 0 (omega arith) code (start font.tables index) xs end

-- the run of a code by the rules
pub run-means : (font : Font) (index : ℕ) (code : List ℕ) →
    IsRunOf font index code (run_of font index code).answers (run_of font index code).end
run-means font index code = complete font 10 0 (omega arith) code (start font.tables index)

pub has : EachHasARun
has font index code = ((run_of font index code).answers, (run_of font index code).end, run-means font index code)

pub no-other : NoOtherRun
no-other font index code xs ys end other h i =
    let a = sound font h 10 (omega arith) in
    let b = sound font i 10 (omega arith) in
    (sym a.0 ∙ b.0, sym a.1 ∙ b.1)
