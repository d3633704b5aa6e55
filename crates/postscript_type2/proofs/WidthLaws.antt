-- The width is settled once.
use Rattle.std.proofs.lemmas.List.Elements.{All-append, All-nil, All-cons, All-head, All-tail}
use Rattle.std.proofs.Common.{◌≡◌, refl, ap, sym, subst, ◌∙◌, ◌⊎◌, inl, inr, ℕ, suc, ◌<◌, ℤ, List, [], ◌∷◌, ◌++◌, length, Option, Some, None, All, arith}
use Rattle.postscript_type2.specs.declared.operation.Operator.{Operator}
use Rattle.postscript_type2.specs.Program.Effects.{Effect, Keeps, Clears, Calls, Ends}
use Rattle.postscript_type2.specs.Program.States.{State, start, pushed, stacked, holding, cleared}
use Rattle.postscript_type2.specs.Program.Meaning.{answer as answer_of, hinting, Moves, Means, keeps, clears as clears_phrase, calls as calls_phrase, calls_to_stop, calls_to_finish, returns as returns_phrase, finishes, Closes}
use Rattle.postscript_type2.specs.Program.OperatorRules.{Does, draws, declares, masks, ends, IsSettled}
use Rattle.postscript_type2.specs.Program.Routines.{Lists}
use Rattle.postscript_type2.specs.Program.Runs.{Answer, Phrase, End, UsedUp, Returned, Finished, Fault, Run, last_width, width_by, width_of}
use Rattle.postscript_type2.specs.Program.Widths.{FirstSettles, clears as first_clears, ends as first_ends, behind_others, in_subroutine, behind_subroutine, WidthIsSettledOnce, HasWidth, HasNoWidth, EndsWith, NeverFinished}
use Rattle.postscript_type2.proofs.OperatorLaws.{law as operators-law}

-- a move where the width is settled already
abbrev MovesWith : Option ℤ → Effect → Type 0
MovesWith width (Clears taken pairs stems last mask) = last ≡ width
MovesWith width (Ends taken last) = last ≡ width
MovesWith width move = Unit {0}

stays : (before : Option (Option ℤ)) (beneath : List ℤ) (last width : Option ℤ) → before ≡ Some width → IsSettled before beneath last →
    last ≡ width
stays before beneath last width e h1 = grind arith

does-with : (lists : Lists) (op : Operator) (behind : List ℕ) (st : State) (width : Option ℤ) → st.width ≡ Some width → (move : Effect) →
    Does lists op behind st move → MovesWith width move
does-with lists op behind st width e _ (draws takes beneath taken last k h settles) = stays st.width beneath last width e settles
does-with lists op behind st width e _ (declares takes beneath taken last stems k counts few h settles) =
    stays st.width beneath last width e settles
does-with lists op behind st width e _ (masks beneath rest last stems k counts few bytes at small even settles) =
    stays st.width beneath last width e settles
does-with lists op behind st width e _ (ends beneath taken last k h settles) = stays st.width beneath last width e settles
does-with lists op behind st width e _ _ = tt

moves-with : (lists : Lists) (st : State) (phrase : List ℕ) (numbers : List ℤ) (op : Operator) (behind : List ℕ) (move : Effect)
    (width : Option ℤ) → st.width ≡ Some width →
    Moves lists st phrase numbers op behind move → MovesWith width move
moves-with lists st phrase numbers op behind move width e m =
    does-with lists op behind (pushed numbers st) width e move ((operators-law lists op behind (pushed numbers st) move).1 m.does)

-- what is left of a run where the width is settled
abbrev EndsSettled : Option ℤ → End → Type 0
EndsSettled width (Finished taken last) = last ≡ width
EndsSettled width (Returned st) = st.width ≡ Some width
EndsSettled width UsedUp = Unit {0}
EndsSettled width (Fault e) = Unit {0}

record Keeping (width : Option ℤ) (answers : List Answer) (end : End) : Type 0 where
  pub each : All (λ answer. answer.width ≡ width) answers
  pub last : EndsSettled width end

closes-with : (width : Option ℤ) (taken : List ℤ) (last : Option ℤ) (depth : ℕ) (behind : List ℕ) (end : End) → last ≡ width →
    Closes taken last depth behind end → EndsSettled width end
closes-with width taken last depth behind end e h1 = grind arith

keeping : (lists : Lists) (width : Option ℤ) (depth : ℕ) (rest : List ℕ) (st : State) (answers : List Answer) (trace : List Phrase)
    (end : End) →
    st.width ≡ Some width → Means lists depth rest st answers trace end → Keeping width answers end
keeping lists width _ _ _ _ _ _ e (keeps depth phrase behind numbers op st stack stored answers trace end m more) =
    keeping lists width depth behind (holding stack stored st) answers trace end e more
keeping lists width _ _ _ _ _ _ e (clears_phrase depth phrase mask behind numbers op st taken pairs stems last answers trace end m more) =
    let same : last ≡ width = moves-with lists st phrase numbers op (mask ++ behind)
    (Clears taken pairs stems last (length mask)) width e m in
    let rest = keeping lists width depth behind (cleared stems last st) answers trace end (ap Some same) more in
    record {
      each =
          All-cons (λ answer. answer.width ≡ width) (answer_of op taken (hinting pairs mask) last) answers same rest.each;
      last = rest.last;
    }
keeping lists width _ _ _ _ _ _ e
    (calls_phrase depth phrase behind numbers op st subroutine stack inner inner_trace back answers trace end m few within more) =
    let first = keeping lists width (suc depth) subroutine (stacked stack st) inner inner_trace (Returned back) e within in
    let rest = keeping lists width depth behind back answers trace end first.last more in
    record { each = All-append (λ answer. answer.width ≡ width) inner answers first.each rest.each; last = rest.last }
keeping lists width _ _ _ _ _ _ e
    (calls_to_stop depth phrase behind numbers op st subroutine stack inner inner_trace end m few within stops) =
    keeping lists width (suc depth) subroutine (stacked stack st) inner inner_trace end e within
keeping lists width _ _ _ _ _ _ e
    (calls_to_finish depth phrase behind numbers op st subroutine stack inner inner_trace taken last end m few within closes) =
    let first = keeping lists width (suc depth) subroutine (stacked stack st) inner inner_trace (Finished taken last) e within in
    record { each = first.each; last = closes-with width taken last depth behind end first.last closes }
keeping lists width _ _ _ _ _ _ e (returns_phrase depth phrase behind numbers op st m inner) =
    record { each = All-nil (λ answer. answer.width ≡ width); last = e }
keeping lists width _ _ _ _ _ _ e (finishes depth phrase behind numbers op st taken last end m closes) =
    let same : last ≡ width = moves-with lists st phrase numbers op behind (Ends taken last) width e m in
    record { each = All-nil (λ answer. answer.width ≡ width); last = closes-with width taken last depth behind end same closes }
keeping lists width _ _ _ _ _ _ e _ = record { each = All-nil (λ answer. answer.width ≡ width); last = tt }

-- what is left of a run where no width is settled yet: none is settled in it, or its first settles one
abbrev NoneSettled : End → Type 0
NoneSettled (Finished taken last) = ⊥
NoneSettled (Returned st) = st.width ≡ None
NoneSettled UsedUp = Unit {0}
NoneSettled (Fault e) = Unit {0}

data Left (lists : Lists) (depth : ℕ) (rest : List ℕ) (st : State) (answers : List Answer) (end : End) : Type 0 where
  unsettled : answers ≡ [] → NoneSettled end → Left lists depth rest st answers end
  settles : (width : Option ℤ) → FirstSettles lists width depth rest st → Keeping width answers end → Left lists depth rest st answers end

closes-left : (lists : Lists) (depth : ℕ) (phrase behind : List ℕ) (numbers : List ℤ) (op : Operator) (st : State) (taken : List ℤ)
    (last : Option ℤ) (end : End) →
    Moves lists st phrase numbers op behind (Ends taken last) → Closes taken last depth behind end → Left lists depth
    (phrase ++ behind) st [] end
closes-left lists depth phrase behind numbers op st taken last end m closes =
    settles last (first_ends depth phrase behind numbers op st taken m)
    (record { each = All-nil (λ answer. answer.width ≡ last); last = closes-with last taken last depth behind end refl closes })

past-kept : (lists : Lists) (depth : ℕ) (phrase behind : List ℕ) (numbers : List ℤ) (op : Operator) (st : State) (stack stored : List ℤ)
    (answers : List Answer) (end : End) →
    Moves lists st phrase numbers op behind (Keeps stack stored) → Left lists depth behind
    (holding stack stored st) answers end → Left lists depth (phrase ++ behind) st answers end
past-kept lists depth phrase behind numbers op st stack stored answers end m (unsettled none last) = unsettled none last
past-kept lists depth phrase behind numbers op st stack stored answers end m (settles width first rest) =
    settles width (behind_others depth phrase behind numbers op st stack stored m first) rest

past-inner : (lists : Lists) (depth : ℕ) (phrase behind : List ℕ) (numbers : List ℤ) (op : Operator) (st : State) (subroutine : List ℕ)
    (stack : List ℤ)
    (inner : List Answer) (end end' : End) → Moves lists st phrase numbers op behind (Calls subroutine stack) → depth < 10 →
    (NoneSettled end → NoneSettled end') → ((width : Option ℤ) → EndsSettled width end → EndsSettled width end') →
    Left lists (suc depth) subroutine (stacked stack st) inner end → Left lists depth (phrase ++ behind) st inner end'
past-inner lists depth phrase behind numbers op st subroutine stack inner end end' m few if_none if_one (unsettled none last) =
    unsettled none (if_none last)
past-inner lists depth phrase behind numbers op st subroutine stack inner end end' m few if_none if_one (settles width first rest) =
    settles width (in_subroutine depth phrase behind numbers op st subroutine stack m few first)
    (record { each = rest.each; last = if_one width rest.last })

past-call : (lists : Lists) (depth : ℕ) (phrase behind : List ℕ) (numbers : List ℤ) (op : Operator) (st : State) (subroutine : List ℕ)
    (stack : List ℤ)
    (inner answers : List Answer) (inner_trace trace : List Phrase) (back : State) (end : End) → Moves lists st phrase numbers op behind
    (Calls subroutine stack) → depth < 10 →
    Means lists (suc depth) subroutine (stacked stack st) inner inner_trace
    (Returned back) → Means lists depth behind back answers trace end →
    Left lists (suc depth) subroutine (stacked stack st) inner
    (Returned back) → (back.width ≡ None → Left lists depth behind back answers end) →
    Left lists depth (phrase ++ behind) st (inner ++ answers) end
past-call lists depth phrase behind numbers op st subroutine stack inner answers inner_trace trace back end m few within more
    (settles width first rest) go =
    let others = keeping lists width depth behind back answers trace end rest.last more in
    settles width (in_subroutine depth phrase behind numbers op st subroutine stack m few first)
    (record { each = All-append (λ answer. answer.width ≡ width) inner answers rest.each others.each; last = others.last })
past-call lists depth phrase behind numbers op st subroutine stack inner answers inner_trace trace back end m few within more (unsettled none not_yet) go =
    by_rest (go not_yet)
  where
    by_rest : Left lists depth behind back answers end → Left lists depth (phrase ++ behind) st (inner ++ answers) end
    by_rest (unsettled nothing last) = unsettled (ap (λ xs. xs ++ answers) none ∙ nothing) last
    by_rest (settles width first rest) = settles width
        (behind_subroutine depth phrase behind numbers op st subroutine stack inner_trace back m few
        (subst (λ xs. Means lists (suc depth) subroutine (stacked stack st) xs inner_trace (Returned back)) none within) first)
        (record { each = subst (λ xs. All (λ answer. answer.width ≡ width) (xs ++ answers)) (sym none) rest.each; last = rest.last })

closes-none : (taken : List ℤ) (last : Option ℤ) (end : End) → NoneSettled (Finished taken last) → NoneSettled end
closes-none taken last end h = absurd h

left : (lists : Lists) (depth : ℕ) (rest : List ℕ) (st : State) (answers : List Answer) (trace : List Phrase) (end : End) →
    st.width ≡ None → Means lists depth rest st answers trace end → Left lists depth rest st answers end
left lists _ _ _ _ _ _ e (keeps depth phrase behind numbers op st stack stored answers trace end m more) =
    past-kept lists depth phrase behind numbers op st stack stored answers end m
    (left lists depth behind (holding stack stored st) answers trace end e more)
left lists _ _ _ _ _ _ e (clears_phrase depth phrase mask behind numbers op st taken pairs stems last answers trace end m more) =
    let rest = keeping lists last depth behind (cleared stems last st) answers trace end refl more in
    settles last (first_clears depth phrase (mask ++ behind) numbers op st taken pairs stems (length mask) m)
    (record {
      each = All-cons (λ answer. answer.width ≡ last) (answer_of op taken (hinting pairs mask) last) answers refl rest.each;
      last = rest.last;
    })
left lists _ _ _ _ _ _ e (calls_phrase depth phrase behind numbers op st subroutine stack inner inner_trace back answers trace end m few
    within more) =
    past-call lists depth phrase behind numbers op st subroutine stack inner answers inner_trace trace back end m few within more
    (left lists (suc depth) subroutine (stacked stack st) inner inner_trace (Returned back) e within)
    (λ not_yet. left lists depth behind back answers trace end not_yet more)
left lists _ _ _ _ _ _ e (calls_to_stop depth phrase behind numbers op st subroutine stack inner inner_trace end m few within stops) =
    past-inner lists depth phrase behind numbers op st subroutine stack inner end end m few (λ h. h) (λ width h. h)
    (left lists (suc depth) subroutine (stacked stack st) inner inner_trace end e within)
left lists _ _ _ _ _ _ e (calls_to_finish depth phrase behind numbers op st subroutine stack inner inner_trace taken last end m few within
    closes) =
    past-inner lists depth phrase behind numbers op st subroutine stack inner (Finished taken last) end m few (closes-none taken last end)
    (λ width h. closes-with width taken last depth behind end h closes)
    (left lists (suc depth) subroutine (stacked stack st) inner inner_trace (Finished taken last) e within)
left lists _ _ _ _ _ _ e (returns_phrase depth phrase behind numbers op st m inner) = unsettled refl e
left lists _ _ _ _ _ _ e (finishes depth phrase behind numbers op st taken last end m closes) =
    closes-left lists depth phrase behind numbers op st taken last end m closes
left lists _ _ _ _ _ _ e _ = unsettled refl tt

-- of the whole run
ends-with : (width : Option ℤ) (end : End) → EndsSettled width end → EndsWith width end
ends-with width end h = grind arith

never : (end : End) → NoneSettled end → NeverFinished end
never end h = grind arith

-- the width of a run that has one: that of its first answer, or of its end
last-is : (width before : Option ℤ) (answers : List Answer) → All (λ answer. answer.width ≡ width) answers →
    (before ≡ width) ⊎ (0 < length answers) → last_width before answers ≡ width
last-is width before [] h (inl same) = same
last-is width before [] h (inr some) = absurd (omega arith)
last-is width before (answer ∷ answers) h some =
    last-is width answer.width answers (All-tail (λ answer. answer.width ≡ width) answer answers h)
    (inl (All-head (λ answer. answer.width ≡ width) answer answers h))

none-is : (run : Run) → run.answers ≡ [] → NoneSettled run.end → width_of run ≡ None
none-is run h0 not_yet = grind arith

abbrev HasOneOrNone : Option ℤ → List Answer → End → Type 0
HasOneOrNone width answers end =
    (width_by None answers end ≡ width) ⊎ ((answers ≡ []) × NeverFinished end × (width_by None answers end ≡ None))

one-or-none : (width : Option ℤ) (answers : List Answer) (end : End) → Keeping width answers end → HasOneOrNone width answers end
one-or-none width answers (Finished taken last) k = inl k.last
one-or-none width [] (Returned st) k = inr (refl, tt, refl)
one-or-none width [] UsedUp k = inr (refl, tt, refl)
one-or-none width [] (Fault e) k = inr (refl, tt, refl)
one-or-none width (answer ∷ answers) (Returned st) k = inl (last-is width None (answer ∷ answers) k.each (inr (omega arith)))
one-or-none width (answer ∷ answers) UsedUp k = inl (last-is width None (answer ∷ answers) k.each (inr (omega arith)))
one-or-none width (answer ∷ answers) (Fault e) k = inl (last-is width None (answer ∷ answers) k.each (inr (omega arith)))

pub law : WidthIsSettledOnce
law lists code run means = by_left (left lists 0 code start run.answers run.trace run.end refl means)
  where
    by_width : (width : Option ℤ) → FirstSettles lists width 0 code start → Keeping width run.answers run.end →
        HasOneOrNone width run.answers run.end →
        (FirstSettles lists (width_of run) 0 code start × HasWidth run (width_of run)) ⊎ (HasNoWidth run × (width_of run ≡ None))
    by_width width first rest (inl same) =
        inl (
          subst (λ w. FirstSettles lists w 0 code start) (sym same) first,
          subst (HasWidth run) (sym same) (record { answers = rest.each; end = ends-with width run.end rest.last }),
        )
    by_width width first rest (inr nothing) = inr (record { answers = nothing.0; end = nothing.1 }, nothing.2)

    by_left : Left lists 0 code start run.answers run.end →
        (FirstSettles lists (width_of run) 0 code start × HasWidth run (width_of run)) ⊎ (HasNoWidth run × (width_of run ≡ None))
    by_left (unsettled none not_yet) = inr (record { answers = none; end = never run.end not_yet }, none-is run none not_yet)
    by_left (settles width first rest) = by_width width first rest (one-or-none width run.answers run.end rest)
