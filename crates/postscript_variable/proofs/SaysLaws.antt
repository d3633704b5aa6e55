-- What is told along a run is what is computed, and it is answered.
use Rattle.std.proofs.Common.{◌≡◌, refl, ap, sym, subst, ◌∙◌, ℕ, zero, suc, ◌+◌, ◌⊎◌, inl, inr, List, ◌∷◌, ◌++◌, take, length, map, arith}
use Rattle.std.proofs.Math.Seq.{drop-append_seam, take-append_seam}
use Rattle.std.proofs.lemmas.List.{append-nil, map-append}
use Rattle.postscript_base.specs.declared.error.Error.TheVariants as errors
use Rattle.postscript_base.specs.RefusalOf.{refusal_of}
use Rattle.postscript_type2.specs.Program.Runs.{Answer}
use Rattle.postscript_variable.specs.declared.charstring.Charstring.{Charstring}
use Rattle.postscript_variable.specs.declared.machine.Machine.{Machine}
use Rattle.postscript_type2.specs.declared.refused.Refused.{Refused}
use Rattle.postscript_type2.specs.declared.refused.Refused.TheVariants.{Memory}
use Rattle.postscript_variable.specs.Charstrings.{font_from, run_from, IsRunFrom}
use Rattle.postscript_variable.specs.State.{Font, State, Keeps, Clears, Calls, Refuses}
use Rattle.postscript_variable.specs.Evaluation.{Run, followed, after_call, mean}
use Rattle.postscript_variable.specs.Meaning as rules
use Rattle.postscript_variable.specs.Meaning.{End, UsedUp, Stopped, Means}
use Rattle.postscript_variable.specs.Private.Machines.{still_of}
use Rattle.postscript_type2.specs.Refused.{error_of, reason}
use Rattle.postscript_variable.specs.Sayings.{Phrase, said}
use Rattle.postscript_variable.specs.Told.{told, answer_of, ToldIsComputed, ToldIsAnswered, Says, StopsWith}
use Rattle.postscript_variable.proofs.MeaningLaws.{mean-number, mean-operator, mean-unread, with-room, without-room, sound, run-means}

abbrev says : Run → List Phrase
says run = run.says

says-call : (run : Run) (go : State → Run) (back : State) (xs ys : List Phrase) → run.says ≡ xs → run.end ≡ UsedUp back →
    (go back).says ≡ ys →
    (followed run (after_call go)).says ≡ xs ++ ys
says-call run go back xs ys h ends i =
    ap (λ zs. zs ++ (after_call go run.end).says) h ∙ ap (λ e. xs ++ (after_call go e).says) ends ∙ ap (λ zs. xs ++ zs) i

says-stop : (run : Run) (go : State → Run) (e : _) (xs : List Phrase) → run.says ≡ xs → run.end ≡ Stopped e →
    (followed run (after_call go)).says ≡ xs
says-stop run go e xs h ends =
    ap (λ zs. zs ++ (after_call go run.end).says) h ∙ ap (λ end. xs ++ (after_call go end).says) ends ∙ append-nil xs

-- what is computed is what is told
pub says-told : (font : Font) {d : ℕ} {rest : List ℕ} {st : State} {xs : List Answer} {end : End} (run : Means font d rest st xs end) →
    (left : ℕ) → left + d ≡ 10 →
    (mean font left rest st).says ≡ told run
says-told font (rules.used_up d st) left h = refl
says-told font (rules.number d spelling behind x st xs end is room later) left h =
    ap says (mean-number font left spelling behind st x is ∙ with-room font left behind st (length spelling) x room)
    ∙ says-told font later left h
says-told font (rules.no_room d spelling behind x st is full) left h =
    ap says (mean-number font left spelling behind st x is ∙ without-room font left behind st (length spelling) x full)
says-told font (rules.unread d rest st e none) left h = ap says (mean-unread font left rest st e none)
says-told font (rules.refused d spelling behind command st e moves) left h =
    ap says (mean-operator font left spelling behind st command (Refuses e) moves.spelled moves.does)
says-told font (rules.keeps d spelling behind command st after xs end moves later) left h =
    ap says (mean-operator font left spelling behind st command (Keeps after) moves.spelled moves.does) ∙ says-told font later left h
says-told font (rules.clears d spelling mask behind command op st after taken xs end moves later) left h =
    ap says (mean-operator font left spelling (mask ++ behind) st command (Clears op taken after (length mask)) moves.spelled moves.does)
    ∙ ap (λ rest. said op st.stack taken (take (length mask) (mask ++ behind)) ∷ (mean font left rest after).says)
    (drop-append_seam mask behind)
    ∙ ap (λ bytes. said op st.stack taken bytes ∷ (mean font left behind after).says) (take-append_seam mask behind)
    ∙ ap (λ ys. said op st.stack taken mask ∷ ys) (says-told font later left h)
says-told font (rules.calls_too_deep d spelling behind command st after routine moves deep) zero h =
    ap says (mean-operator font zero spelling behind st command (Calls routine after) moves.spelled moves.does)
says-told font (rules.calls_too_deep d spelling behind command st after routine moves deep) (suc left) h = absurd (omega arith)
says-told font (rules.calls d spelling behind command st after back routine inner xs end moves room within later) zero h =
    absurd (omega arith)
says-told font (rules.calls d spelling behind command st after back routine inner xs end moves room within later) (suc left) h =
    let ends = (sound font within left (omega arith)).1 in
    ap says (mean-operator font (suc left) spelling behind st command (Calls routine after) moves.spelled moves.does)
    ∙ says-call (mean font left routine after) (λ st'. mean font (suc left) behind st') back _ _
    (says-told font within left (omega arith)) ends (says-told font later (suc left) h)
says-told font (rules.calls_to_stop d spelling behind command st after routine inner e moves room within) zero h = absurd (omega arith)
says-told font (rules.calls_to_stop d spelling behind command st after routine inner e moves room within) (suc left) h =
    let ends = (sound font within left (omega arith)).1 in
    ap says (mean-operator font (suc left) spelling behind st command (Calls routine after) moves.spelled moves.does)
    ∙ says-stop (mean font left routine after) (λ st'. mean font (suc left) behind st') e _ (says-told font within left (omega arith)) ends

-- what is told is answered
pub told-answered : {font : Font} {d : ℕ} {rest : List ℕ} {st : State} {xs : List Answer} {end : End}
    (run : Means font d rest st xs end) → xs ≡ map answer_of (told run)
told-answered (rules.used_up d st) = refl
told-answered (rules.number d spelling behind x st xs end is room later) = told-answered later
told-answered (rules.no_room d spelling behind x st is full) = refl
told-answered (rules.unread d rest st e none) = refl
told-answered (rules.refused d spelling behind command st e moves) = refl
told-answered (rules.keeps d spelling behind command st after xs end moves later) = told-answered later
told-answered (rules.clears d spelling mask behind command op st after taken xs end moves later) =
    ap (λ ys. answer_of (said op st.stack taken mask) ∷ ys) (told-answered later)
told-answered (rules.calls_too_deep d spelling behind command st after routine moves deep) = refl
told-answered (rules.calls d spelling behind command st after back routine inner xs end moves room within later) =
    ap (λ ys. ys ++ xs) (told-answered within) ∙ ap (λ ys. map answer_of (told within) ++ ys) (told-answered later)
    ∙ sym (map-append answer_of (told within) (told later))
told-answered (rules.calls_to_stop d spelling behind command st after routine inner e moves room within) = told-answered within

pub computed : ToldIsComputed
computed font index code answers end run = says-told font run 10 (omega arith)

pub answered : ToldIsAnswered
answered font index code answers end run = told-answered run

-- the run of a charstring, by its end
pub says-so : (charstring : Charstring) (xs : List Phrase) (last : State) → xs ≡ (run_from charstring).says →
    (run_from charstring).end ≡ UsedUp last → Says charstring xs
says-so charstring xs last told-so ends =
    let font = font_from charstring in
    let index = charstring.blends.index in
    let code = charstring.code.now in
    let run : IsRunFrom charstring (run_from charstring).answers (UsedUp last) = subst
    (λ end. IsRunFrom charstring (run_from charstring).answers end) ends (run-means font index code) in
    record { answers = (run_from charstring).answers; last = last; run = run; all = told-so ∙ computed font index code _ _ run }

pub stops-so : (charstring : Charstring) (e : _) → (run_from charstring).end ≡ Stopped e → StopsWith charstring e
stops-so charstring e ends = (
  (run_from charstring).answers,
  subst (λ end. IsRunFrom charstring (run_from charstring).answers end) ends
      (run-means (font_from charstring) charstring.blends.index charstring.code.now),
)

-- the same of a machine before the first byte
pub machine-says : (charstring : Charstring) (machine : Machine) (xs : List Phrase) (last : State) →
    still_of machine ≡ run_from charstring → xs ≡ (still_of machine).says →
    (still_of machine).end ≡ UsedUp last → Says charstring xs
machine-says charstring machine xs last same told-so ends =
    says-so charstring xs last (told-so ∙ ap (λ (run : Run). run.says) same) (sym (ap (λ (run : Run). run.end) same) ∙ ends)

pub machine-stops : (charstring : Charstring) (machine : Machine) (e : Refused) → still_of machine ≡ run_from charstring →
    (e ≡ Memory) ⊎ ((still_of machine).end ≡ Stopped (reason e)) → (error_of e ≡ errors.Memory) ⊎ StopsWith charstring
    (refusal_of (error_of e))
machine-stops charstring machine e same (inl memory) = inl (ap error_of memory)
machine-stops charstring machine e same (inr ends) = inr (stops-so charstring (reason e) (sym (ap (λ (run : Run). run.end) same) ∙ ends))
