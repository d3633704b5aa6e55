-- The costs along a run are the computed ones.
use Rattle.std.proofs.Common.{◌≡◌, refl, ap, ◌∙◌, ℕ, zero, suc, ◌+◌, List, ◌∷◌, ◌++◌, length, arith}
use Rattle.std.proofs.Math.Seq.{drop-append_seam}
use Rattle.std.proofs.lemmas.List.{append-nil}
use Rattle.postscript_type2.specs.Program.Runs.{Answer}
use Rattle.postscript_variable.specs.Costs.{cost_beside}
use Rattle.postscript_variable.specs.CostsAlong.{costs_along, CostsAreComputed}
use Rattle.postscript_variable.specs.State.{Font, State, Keeps, Clears, Calls, Refuses}
use Rattle.postscript_variable.specs.Evaluation.{Run, followed, after_call, mean}
use Rattle.postscript_variable.specs.Meaning as rules
use Rattle.postscript_variable.specs.Meaning.{End, UsedUp, Stopped, Means}
use Rattle.postscript_variable.proofs.MeaningLaws.{mean-number, mean-operator, mean-unread, with-room, without-room, sound}

abbrev costs : Run → List ℕ
costs run = run.costs

costs-call : (run : Run) (go : State → Run) (back : State) (xs ys : List ℕ) → run.costs ≡ xs → run.end ≡ UsedUp back →
    (go back).costs ≡ ys →
    (followed run (after_call go)).costs ≡ xs ++ ys
costs-call run go back xs ys h ends i =
    ap (λ zs. zs ++ (after_call go run.end).costs) h ∙ ap (λ e. xs ++ (after_call go e).costs) ends ∙ ap (λ zs. xs ++ zs) i

costs-stop : (run : Run) (go : State → Run) (e : _) (xs : List ℕ) → run.costs ≡ xs → run.end ≡ Stopped e →
    (followed run (after_call go)).costs ≡ xs
costs-stop run go e xs h ends =
    ap (λ zs. zs ++ (after_call go run.end).costs) h ∙ ap (λ end. xs ++ (after_call go end).costs) ends ∙ append-nil xs

-- what is computed is the cost of each along the run
pub costs-told : (font : Font) {d : ℕ} {rest : List ℕ} {st : State} {xs : List Answer} {end : End} (run : Means font d rest st xs end) →
    (left : ℕ) → left + d ≡ 10 →
    (mean font left rest st).costs ≡ costs_along run
costs-told font (rules.used_up d st) left h = refl
costs-told font (rules.number d spelling behind x st xs end is room later) left h =
    ap costs (mean-number font left spelling behind st x is ∙ with-room font left behind st (length spelling) x room)
    ∙ ap (λ ys. length spelling ∷ ys) (costs-told font later left h)
costs-told font (rules.no_room d spelling behind x st is full) left h =
    ap costs (mean-number font left spelling behind st x is ∙ without-room font left behind st (length spelling) x full)
costs-told font (rules.unread d rest st e none) left h = ap costs (mean-unread font left rest st e none)
costs-told font (rules.refused d spelling behind command st e moves) left h =
    ap costs (mean-operator font left spelling behind st command (Refuses e) moves.spelled moves.does)
costs-told font (rules.keeps d spelling behind command st after xs end moves later) left h =
    ap costs (mean-operator font left spelling behind st command (Keeps after) moves.spelled moves.does)
    ∙ ap (λ ys. (length spelling + cost_beside command st.stack) ∷ ys) (costs-told font later left h)
costs-told font (rules.clears d spelling mask behind command op st after taken xs end moves later) left h =
    ap costs (mean-operator font left spelling (mask ++ behind) st command (Clears op taken after (length mask)) moves.spelled moves.does)
    ∙ ap (λ rest. (length spelling + cost_beside command st.stack + length mask) ∷ (mean font left rest after).costs)
    (drop-append_seam mask behind)
    ∙ ap (λ ys. (length spelling + cost_beside command st.stack + length mask) ∷ ys) (costs-told font later left h)
costs-told font (rules.calls_too_deep d spelling behind command st after routine moves deep) zero h =
    ap costs (mean-operator font zero spelling behind st command (Calls routine after) moves.spelled moves.does)
costs-told font (rules.calls_too_deep d spelling behind command st after routine moves deep) (suc left) h = absurd (omega arith)
costs-told font (rules.calls d spelling behind command st after back routine inner xs end moves room within later) zero h =
    absurd (omega arith)
costs-told font (rules.calls d spelling behind command st after back routine inner xs end moves room within later) (suc left) h =
    let ends = (sound font within left (omega arith)).1 in
    ap costs (mean-operator font (suc left) spelling behind st command (Calls routine after) moves.spelled moves.does)
    ∙ ap (λ ys. (length spelling + cost_beside command st.stack) ∷ ys)
    (costs-call (mean font left routine after) (λ st'. mean font (suc left) behind st') back _ _
    (costs-told font within left (omega arith)) ends (costs-told font later (suc left) h))
costs-told font (rules.calls_to_stop d spelling behind command st after routine inner e moves room within) zero h = absurd (omega arith)
costs-told font (rules.calls_to_stop d spelling behind command st after routine inner e moves room within) (suc left) h =
    let ends = (sound font within left (omega arith)).1 in
    ap costs (mean-operator font (suc left) spelling behind st command (Calls routine after) moves.spelled moves.does)
    ∙ ap (λ ys. (length spelling + cost_beside command st.stack) ∷ ys)
    (costs-stop (mean font left routine after) (λ st'. mean font (suc left) behind st') e _ (costs-told font within left (omega arith)) ends)

pub computed : CostsAreComputed
computed font index code answers end run = costs-told font run 10 (omega arith)
