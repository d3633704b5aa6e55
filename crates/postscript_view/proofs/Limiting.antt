-- A greater limit, and what glyphs cost.
use Rattle.std.proofs.Common.{◌≡◌, ◌≢◌, refl, ◌∙◌, inl, inr, sym, ap, subst, ℤ, Result, Ok, Err, IfOk, ℕ, ◌+◌, ◌-◌, ◌<◌, ◌≤◌, max, Bool, true, false, List, [], ◌∷◌, ◌++◌, length, Option, Some, None, arith}
use Rattle.std.proofs.lemmas.List.{append-nil}
use Rattle.std.specs.Bool.{OnTrue, OnFalse}
use Rattle.std.specs.Prelude.{IsSome, MatchResult}
use denote.Ref.{Bor}
use Rattle.postscript_base.specs.Refusal.{Refusal}
use Rattle.postscript_base.specs.RefusalOf.{refusal_of}
use Rattle.postscript_base.specs.declared.error.Error.{Error}
use Rattle.postscript_base.specs.declared.error.Error.TheVariants.{Memory}
use Rattle.postscript_base.specs.Index.Lent.{items_of}
use Rattle.postscript_type2.specs.declared.operation.Operator.{Operator}
use Rattle.postscript_type2.specs.declared.program.within.Within.{Within}
use Rattle.postscript_type2.specs.declared.program.within.Within.TheVariants as within
use Rattle.postscript_type2.specs.declared.program.within.Within.TheVariants.{Operation}
use Rattle.postscript_type2.specs.Program.Evaluation.{run_of}
use Rattle.postscript_type2.specs.Program.Limit.{cost_of, cost, IsLast, LimitIsCost, Spends, nothing, one_more}
use Rattle.postscript_type2.specs.Program.Programs.{IsLastWidth, Pending, begun}
use Rattle.postscript_type2.specs.Program.Routines.{lent}
use Rattle.postscript_type2.specs.Program.Runs.{Phrase, End, UsedUp, Returned, Finished, Fault, Run, fault_of}
use Rattle.postscript_type2.specs.Program.Within.{StepsWithin}
use Rattle.postscript_view.specs.Advances.{HasRun}
use Rattle.postscript_view.specs.Fitting.{CostTheLimit, FitsIn, Goes, GlyphCosts, ends, is_refused, GlyphFits, GlyphLeaves, all_paid, refusal_paid, longest, RunsCost, one_more as one_run, refusal_cost}
use Rattle.postscript_view.specs.declared.fitting.Outcome.{Outcome}
use Rattle.postscript_view.specs.Glyphs.{HasGlyph}
use Rattle.postscript_view.specs.declared.fitting.Outcome.TheVariants as outcomes
use Rattle.postscript_view.specs.declared.fitting.Outcome.TheVariants.{Refused}
use Rattle.postscript_view.specs.declared.font.FontView.{FontView}
use Rattle.postscript_view.specs.declared.font.Glyph.{Glyph}
use Rattle.postscript_view.specs.declared.private_dict.PrivateDict.{PrivateDict}

-- no more is left than there was
pub less : (limit : ℕ) (phrases : List Phrase) (left : ℕ) (rest : List Phrase) → Spends limit phrases left rest → left ≤ limit
less limit phrases left rest nothing = omega arith
less limit phrases left rest (one_more before said behind spends is_left costs) =
    let all = less limit phrases before (said ∷ rest) spends in omega (arith, all)

-- within a greater limit as many phrases are run, and no less is left
more : (limit extra : ℕ) (phrases : List Phrase) (left : ℕ) (rest : List Phrase) → Spends limit phrases left rest →
    (left' : ℕ) × (left ≤ left') × Spends (limit + extra) phrases left' rest
more limit extra phrases left rest nothing = (limit + extra, omega arith, nothing)
more limit extra phrases left rest (one_more before said behind spends is_left costs) =
    let all = more limit extra phrases before (said ∷ rest) spends in
    (all.0 - cost_of said, omega (arith, all.1), one_more all.0 said rest all.2 (omega (arith, all.1, is_left)) costs)

pub fits-more : (first limit : ℕ) (phrases : List Phrase) → first ≤ limit → FitsIn first phrases → FitsIn limit phrases
fits-more first limit phrases h fits =
    let all = more first (limit - first) phrases fits.0 fits.1.0 fits.1.1 in
    let whole : first + (limit - first) ≡ limit = omega (arith, h) in
    (all.0, (fits.1.0, subst (λ n. Spends n phrases all.0 fits.1.0) whole all.2, fits.1.2))

pub glyph-fits-more : (font : FontView) (first limit glyph : ℕ) → first ≤ limit → GlyphFits font first glyph → GlyphFits font limit glyph
glyph-fits-more font first limit glyph h (inl none) = inl none
glyph-fits-more font first limit glyph h (inr (part, run, has, fits)) = inr (part, run, has, fits-more first limit run.trace h fits)

pub on-true : {P : Type 0} (b : Bool) → OnTrue b P → b ≡ true → P
on-true true h is = h
on-true false h is = cc

pub on-false : {P : Type 0} (b : Bool) → OnFalse b P → b ≡ false → P
on-false false h is = h
on-false true h is = cc

-- what is left is spent on
pub goes-on : (limit : ℕ) (phrases : List Phrase) (left : ℕ) (rest : List Phrase) (last : ℕ) (end : List Phrase) →
    Spends limit phrases left rest → Spends left rest last end →
    Spends limit phrases last end
goes-on limit phrases left rest last end first nothing = first
goes-on limit phrases left rest last end first (one_more before said behind spends is_left costs) =
    one_more before said end (goes-on limit phrases left rest before (said ∷ end) first spends) is_left costs

-- what is paid once a step is answered
pub on-operation : {first : ℕ} {phrases : List Phrase} (old new : Pending) {limit left : ℕ} {answer : Result Within Error} {op : Operator}
    {operands : Bor (List ℤ)} →
    answer ≡ Ok (Operation op operands) → StepsWithin old limit answer new left → Spends first phrases limit old.trace → Spends first
    phrases left new.trace × (new.end ≡ old.end) × (left < limit)
on-operation {first} {phrases} old new {limit} {left} {answer} {op} {operands} is steps paid =
    let step = subst (λ (r : Result Within Error). StepsWithin old limit r new left) is steps in
    (goes-on first phrases limit old.trace left new.trace paid step.1, step.0.1, step.2)

no-fault : (end : End) (width new : Option ℤ) → IsLastWidth end width new → fault_of end ≡ None
no-fault UsedUp width new last = refl
no-fault (Returned st) width new last = refl
no-fault (Finished taken told) width new last = refl
no-fault (Fault e) width new last = absurd last

pub on-end : {first : ℕ} {phrases : List Phrase} (old new : Pending) {limit left : ℕ} {answer : Result Within Error} →
    answer ≡ Ok within.End → StepsWithin old limit answer new left → Spends first phrases limit
    old.trace → (fault_of old.end ≡ None) × Spends first phrases left []
on-end {first} {phrases} old new {limit} {left} {answer} is steps paid =
    let step = subst (λ (r : Result Within Error). StepsWithin old limit r new left) is steps in
    (no-fault old.end old.width new.width step.0.1, goes-on first phrases limit old.trace left [] paid step.1)

pub on-pause : {first : ℕ} {phrases : List Phrase} (old new : Pending) {limit left : ℕ} {answer : Result Within Error} →
    answer ≡ Ok within.Paused → StepsWithin old limit answer new left → Spends first phrases limit
    old.trace → (left ≡ 0) × ((rest : List Phrase) × Spends first phrases left rest)
on-pause {first} {phrases} old new {limit} {left} {answer} is steps paid =
    let step = subst (λ (r : Result Within Error). StepsWithin old limit r new left) is steps in
    (step.4, (new.trace, goes-on first phrases limit old.trace left new.trace paid step.5))

pub on-refusal : (old new begun : Pending) (first left : ℕ) {limit : ℕ} {answer : Result Within Error} {e : Error}
    (told : Result Outcome Error) →
    answer ≡ Err e → StepsWithin old limit answer new left → Spends first begun.trace limit old.trace → old.end ≡ begun.end →
    MatchResult told (λ outcome. (outcome ≡ Refused) × (e ≢ Memory)) (λ want. want ≡ Memory) → IfOk told
    (λ outcome. Goes outcome begun first left)
on-refusal old new begun first left {limit} {answer} {e} (Err want) is steps paid same told_so = tt
on-refusal old new begun first left {limit} {answer} {e} (Ok outcome) is steps paid same told_so =
    let step = subst (λ (r : Result Within Error). StepsWithin old limit r new left) is steps in
    let last : IsLast step.1.0 = elim step.1.2 [ inl memory ↦ absurd (told_so.1 memory) | inr last ↦ last ] in
    let fault : old.end ≡ Fault (refusal_of e) = elim step.0.0 [ inl memory ↦ absurd (told_so.1 memory) | inr fault ↦ fault.1 ] in
    let some : IsSome (fault_of begun.end) = subst (λ end. IsSome (fault_of end)) (sym fault ∙ same) refl in
    subst (λ (o : Outcome). Goes o begun first left) (sym told_so.0)
    (some, (step.1.0, goes-on first begun.trace limit old.trace left step.1.0 paid step.1.1, last))

-- that of one item more
pub longest-more : (codes : List (List ℕ)) (code : List ℕ) → longest (codes ++ code ∷ []) ≡ max (longest codes) (length code)
longest-more [] code = omega arith
longest-more (first ∷ codes) code = let all = longest-more codes code in omega (arith, all)

-- what is left of a limit where one more glyph is paid
pub one-glyph-more : (font : FontView) (glyph limit before left : ℕ) → (total : ℕ) × RunsCost font glyph total × (before ≡ limit - total) →
    (cost : ℕ) × GlyphCosts font glyph cost × (left ≡ before - cost) → (total : ℕ) × RunsCost font
    (glyph + 1) total × (left ≡ limit - total)
one-glyph-more font glyph limit before left (total, runs, is) (cost, costs, paid) =
    (total + cost, one_run glyph total cost runs costs, omega (arith, is, paid))

pub too-long : (font : FontView) (glyph limit before : ℕ) → glyph < length (items_of font.char_strings) →
    (total : ℕ) × RunsCost font glyph total × (before ≡ limit - total) →
    (cost : ℕ) × GlyphCosts font glyph cost × (before ≤ cost) → CostTheLimit font limit
too-long font glyph limit before there (total, runs, is) (cost, costs, paid) =
    (glyph + 1, total + cost, omega (arith, there), one_run glyph total cost runs costs, omega (arith, is, paid))

-- the phrases in front cost no more than all
front-less : (front rest : List Phrase) → cost front ≤ cost (front ++ rest)
front-less [] rest = omega arith
front-less (said ∷ front) rest = let less = front-less front rest in omega (arith, less)

-- where the limit is used up the glyph costs as much, at least
pub used-up : (font : FontView) (glyph : ℕ) (part : PrivateDict) (run : Run) (limit : ℕ) (has : HasRun font glyph part run)
    (end : Option Refusal) → fault_of run.end ≡ end →
    (ran rest : List Phrase) → run.trace ≡ ran ++ rest → 0 ≡ limit - cost ran → (cost : ℕ) × GlyphCosts font glyph cost × (limit ≤ cost)
used-up font glyph part run limit has None is ran rest all none =
    let less = front-less ran rest in
    let whole : limit ≤ cost (ran ++ rest) = omega (arith, less, none) in
    (cost run.trace, ends part run has is, subst (λ phrases. limit ≤ cost phrases) (sym all) whole)
used-up font glyph part run limit has (Some e) is ran rest all none =
    let less = front-less ran rest in
    let whole : limit ≤ cost (ran ++ rest) = omega (arith, less, none) in
    let more : limit ≤ cost run.trace = subst (λ phrases. limit ≤ cost phrases) (sym all) whole in (
      cost run.trace + refusal_cost font part has.code,
      is_refused part run has (subst IsSome (sym is) refl) run.trace [] (sym (append-nil run.trace)) (omega arith),
      omega (arith, more),
    )

-- the run of a glyph
abbrev pub run_by : Glyph → Run
run_by glyph = run_of (lent (items_of glyph.global_subroutines) (items_of glyph.part.now.subroutines)) glyph.code.now

abbrev pub has-run : (font : FontView) (i : ℕ) (glyph : Glyph) → HasGlyph font i glyph.code.now glyph.part.now →
    items_of glyph.global_subroutines ≡ items_of font.global_subroutines →
    HasRun font i glyph.part.now (run_by glyph)
has-run font i glyph has same =
    record {
      code =
          glyph.code.now;
      has = has;
      runs = ap (λ global. run_of (lent global (items_of glyph.part.now.subroutines)) glyph.code.now) same;
    }

-- what a run that goes so costs
goes-so : {outcome way : Outcome} {program : Pending} {run : Run} (limit left : ℕ) → outcome ≡ way → program ≡ begun run →
    Goes outcome program limit left → Goes way (begun run) limit left
goes-so {outcome} {way} {program} {run} limit left is begins goes =
    subst (λ (o : Outcome). Goes o (begun run) limit left) is (subst (λ (p : Pending). Goes outcome p limit left) begins goes)

pub ended-so : (font : FontView) (i : ℕ) (part : PrivateDict) (run : Run) (limit left : ℕ) {outcome : Outcome} {program : Pending} →
    LimitIsCost → HasRun font i part run → outcome ≡ outcomes.Ended →
    program ≡ begun run → Goes outcome program limit left → GlyphFits font limit
    i × ((cost : ℕ) × GlyphCosts font i cost × (left ≡ limit - cost)) × GlyphLeaves font limit i left
ended-so font i part run limit left {outcome} {program} law has is begins goes =
    let so = goes-so limit left is begins goes in
    let all = law limit run.trace left [] so.1 in
    let same : run.trace ≡ all.0 = all.1 ∙ append-nil all.0 in (
      inr (part, run, has, (left, ([], so.1, omega arith))),
      (cost run.trace, ends part run has so.0, subst (λ (xs : List Phrase). left ≡ limit - cost xs) (sym same) all.2),
      all_paid part run has so.0 left so.1,
    )

pub refused-so : (font : FontView) (i : ℕ) (part : PrivateDict) (run : Run) (limit left last : ℕ) {outcome : Outcome}
    {program : Pending} → LimitIsCost → (has : HasRun font i part run) → outcome ≡ Refused →
    program ≡ begun run → Goes outcome program limit left → last ≡ left - refusal_cost font part has.code →
    GlyphFits font limit i × ((cost : ℕ) × GlyphCosts font i cost × (last ≡ limit - cost)) × GlyphLeaves font limit i last
refused-so font i part run limit left last {outcome} {program} law has is begins goes paid =
    let so = goes-so limit left is begins goes in
    let all = law limit run.trace left so.1.0 so.1.1 in
    let ran = all.2 in (
      inr (part, run, has, (left, so.1)),
      (cost all.0 + refusal_cost font part has.code, is_refused part run has so.0 all.0 so.1.0 all.1 so.1.2, omega (arith, ran, paid)),
      subst (λ n. GlyphLeaves font limit i n) (sym paid) (refusal_paid part run has so.0 left so.1.0 so.1.1 so.1.2),
    )

pub used-so : (font : FontView) (i : ℕ) (part : PrivateDict) (run : Run) (limit left : ℕ) {outcome : Outcome} {program : Pending} →
    LimitIsCost → HasRun font i part run → outcome ≡ outcomes.UsedUp →
    program ≡ begun run → Goes outcome program limit left → (cost : ℕ) × GlyphCosts font i cost × (limit ≤ cost)
used-so font i part run limit left {outcome} {program} law has is begins goes =
    let so = goes-so limit left is begins goes in
    let all = law limit run.trace left so.1.0 so.1.1 in
    used-up font i part run limit has (fault_of run.end) refl all.0 so.1.0 all.1 (sym so.0 ∙ all.2)
