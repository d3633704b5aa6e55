-- Numbers that are put onto a stack, and what is still answered behind them.
use Rattle.std.proofs.Common.{◌≡◌, ◌≢◌, refl, ap, sym, subst, ◌∙◌, ℕ, suc, ◌+◌, ◌-◌, ◌<◌, ◌≤◌, ℤ, true, List, [], ◌∷◌, ◌++◌, drop, length, get_or, add-one, Option, Some, None, IfSome, arith}
use Rattle.std.proofs.lemmas.Bool.Decides.{nat_tests}
use Rattle.std.proofs.lemmas.List.{drop-drop}
use Rattle.std.proofs.Math.Seq.{drop-cons}
use Rattle.postscript_base.specs.Tape.Outcome.{Got}
use Rattle.postscript_type2.specs.Number.{number}
use Rattle.postscript_type2.specs.Program.Parsing.{is_number}
use Rattle.postscript_variable.specs.State.{Font, State, stacked, pushed, stack_limit}
use Rattle.postscript_variable.specs.Evaluation.{Run, with_step}
use Rattle.postscript_variable.specs.Limit.{Spends, nothing}
use Rattle.postscript_variable.specs.Private.Numbers.{IsNumberAt, PutsNumbers, none, one_more}
use Rattle.postscript_variable.specs.Private.Remaining.{still, still_number}
use Rattle.postscript_variable.specs.Tokens.{Number, token}
use Rattle.postscript_variable.proofs.Limit.{paid}
use Rattle.postscript_variable.proofs.Reading.{number-read}
use Rattle.postscript_variable.proofs.Remains.{still-number}

-- the byte that stands at a place, before those behind it
pub front-of : (code : List ℕ) (place : ℕ) → place < length code → drop place code ≡ get_or code place 0 ∷ drop (place + 1) code
front-of code place room = drop-cons code place 0 room ∙ ap (λ i. get_or code place 0 ∷ drop i code) (sym (add-one place))

-- a number that is read at a place
behind-first : (place more next : ℕ) → next ≡ place + 1 + more → next ≡ place + suc more
behind-first place more next is = omega (arith, is)

pub number-there : (first : ℕ) (code : List ℕ) (place : ℕ) (r : Option (ℤ × ℕ)) → place < length code →
    drop place code ≡ first ∷ drop (place + 1) code →
    is_number first ≡ true → IfSome r (λ read. number code place ≡ Got read.0 read.1) → IfSome r
    (λ read. IsNumberAt (drop place code) place read.0 read.1)
number-there first code place None room front is found = tt
number-there first code place (Some read) room front is found =
    let there = number-read first code place read.0 read.1 room front is found in
    (first, drop (place + 1) code, there.0, front, there.1, behind-first place there.0 read.1 there.2)

-- one more is put onto the stack
put-front : (bytes rest : List ℕ) (stack between : List ℤ) (limit left after : ℕ) (x : ℤ) (first more : ℕ) (behind : List ℕ) →
    PutsNumbers bytes stack limit rest between left →
    rest ≡ first ∷ behind → token first behind ≡ Number x more → length between < stack_limit → 0 < left → after ≡ left - suc more →
    PutsNumbers bytes stack limit (drop (suc more) rest) (between ++ x ∷ []) after
put-front bytes rest stack between limit left after x first more behind puts front is room some pays =
    subst (λ n. PutsNumbers bytes stack limit (drop (suc more) rest) (between ++ x ∷ []) n) (sym pays)
    (subst (λ r. PutsNumbers bytes stack limit (drop (suc more) r) (between ++ x ∷ []) (left - suc more)) (sym front)
    (one_more first behind between left x more (subst (λ r. PutsNumbers bytes stack limit r between left) front puts) is room some))

pub put-more : (code bytes : List ℕ) (place next : ℕ) (stack between : List ℤ) (limit left after : ℕ) (x : ℤ) →
    PutsNumbers bytes stack limit (drop place code) between left →
    IsNumberAt (drop place code) place x next → length between < stack_limit → 0 < left → after ≡ left - (next - place) →
    PutsNumbers bytes stack limit (drop next code) (between ++ x ∷ []) after
put-more code bytes place next stack between limit left after x puts is room some pays =
    let there = is.5 in
    let onward : drop (suc is.2) (drop place code) ≡ drop next code = drop-drop (suc is.2) place code ∙ ap (λ k. drop k code) (sym there) in
    subst (λ r. PutsNumbers bytes stack limit r (between ++ x ∷ []) after) onward
    (put-front bytes (drop place code) stack between limit left after x is.0 is.2 is.1 puts is.3 is.4 room some
    (omega (arith, pays, there)))

-- what is still answered behind a number that has room
roomy : (font : Font) (depth : ℕ) (behind : List ℕ) (cs : List (List ℕ)) (st : State) (cost : ℕ) (x : ℤ) → length st.stack < stack_limit →
    still_number font depth behind cs st cost x ≡ with_step cost (still font depth behind cs (pushed x st))
roomy font depth behind cs st cost x h = grind (arith, nat_tests)

positive : (n : ℕ) → 0 < n → n ≢ 0
positive n h = omega (arith, h)

-- what is passed answers nothing, and is paid
pub passes : {bytes : List ℕ} {stack : List ℤ} {limit : ℕ} {rest : List ℕ} {stack' : List ℤ} {left : ℕ} (font : Font) (depth : ℕ)
    (cs : List (List ℕ)) (st : State) → PutsNumbers bytes stack limit rest stack' left →
    ((still font depth rest cs (stacked stack' st)).answers ≡ (still font depth bytes cs (stacked stack st)).answers) ×
    ((still font depth rest cs (stacked stack' st)).end ≡ (still font depth bytes cs (stacked stack st)).end) ×
    Spends limit (still font depth bytes cs (stacked stack st)).costs left
    (still font depth rest cs (stacked stack' st)).costs × (left ≤ limit) ×
    (length (still font depth rest cs (stacked stack' st)).costs ≤ length (still font depth bytes cs (stacked stack st)).costs)
passes font depth cs st none = (refl, refl, nothing, omega arith, omega arith)
passes font depth cs st (one_more first behind between left x more before is room some) =
    let so_far = passes font depth cs st before in
    let here = still-number font depth first behind cs (stacked between st) x more is
    ∙ roomy font depth (drop more behind) cs (stacked between st) (suc more) x room in
    let fewer = ap (λ (run : Run). length run.costs) here in (
      sym (ap (λ (run : Run). run.answers) here) ∙ so_far.0,
      sym (ap (λ (run : Run). run.end) here) ∙ so_far.1,
      paid so_far.2 (positive left some) here (omega arith) refl,
      omega (arith, so_far.3),
      omega (arith, so_far.4, fewer),
    )

-- nothing is passed yet
pub nothing-passed : {bytes : List ℕ} {stack : List ℤ} (place limit : ℕ) → PutsNumbers bytes stack limit bytes stack limit →
    PutsNumbers bytes stack limit bytes stack (limit - (place - place))
nothing-passed {bytes} {stack} place limit puts =
    let same : limit ≡ limit - (place - place) = omega arith in subst (PutsNumbers bytes stack limit bytes stack) same puts
