-- A limit that is spent on runs of glyphs.
use Rattle.std.proofs.Common.{◌≡◌, ◌≢◌, ◌∙◌, ◌-◌, ◌<◌, arith, ℕ, zero, suc, ℤ, Option, Some, List, [], ◌∷◌, ◌++◌, Result, Ok, Err, append_assoc, append-nil, ap, inl, inr, refl, subst, sym}
use Rattle.postscript_drawing.specs.DrawnProgram.{IsSpent}
use Rattle.postscript_drawing.specs.declared.error.Error.{Error}
use Rattle.postscript_drawing.specs.declared.error.Error.TheVariants.{TooLong}
use Rattle.postscript_type2.specs.Program.Limit.{cost, Spends, nothing, one_more}
use Rattle.postscript_type2.proofs.Limit.{lasts}
use Rattle.postscript_type2.specs.Program.Runs.{Phrase, Run}
use Rattle.postscript_view.specs.Advances.{HasRun}
use Rattle.postscript_view.specs.declared.font.FontView.{FontView}
use Rattle.postscript_view.specs.declared.private_dict.PrivateDict.{PrivateDict}
use Rattle.std.specs.Prelude.{IfOk, IsErrAnd, OnOk}
use Rattle.postscript_drawing.specs.Components.{IsComponent}
use Rattle.postscript_drawing.specs.Accents.{IsTold}
use Rattle.postscript_drawing.specs.declared.accent.Accent.{Accent}
use Rattle.postscript_drawing.specs.declared.glyph.Own.{Own}
use Rattle.postscript_drawing.specs.Spending.{AreOfRuns, PaysCode, PaysComponents, PaysOwn, SpendsOnCode, SpendsOnOwn, SpendsOnRuns, SufficesFor, SufficesForCode, SufficesForComponents}

-- a drawing has spent the limit on its phrases, whatever it comes to
pub spent : (limit left : ℕ) (phrases : List Phrase) (r : Result (Option ℤ) Error) → IsSpent limit phrases left r →
    (rest : List Phrase) × Spends limit phrases left rest
spent limit left phrases (Ok width) h = ([], h)
spent limit left phrases (Err e) h = h

-- phrases behind those to be run
before-more : (limit : ℕ) (phrases : List Phrase) (left : ℕ) (rest more : List Phrase) → Spends limit phrases left rest →
    Spends limit (phrases ++ more) left (rest ++ more)
before-more limit phrases left rest more nothing = nothing
before-more limit phrases left rest more (one_more before said behind spends is_left costs) =
    one_more before said (behind ++ more) (before-more limit phrases before (said ∷ behind) more spends) is_left costs

-- those that were run are at the front, and are paid
at-front : (limit : ℕ) (phrases : List Phrase) (left : ℕ) (rest : List Phrase) → Spends limit phrases left rest →
    (first : List Phrase) × (phrases ≡ first ++ rest) × Spends limit first left []
at-front limit phrases left rest nothing = ([], refl, nothing)
at-front limit phrases left rest (one_more before said behind spends is_left costs) =
    let all = at-front limit phrases before (said ∷ rest) spends in (
      all.0 ++ said ∷ [],
      all.1 ∙ sym (append_assoc all.0 (said ∷ []) rest),
      one_more before said [] (before-more limit all.0 before [] (said ∷ []) all.2) is_left costs,
    )

-- what is left is spent on
goes-on : (limit : ℕ) (phrases : List Phrase) (left : ℕ) (rest : List Phrase) (last : ℕ) (end : List Phrase) →
    Spends limit phrases left rest → Spends left rest last end → Spends limit phrases last end
goes-on limit phrases left rest last end first nothing = first
goes-on limit phrases left rest last end first (one_more before said behind spends is_left costs) =
    one_more before said end (goes-on limit phrases left rest before (said ∷ end) first spends) is_left costs

-- more runs at most
wider : (font : FontView) (count : ℕ) (phrases : List Phrase) → AreOfRuns font count phrases → AreOfRuns font (suc count) phrases
wider font zero phrases none = inl none
wider font (suc more) phrases (inl none) = inl none
wider font (suc more) phrases (inr (glyph, part, run, first, rest, others, has, trace, is, behind)) =
    inr (glyph, part, run, first, rest, others, has, trace, is, wider font more others behind)

-- phrases of a run, and then of others
joined : (font : FontView) (more : ℕ) (first second : List Phrase) → AreOfRuns font 1 first → AreOfRuns font more second →
    AreOfRuns font (suc more) (first ++ second)
joined font more first second (inl none) behind =
    subst (λ xs. AreOfRuns font (suc more) (xs ++ second)) (sym none) (wider font more second behind)
joined font more first second (inr (glyph, part, run, front, rest, others, has, trace, is, none)) behind =
    inr (
      glyph,
      part,
      run,
      front,
      rest,
      second,
      has,
      trace,
      ap (λ xs. xs ++ second) (is ∙ ap (λ xs. front ++ xs) none ∙ append-nil front),
      behind,
    )

pub nothing-spent : (font : FontView) (count limit : ℕ) → SpendsOnRuns font (suc count) limit limit
nothing-spent font count limit = ([], inl refl, nothing)

pub spends-both : (font : FontView) (more limit middle left : ℕ) → SpendsOnRuns font 1 limit middle → SpendsOnRuns font more middle left →
    SpendsOnRuns font (suc more) limit left
spends-both font more limit middle left first second = (
  first.0 ++ second.0,
  joined font more first.0 second.0 first.1 second.1,
  goes-on limit (first.0 ++ second.0) middle second.0 left [] (before-more limit first.0 middle [] second.0 first.2) second.2,
)

-- fewer runs
pub spends-more : (font : FontView) (count limit left : ℕ) → SpendsOnRuns font count limit left → SpendsOnRuns font (suc count) limit left
spends-more font count limit left first = (first.0, wider font count first.0 first.1, first.2)

-- one run
pub spends-one : (font : FontView) (glyph : ℕ) (part : PrivateDict) (run : Run) (limit left : ℕ) → HasRun font glyph part run →
    (rest : List Phrase) × Spends limit run.trace left rest →
    SpendsOnRuns font 1 limit left
spends-one font glyph part run limit left has (rest, spends) =
    let front = at-front limit run.trace left rest spends in
    (front.0, inr (glyph, part, run, front.0, rest, [], has, front.1, sym (append-nil front.0), refl), front.2)

-- a run that is drawn is paid
pub pays-own : (font : FontView) (glyph : ℕ) (part : PrivateDict) (run : Run) (limit left : ℕ) (r : Result Own Error) →
    HasRun font glyph part run →
    IfOk r (λ own. IsTold own.accent run) → OnOk r (Spends limit run.trace left []) → IfOk r
    (λ own. PaysOwn font glyph own.accent limit left)
pays-own font glyph part run limit left (Ok own) has told paid = record { part = part; run = run; has = has; told = told; paid = paid }
pays-own font glyph part run limit left (Err e) has told paid = tt

-- the base is paid, and then the accent
pub pays-both : (font : FontView) (accent : Accent) (limit between left : ℕ) (r : Result (Unit {0}) Error) →
    PaysCode font accent.base limit between →
    OnOk r (PaysCode font accent.accent between left) → OnOk r (PaysComponents font accent limit left)
pays-both font accent limit between left (Ok done) first second = (between, first, second)
pays-both font accent limit between left (Err e) first second = tt

-- the glyph of a code spends what it spends by itself
pub code-spends : (font : FontView) (code glyph limit left : ℕ) → IsComponent font code glyph → SpendsOnOwn font glyph limit left →
    SpendsOnCode font code limit left
code-spends font code glyph limit left component (inl none) = inl none
code-spends font code glyph limit left component (inr some) = inr (glyph, component, some)

-- what is left where the limit is more than all phrases cost
left-is : (limit : ℕ) (phrases : List Phrase) (left : ℕ) → Spends limit phrases left [] → cost phrases < limit → left ≡ limit - cost phrases
left-is limit phrases left spends h = let more = lasts limit phrases left [] spends h in omega (arith, more.0, more.1)

-- what is left suffices for the accent
pub suffices-behind : (font : FontView) (accent : Accent) (limit between : ℕ) → SufficesForComponents font accent limit →
    PaysCode font accent.base limit between → SufficesForCode font accent.accent between
suffices-behind font accent limit between suffices (glyph, component, pays) =
    let base = suffices.base glyph component pays.part pays.run pays.has in
    subst (λ n. SufficesForCode font accent.accent n) (sym (left-is limit pays.run.trace between pays.paid base))
    (suffices.then glyph pays.part pays.run component pays.has)

-- what is left suffices for the components
pub suffices-then : (font : FontView) (glyph : ℕ) (accent : Accent) (limit between : ℕ) → SufficesFor font glyph limit →
    PaysOwn font glyph (Some accent) limit between → SufficesForComponents font accent between
suffices-then font glyph accent limit between suffices pays =
    subst (λ n. SufficesForComponents font accent n)
    (sym (left-is limit pays.run.trace between pays.paid (suffices.own pays.part pays.run pays.has)))
    (suffices.then pays.part pays.run accent pays.has pays.told)

-- an error that is passed on is not this one, where it was not
pub not-too-long : {A B : Type 0} (r : Result A Error) (e : Error) (of : Result B Error) → of ≡ Err e → IsErrAnd r (λ x. x ≡ e) →
    of ≢ Err TooLong → r ≢ Err TooLong
not-too-long (Ok x) e of is same other = absurd same
not-too-long {A} (Err x) e of is same other = λ long. let e_is : e ≡ TooLong = cc in other (is ∙ ap Err e_is)
