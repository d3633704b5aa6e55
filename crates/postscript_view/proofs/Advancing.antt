-- Advances by the run of a glyph.
use Rattle.std.proofs.Common.{◌≡◌, sym, ap, subst, ◌∙◌, inl, inr, ◌⊎◌, ℕ, ℤ, List, [], slice_get, Result, Ok, Err, Option, Some, None}
use Rattle.std.specs.Prelude.{IfErr, IfOk}
use denote.Ref.{Bor}
use Rattle.postscript_base.specs.Index.Lent.{items_of}
use Rattle.postscript_base.specs.RefusalOf.{refusal_of}
use Rattle.postscript_base.specs.declared.error.Error.{Error}
use Rattle.postscript_base.specs.declared.error.Error.TheVariants as errors
use Rattle.postscript_type2.specs.declared.operation.Operator.{Operator}
use Rattle.postscript_type2.specs.declared.program.within.Within.{Within}
use Rattle.postscript_type2.specs.declared.program.within.Within.TheVariants.{Operation}
use Rattle.postscript_type2.specs.Program.Evaluation.{run_of}
use Rattle.postscript_type2.specs.Program.Limit.{Spends}
use Rattle.postscript_type2.specs.Program.Programs.{Pending}
use Rattle.postscript_type2.specs.Program.Routines.{lent}
use Rattle.postscript_type2.specs.Program.Runs.{Phrase, Run, fault_of, last_width, width_of}
use Rattle.postscript_type2.specs.Program.Within.{StepsWithin}
use Rattle.postscript_view.specs.Advances.{advance_of, HasRun, outcome_of, PaysPhrases, TellsAdvance, TellsGlyph}
use Rattle.postscript_view.specs.Glyphs.{IsPartNumber}
use Rattle.postscript_view.specs.declared.advance.Advance.{Advance}
use Rattle.postscript_view.specs.declared.advance.AdvanceWithin.{AdvanceWithin}
use Rattle.postscript_view.specs.declared.font.FontView.{FontView}
use Rattle.postscript_view.specs.declared.private_dict.PrivateDict.{PrivateDict}
use Rattle.postscript_view.proofs.Limiting.{goes-on}
use Rattle.postscript_view.proofs.Selecting.{one_named}

-- the last width stays at an operation
pub width-stays : (old new : Pending) (limit left : ℕ) {answer : Result Within Error} {op : Operator} {operands : Bor (List ℤ)} →
    answer ≡ Ok (Operation op operands) → StepsWithin old limit answer new left →
    last_width new.width new.answers ≡ last_width old.width old.answers
width-stays old new limit left {answer} {op} {operands} is steps =
    let step = subst (λ (r : Result Within Error). StepsWithin old limit r new left) is steps in
    sym (ap (last_width old.width) step.0.0.1)

-- what is paid where it is refused
pub pays-refusal : {first : ℕ} {phrases : List Phrase} (old new : Pending) {limit left : ℕ} {answer : Result Within Error} {e : Error} →
    answer ≡ Err e → StepsWithin old limit answer new left → Spends first phrases limit old.trace → PaysPhrases phrases first (Err e) left
pays-refusal {first} {phrases} old new {limit} {left} {answer} {e} is steps paid =
    let step = subst (λ (r : Result Within Error). StepsWithin old limit r new left) is steps in
    (step.1.0, goes-on first phrases limit old.trace left step.1.0 paid step.1.1, step.1.2)

-- what is paid where it ends
pub pays : (advance : Option Advance) {limit left : ℕ} {phrases : List Phrase} → Spends limit phrases left [] →
    PaysPhrases phrases limit (Ok (outcome_of advance)) left
pays (Some advance) {limit} {left} {phrases} paid = paid
pays None {limit} {left} {phrases} paid = paid

-- what is told of the run of a glyph is told of the glyph
pub told-so : (r : Result AdvanceWithin Error) (font : FontView) (i : ℕ) (part : PrivateDict) (run : Run) → HasRun font i part run →
    IfOk r (TellsAdvance (advance_of part.dictionary (width_of run)) run.end) → IfOk r (λ told. TellsGlyph font i told)
told-so (Ok told) font i part run has h = inr (part, run, has, h)
told-so (Err e) font i part run has h = tt

pub refused-so : (r : Result AdvanceWithin Error) (font : FontView) (i : ℕ) (part : PrivateDict) (run : Run) → HasRun font i part run →
    IfErr r (λ e. (e ≡ errors.Memory) ⊎ (fault_of run.end ≡ Some (refusal_of e)))
    → IfErr r (λ e. (e ≡ errors.Memory) ⊎ ((part : PrivateDict) × (run : Run) × HasRun font i part
    run × (fault_of run.end ≡ Some (refusal_of e))))
refused-so (Ok told) font i part run has h = tt
refused-so (Err e) font i part run has (inl memory) = inl memory
refused-so (Err e) font i part run has (inr fault) = inr (part, run, has, fault)

-- a glyph has one part and one run
one-value : {A : Type 0} → (o : Option A) (a b : A) → o ≡ Some a → o ≡ Some b → a ≡ b
one-value o a b is was = let both : Some a ≡ Some b = sym is ∙ was in cc

one-number : (font : FontView) (glyph a b : ℕ) → IsPartNumber font glyph a → IsPartNumber font glyph b → a ≡ b
one-number font glyph a b (inl x) (inl y) = x.1 ∙ sym y.1
one-number font glyph a b (inl x) (inr y) = absurd (y.0 x.0)
one-number font glyph a b (inr x) (inl y) = absurd (x.0 y.0)
one-number font glyph a b (inr x) (inr y) = one_named font.bytes.now font.dictionary _ glyph a b x.1 y.1

pub one-run : (font : FontView) (glyph : ℕ) (p q : PrivateDict) (run other : Run) → HasRun font glyph p run → HasRun font glyph q other →
    run ≡ other
one-run font glyph p q run other a b =
    let number = one-number font glyph a.has.number b.has.number a.has.has_number.selected b.has.has_number.selected in
    let part = one-value _ p q (subst (λ n. slice_get font.parts.items n ≡ Some p) number a.has.has_part) b.has.has_part in
    let code = one-value _ a.code b.code a.has.has_code b.has.has_code in
    a.runs ∙ ap (λ (p : PrivateDict). run_of (lent (items_of font.global_subroutines) (items_of p.subroutines)) a.code) part
    ∙ ap (λ code. run_of (lent (items_of font.global_subroutines) (items_of q.subroutines)) code) code ∙ sym b.runs
