-- What a step of a program tells of its drawing.
use Rattle.std.proofs.Common.{◌≡◌, ◌⊎◌, inl, inr, ℕ, List, [], Result, Ok, Err, subst, sym, ◌∙◌}
use Rattle.postscript_base.specs.RefusalOf.{refusal_of}
use Rattle.postscript_base.specs.declared.error.Error.{Error as Cause}
use Rattle.postscript_base.specs.declared.error.Error.TheVariants as causes
use Rattle.postscript_drawing.specs.DrawnProgram.{IsUndrawn, IsWanting}
use Rattle.postscript_drawing.specs.declared.error.Error.TheVariants as errors
use Rattle.postscript_drawing.specs.declared.pen.Pen.{Pen}
use Rattle.postscript_drawing.proofs.DrawsLaws.{SoFar}
use Rattle.postscript_drawing.proofs.ProgramLaws.{IsSound, used_up, at-fault, pen_at, strokes_of}
use Rattle.postscript_outline.specs.declared.point.Point.{Point}
use Rattle.postscript_outline.specs.declared.segment.Segment.{Segment}
use Rattle.postscript_type2.specs.declared.program.within.Within.{Within}
use Rattle.postscript_type2.specs.declared.program.within.Within.TheVariants.{End as AtEnd}
use Rattle.postscript_type2.specs.Program.Runs.{Answer, End, Fault}
use Rattle.postscript_variable.specs.Programs.{Pending}
use Rattle.postscript_variable.specs.Within.{IsHeadWithin, StepsWithin}

pub at-end : (old new : Pending) (limit left : ℕ) {answer : Result Within Cause} → answer ≡ Ok AtEnd →
    StepsWithin old limit answer new left → (old.answers ≡ []) × IsSound old.end
at-end old new limit left is steps =
    let step = subst (λ (r : Result Within Cause). StepsWithin old limit r new left) is steps in
    (step.0.0, subst IsSound (sym step.0.1) used_up)

-- where a step is refused so is the program
pub step-refused : {T : Type 0} {after : T → Segment → T → Type 0} {refuses : T → Type 0} {origin : Point} {old now : T} {pen : Pen}
    (answers : List Answer) (end : End) (wanting : ℕ)
    (program : Pending) (cause : Cause) {answer : Result Within Cause} → answer ≡ Err cause → IsHeadWithin program
    answer → program.end ≡ end →
    SoFar after refuses (strokes_of answers) (strokes_of program.answers) (pen_at origin) old pen now →
    IsWanting wanting (errors.Font cause) ⊎ IsUndrawn origin (errors.Font cause) answers end
step-refused {T} {after} {refuses} {origin} {old} {now} {pen} answers end wanting program cause is head same far =
    by_head (subst (λ (r : Result Within Cause). IsHeadWithin program r) is head)
  where
    by_head : (cause ≡ causes.Memory) ⊎ ((program.answers ≡ []) × (program.end ≡ Fault (refusal_of cause))) →
        IsWanting wanting (errors.Font cause) ⊎ IsUndrawn origin (errors.Font cause) answers end
    by_head (inl memory) = inl memory
    by_head (inr fault) = inr (at-fault answers program.answers end cause fault.0 (sym same ∙ fault.1) far)
