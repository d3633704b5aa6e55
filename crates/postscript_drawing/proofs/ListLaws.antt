-- A list as a sink: what is given stands behind what it held.
use Rattle.std.proofs.Common.{◌≡◌, ◌⊎◌, inl, inr, List, [], ◌∷◌, ◌++◌, Result, Ok, Err, sym, ap, subst, ◌∙◌}
use Rattle.postscript_base.specs.declared.error.Error.{Error}
use Rattle.postscript_base.specs.declared.error.Error.TheVariants as causes
use Rattle.postscript_base.specs.RefusalOf.{refusal_of}
use Rattle.postscript_outline.specs.declared.segment.Segment.{Segment}
use Rattle.postscript_outline.proofs.Receiving.{list-received}
use Rattle.postscript_drawing.specs.declared.pen.Pen.{Pen}
use Rattle.postscript_drawing.specs.declared.stroke.Stroke.{Stroke}
use Rattle.postscript_drawing.specs.declared.undrawn.Undrawn.{Undrawn}
use Rattle.postscript_drawing.specs.declared.undrawn.Undrawn.TheVariants.{Overflow, Full}
use Rattle.postscript_drawing.specs.Drawing.{drawing, held}
use Rattle.postscript_drawing.specs.Outcome.{DrawsStrokes, IsFront}
use Rattle.postscript_drawing.specs.Undrawn.{cause_of}
use Rattle.postscript_drawing.proofs.GivenLaws.{drawing-behind, front-of, mapped, prefixed}

abbrev pub appended : (old : List Segment) → Segment → (new : List Segment) → Type 0
appended old segment new = new ≡ old ++ segment ∷ []

pub list-drawn : {refuses : List Segment → Type 0} (strokes : List Stroke) (pen pen' : Pen) (old new : List Segment) (done : Unit {0}) →
    DrawsStrokes appended refuses strokes pen old (Ok done) pen' new →
    drawing strokes (held pen old) ≡ Ok (held pen' new)
list-drawn strokes pen pen' old new done draws =
    drawing-behind strokes (held pen old) ∙ ap (mapped (prefixed old)) draws.draws.exact
    ∙ ap (λ v. Ok (held pen' v)) (sym (list-received draws.given old new draws.taken))

pub list-refused : {refuses : List Segment → Type 0} (strokes : List Stroke) (pen pen' : Pen) (old new : List Segment) (e : Undrawn)
    (cause : Error) → cause ≡ cause_of e → DrawsStrokes appended refuses strokes pen old (Err e) pen' new →
    (cause ≡ causes.Memory) ⊎ (drawing strokes (held pen old) ≡ Err (refusal_of cause))
list-refused strokes pen pen' old new Full cause is draws = inl is
list-refused strokes pen pen' old new Overflow cause is draws =
    inr (drawing-behind strokes (held pen old) ∙ ap (mapped (prefixed old)) draws.draws.exact ∙ ap (λ c. Err (refusal_of c)) (sym is))

pub list-kept : {refuses : List Segment → Type 0} (strokes : List Stroke) (pen pen' : Pen) (old new : List Segment)
    (r : Result (Unit {0}) Undrawn) → DrawsStrokes appended refuses strokes pen old r pen' new → IsFront old new
list-kept strokes pen pen' old new r draws =
    subst (IsFront old) (sym (list-received draws.given old new draws.taken)) (front-of old draws.given)
