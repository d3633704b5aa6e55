-- What a list of C's segments means with one more.
use Rattle.std.proofs.Common.{◌≡◌, refl, ap, ◌∙◌, List, [], ◌∷◌, ◌++◌, map}
use Rattle.std.proofs.lemmas.List.{map-append}
use Rattle.postscript_c.specs.declared.fill.PsfSegment.{PsfSegment}
use Rattle.postscript_c.specs.Segments.{meant, shown}
use Rattle.postscript_outline.proofs.Receiving.{list-received}
use Rattle.postscript_outline.specs.Sinks.{Receives}
use Rattle.postscript_outline.specs.declared.segment.Segment.{Segment}
use Rattle.postscript_outline.specs.declared.segment.Segment.TheVariants.{MoveTo, LineTo, CurveTo, Close}

-- C's segment means what it was made of
means : (segment : Segment) → meant (shown segment) ≡ segment
means (MoveTo p) = refl
means (LineTo p) = refl
means (CurveTo a b c) = refl
means Close = refl

pub given : (segments : List PsfSegment) (segment : Segment) →
    map meant (segments ++ shown segment ∷ []) ≡ map meant segments ++ segment ∷ []
given segments segment = map-append meant segments (shown segment ∷ []) ∙ ap (λ last. map meant segments ++ last ∷ []) (means segment)

-- a list that was empty and has been given segments, one after another, is these
pub all-given : (xs new given : List Segment) → xs ≡ [] → Receives (λ old segment next. next ≡ old ++ segment ∷ []) xs given new →
    new ≡ given
all-given xs new given none is = list-received given xs new is ∙ ap (λ ys. ys ++ given) none
