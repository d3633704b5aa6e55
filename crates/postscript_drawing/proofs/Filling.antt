-- A sink that was full: it has received all segments but the last.
use Rattle.std.proofs.Common.{◌≡◌, true, false, List, [], ◌∷◌, ◌++◌, refl, ap, ◌∙◌}
use Rattle.postscript_outline.specs.declared.segment.Segment.{Segment}
use Rattle.postscript_outline.specs.Sinks.{Receives}
use Rattle.postscript_outline.proofs.Receiving.{received-more}
use Rattle.postscript_drawing.specs.Outcome.{OrFull}

-- it was not full yet
pub received-before : {T : Type 0} (after : T → Segment → T → Type 0) (old new : T) (segments : List Segment) →
    Receives after old segments new → Receives (OrFull after) (old, false) segments (new, false)
received-before after old new [] is = ap (λ t. (t, false)) is
received-before after old new (segment ∷ segments) is = ((is.0, false), is.1, received-before after is.0 new segments is.2)

pub received-full : {T : Type 0} (after : T → Segment → T → Type 0) (old new : T) (segments : List Segment) (next : Segment) →
    Receives after old segments new → Receives (OrFull after) (old, false) (segments ++ next ∷ []) (new, true)
received-full after old new segments next is =
    received-more (OrFull after) (old, false) (new, false) (new, true) segments next (received-before after old new segments is) refl

-- the other way round: these segments, and the one that it did not take
pub received-but-one : {T : Type 0} (after : T → Segment → T → Type 0) (old new : T) (segments : List Segment) →
    Receives (OrFull after) (old, false) segments (new, true) →
    (taken : List Segment) × (next : Segment) × (segments ≡ taken ++ next ∷ []) × Receives after old taken new
received-but-one after old new [] is = let marked : true ≡ false = ap (λ t. t.1) is in absurd (cc)
received-but-one after old new (segment ∷ []) ((next, true), same, is) = ([], segment, refl, ap (λ t. t.0) is ∙ same)
received-but-one after old new (segment ∷ more ∷ rest) ((next, true), same, is) = absurd is.1
received-but-one after old new (segment ∷ segments) ((next, false), is, rest) =
    let behind = received-but-one after next new segments rest in
    (segment ∷ behind.0, behind.1, ap (λ v. segment ∷ v) behind.2, (next, is, behind.3))
