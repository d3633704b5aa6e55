-- How sinks receive segments, one after another.
use Rattle.std.proofs.Common.{◌≡◌, ℕ, List, [], ◌∷◌, ◌++◌, ◌+◌, ◌<◌, add-one, append_assoc, append-nil, ap, ap₂, fold, get_or, length, refl, subst, sym, take, ◌∙◌}
use Rattle.std.proofs.Math.Seq.{take-suc}
use Rattle.std.specs.List.{flat_map}
use Rattle.postscript_outline.specs.Sinks.{Receives}
use Rattle.postscript_outline.specs.declared.segment.Segment.{Segment}

-- some, and others behind them
pub received-both : {T : Type 0} (after : T → Segment → T → Type 0) (old between new : T) (these those : List Segment) →
    Receives after old these between → Receives after between those new → Receives after old (these ++ those) new
received-both after old between new [] those first next = subst (λ t. Receives after t those new) first next
received-both after old between new (segment ∷ these) those first next =
    (first.0, first.1, received-both after first.0 between new these those first.2 next)

-- one more
pub received-more : {T : Type 0} (after : T → Segment → T → Type 0) (old between new : T) (these : List Segment) (segment : Segment) →
    Receives after old these between → after between segment new → Receives after old (these ++ segment ∷ []) new
received-more after old between new these segment first next =
    received-both after old between new these (segment ∷ []) first (new, next, refl)

-- of all, so many and one more
pub received-next : {T : Type 0} (after : T → Segment → T → Type 0) (old between new : T) (all : List Segment) (i : ℕ) (d : Segment) →
    i < length all → Receives after old (take i all) between → after between (get_or all i d) new →
    Receives after old (take (i + 1) all) new
received-next after old between new all i d lt first next =
    subst (λ v. Receives after old v new) (sym (ap (λ n. take n all) (add-one i) ∙ take-suc all i d lt))
    (received-more after old between new (take i all) (get_or all i d) first next)

-- what each segment determines is folded over them all
pub folded : {T : Type 0} (step : T → Segment → T) (old : T) (segments : List Segment) →
    Receives (λ t segment next. next ≡ step t segment) old segments (fold step old segments)
folded step old [] = refl
folded step old (segment ∷ segments) = (step old segment, refl, folded step (step old segment) segments)

-- a list that has received segments holds them behind what it held
pub list-received : (segments old new : List Segment) → Receives (λ xs segment next. next ≡ xs ++ segment ∷ []) old segments new →
    new ≡ old ++ segments
list-received [] old new is = is ∙ sym (append-nil old)
list-received (segment ∷ segments) old new is =
    list-received segments is.0 new is.2 ∙ (ap (λ v. v ++ segments) is.1 ∙ append_assoc old (segment ∷ []) segments)

-- and a text what is written of each
pub text-received : (of : Segment → List ℕ) (segments : List Segment) (old new : List ℕ) →
    Receives (λ text segment next. next ≡ text ++ of segment) old segments new → new ≡ old ++ flat_map of segments
text-received of [] old new is = is ∙ sym (append-nil old)
text-received of (segment ∷ segments) old new is =
    text-received of segments is.0 new is.2
    ∙ (ap (λ v. v ++ flat_map of segments) is.1 ∙ append_assoc old (of segment) (flat_map of segments))

-- a pair has received what each of the two has
pub each-received : (S E : Type 0) (after : S → Segment → S → Type 0) (and : E → Segment → E → Type 0) (segments : List Segment)
    (old new : S × E) →
    Receives (λ old segment new. after old.0 segment new.0 × and old.1 segment new.1) old segments new → Receives after old.0 segments
    new.0 × Receives and old.1 segments new.1
each-received S E after and [] old new is = (ap (λ both. both.0) is, ap (λ both. both.1) is)
each-received S E after and (segment ∷ segments) old new is =
    let rest = each-received S E after and segments is.0 new is.2 in ((is.0.0, is.1.0, rest.0), (is.0.1, is.1.1, rest.1))

pub pair-received : (S E : Type 0) (after : S → Segment → S → Type 0) (and : E → Segment → E → Type 0) (segments : List Segment)
    (old new : S × E) →
    Receives after old.0 segments new.0 × Receives and old.1 segments new.1 → Receives
    (λ old segment new. after old.0 segment new.0 × and old.1 segment new.1) old segments new
pair-received S E after and [] old new is = ap₂ (λ one other. (one, other)) is.0 is.1
pair-received S E after and (segment ∷ segments) old new is =
    ((is.0.0, is.1.0), (is.0.1, is.1.1), pair-received S E after and segments (is.0.0, is.1.0) new (is.0.2, is.1.2))
