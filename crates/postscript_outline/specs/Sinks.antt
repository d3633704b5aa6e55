-- Sinks, which receive segments.
use Rattle.std.specs.Prelude.{◌≡◌, ◌↔◌, List, [], ◌∷◌, ◌++◌}
use Rattle.postscript_outline.specs.declared.segment.Segment.{Segment}

-- A sink has received segments, one after another. `after` relates its states before and after each.
abbrev pub Receives : {T : Type 0} (after : T → Segment → T → Type 0) (old : T) (segments : List Segment) (new : T) → Type 0
Receives after old [] new = new ≡ old
Receives {T} after old (segment ∷ segments) new = (next : T) × after old segment next × Receives after next segments new

-- A sink has received some first ones of these segments, one after another, and no others.
pub record Took {T : Type 0} (after : T → Segment → T → Type 0) (old : T) (segments : List Segment) (new : T) : Type 0 where
  pub taken : List Segment
  pub rest : List Segment
  pub all : segments ≡ taken ++ rest
  pub is : Receives after old taken new

-- A law: a list that has received segments in order is the old list followed by them.
abbrev pub ListsTakeInSegments : Type 0
ListsTakeInSegments = (segments old new : List Segment) → Receives (λ xs segment next. next ≡ xs ++ segment ∷ []) old segments new →
    new ≡ old ++ segments

-- A law: a pair of sinks has received segments exactly if each of the two has.
abbrev pub PairsTakeInAsEach : {S E : Type 0} (after : S → Segment → S → Type 0) (and : E → Segment → E → Type 0) → Type 0
PairsTakeInAsEach {S} {E} after and =
    (segments : List Segment) (old new : S × E) →
    Receives (λ old segment new. after old.0 segment new.0 × and old.1 segment new.1) old segments new
    ↔ (Receives after old.0 segments new.0 × Receives and old.1 segments new.1)
