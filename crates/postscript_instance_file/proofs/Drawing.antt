-- What the drawing of a glyph says about its cost and its error.
use Rattle.std.proofs.Common.{◌≡◌, ◌⊎◌, inl, inr, refl, sym, ap, subst, ◌∙◌, Bool, true, false, ℕ, ◌+◌, ◌-◌, ◌<◌, ◌≤◌, List, [], ◌∷◌, ◌++◌, length, append-nil, Ok, arith}
use Rattle.std.proofs.lemmas.List.{length-append}
use Rattle.postscript_cff2.specs.Parts.{HasPart, PrivateDict}
use Rattle.postscript_cff2.specs.Shown.{view_shown}
use Rattle.postscript_drawing.proofs.Filling.{received-but-one}
use Rattle.postscript_drawing.specs.Outcome.{OrFull}
use Rattle.postscript_drawing.specs.declared.error.Error.{Error}
use Rattle.postscript_drawing.specs.declared.error.Error.TheVariants as drawing
use Rattle.postscript_instance_file.specs.Glyphs.{DrawsSegments, HasCost}
use Rattle.postscript_instance_file.specs.declared.face.VariableFace.{VariableFace}
use Rattle.postscript_instance_file.specs.declared.location.Location.{Location}
use Rattle.postscript_outline.proofs.Receiving.{each-received, received-more}
use Rattle.postscript_outline.specs.Sinks.{Receives}
use Rattle.postscript_outline.specs.declared.segment.Segment.{Segment}
use Rattle.postscript_variable.proofs.Limit.{spent}
use Rattle.postscript_variable.specs.Charstrings.{run_from}
use Rattle.postscript_variable.specs.Limit.{Spends, cost}
use Rattle.postscript_variable_font.specs.Drawn.{Gives}
use Rattle.postscript_variable_font.specs.GlyphDrawings.{DrawsGlyph, GivesGlyphFirst, IsGlyphUndrawn, SpendsOnGlyph, SufficesFor}

-- what is left after all costs
spent-all : (limit : ℕ) (costs : List ℕ) (left : ℕ) → Spends limit costs left [] → left ≡ limit - cost costs
spent-all limit costs left spends =
    let all = spent limit costs left [] spends in
    let whole : costs ≡ all.0 = all.1 ∙ append-nil all.0 in
    all.2 ∙ ap (λ xs. limit - cost xs) (sym whole)

-- without a limit there are no costs
free : (limit : ℕ) (costs : List ℕ) (left : ℕ) → Spends limit costs left [] → (cost costs ≡ 0) ⊎ (0 < limit)
free limit costs left spends =
    let all = spent limit costs left [] spends in
    let whole : costs ≡ all.0 = all.1 ∙ append-nil all.0 in
    elim all.3 [
      | inl empty ↦ inl (ap cost (whole ∙ empty))
      | inr some ↦ inr (omega (arith, some.3))
    ]

-- a glyph that is drawn has a cost, which is paid
pub paid : {T A : Type 0} (after : T → Segment → T → Type 0) (old new : T) (face : VariableFace) (location : Location) (glyph limit left : ℕ)
    (value : A) → Gives after old new (DrawsGlyph face.font glyph location.place) →
    SpendsOnGlyph face.font glyph location.place limit left (Ok value) →
    (price : ℕ) × HasCost face location glyph price × (left ≡ limit - price) × ((price ≡ 0) ⊎ (0 < limit))
paid after old new face location glyph limit left value gives spends =
    elim spends [
      | inl none ↦ absurd (none.0 gives.drawn.1.part gives.drawn.1.has)
      | inr some ↦
          let costs : List ℕ = (run_from some.0).costs in
          (cost costs, (some.0, some.1, refl), spent-all limit costs left some.2, free limit costs left some.2)
    ]

-- a glyph whose run does not end within a limit costs the limit or more
pub too_long : (face : VariableFace) (location : Location) (glyph limit left : ℕ) →
    IsGlyphUndrawn face.font glyph location.place left drawing.TooLong →
    (SufficesFor face.font glyph location.place limit → ⊥) → (price : ℕ) × HasCost face location glyph price × (limit ≤ price)
too_long face location glyph limit left why lacks =
    elim why [
      | inl none ↦ let is = none.0 in absurd (cc)
      | inr some ↦
          let price : ℕ = cost (run_from some.0).costs in
          let less : price < limit → ⊥ = λ h. lacks (some.0, some.1, h) in
          (price, (some.0, some.1, refl), omega (arith, less))
    ]

-- a glyph that is not found has no well-formed Font DICT
pub missing : (face : VariableFace) (location : Location) (glyph left : ℕ) (e : Error) (number : ℕ) →
    IsGlyphUndrawn face.font glyph location.place left e → e ≡ drawing.NoSuchGlyph number → (part : PrivateDict) →
    HasPart face.font.bytes.now (view_shown face.font) glyph part → ⊥
missing face location glyph left e number why is =
    let why = rw is at why in
    elim why [
      | inl none ↦ none.1
      | inr some ↦ elim some.2 [ inl never ↦ absurd never | inr fails ↦ let other = fails.is in absurd (cc) ]
    ]

-- what no segment changes stays
same : (segments : List Segment) (old new : ℕ) → Receives (λ before segment after. after ≡ before) old segments new → new ≡ old
same [] old new is = is
same (segment ∷ segments) old new is = same segments is.0 new is.2 ∙ is.1

-- a full list has as many segments of the glyph as it may have, and the glyph draws one more
pub filled : (face : VariableFace) (location : Location) (glyph : ℕ) (old new : List Segment × ℕ) →
    GivesGlyphFirst {T = (List Segment × ℕ) × Bool} (OrFull (λ old segment new. (new.0 ≡ old.0 ++ segment ∷ []) × (new.1 ≡ old.1)))
    (old, false) (new, true) face.font glyph location.place →
    old.0 ≡ [] → new.1 ≤ length new.0 → (new.1 ≡ old.1) × DrawsSegments face location glyph (new.1 + 1)
filled face location glyph old new more empty full =
    elim more [
      | inl none ↦
          let marked : true ≡ false = ap (λ t. t.1) none.1 in
          absurd (cc)
      | inr some ↦
          let first = some.2 in
          let but =
          received-but-one {T = List Segment × ℕ} (λ old segment new. (new.0 ≡ old.0 ++ segment ∷ []) × (new.1 ≡ old.1)) old new first.given first.taken in
          let each =
          each-received (List Segment) ℕ (λ xs segment next. next ≡ xs ++ segment ∷ []) (λ before segment after. after ≡ before) but.0 old new
          but.3 in
          let all = received-more {T = List Segment} (λ xs segment next. next ≡ xs ++ segment ∷ []) old.0 new.0 (new.0 ++ but.1 ∷ []) but.0 but.1 each.0 refl in (
            same but.0 old.1 new.1 each.1,
            (
              some.0,
              new.0 ++ but.1 ∷ [],
              some.1,
              record {
                first = first.first;
                rest = first.rest;
                parts = first.parts;
                to = first.to;
                draws = first.draws;
                given = first.given;
                front = first.front;
                taken =
                    subst (λ (xs : List Segment). Receives (λ xs segment next. next ≡ xs ++ segment ∷ []) xs first.given (new.0 ++ but.1 ∷ [])) empty
                    (subst (λ (segments : List Segment). Receives (λ xs segment next. next ≡ xs ++ segment ∷ []) old.0 segments (new.0 ++ but.1 ∷ [])) (sym but.2) all);
              },
              omega (arith, full, length-append new.0 (but.1 ∷ [])),
            ),
          )
    ]
