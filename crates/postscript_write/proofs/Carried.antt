-- What a glyph of one font draws, a glyph of another one draws, where its run and those of its components say the same.
use Rattle.std.proofs.Common.{◌≡◌, refl, sym, ap, subst, ◌∙◌, inl, inr, ℕ, ℤ, List, Option, Some, None, Result, Ok, Err}
use Rattle.std.specs.Prelude.{◌⊎◌}
use Rattle.postscript_drawing.specs.Accents.{IsAccent}
use Rattle.postscript_drawing.specs.Components.{IsComponent}
use Rattle.postscript_drawing.specs.Drawn.{DrawsAt, DrawsComponent, IsDrawnAs, zero_point}
use Rattle.postscript_drawing.specs.Refused.{IsAccented}
use Rattle.postscript_drawing.specs.declared.accent.Accent.{Accent}
use Rattle.postscript_base.specs.Refusal.{Refusal}
use Rattle.postscript_drawing.specs.Drawing.{Drawing, ◌>>=◌, blank_at, closed}
use Rattle.postscript_outline.specs.Points.{point}
use Rattle.postscript_drawing.specs.Outline.{drawing_of, finished}
use Rattle.postscript_outline.specs.declared.point.Point.{Point}
use Rattle.postscript_outline.specs.declared.segment.Segment.{Segment}
use Rattle.postscript_type2.specs.Program.Runs.{End, UsedUp, Returned, Finished, Fault, Run, fault_of, taken_by, width_of}
use Rattle.postscript_view.specs.Advances.{HasRun}
use Rattle.postscript_view.specs.declared.font.FontView.{FontView}
use Rattle.postscript_view.specs.declared.private_dict.PrivateDict.{PrivateDict}

-- Runs without fault that say the same.
pub record SameRuns (run other : Run) : Type 0 where
  pub answers : other.answers ≡ run.answers
  pub width : width_of other ≡ width_of run
  pub taken : taken_by other.end ≡ taken_by run.end
  pub faultless : fault_of run.end ≡ None
  pub other_faultless : fault_of other.end ≡ None

pub turned : (run other : Run) → SameRuns run other → SameRuns other run
turned run other s =
    record {
      answers = sym s.answers;
      width = sym s.width;
      taken = sym s.taken;
      faultless = s.other_faultless;
      other_faultless = s.faultless;
    }

-- a glyph has a run that says the same
pub record HasSame (font : FontView) (glyph : ℕ) (run : Run) : Type 0 where
  pub part : PrivateDict
  pub other : Run
  pub has : HasRun font glyph part other
  pub same : SameRuns run other

-- each run of a glyph is carried over
abbrev pub Carries : (old new : FontView) → (glyph i : ℕ) → Type 0
Carries old new glyph i = (part : PrivateDict) (run : Run) → HasRun old glyph part run → HasSame new i run

-- the glyph of a code is carried over
abbrev pub CarriesCode : (old new : FontView) → (code glyph : ℕ) → Type 0
CarriesCode old new code glyph = (i : ℕ) × IsComponent new code i × Carries old new glyph i

-- the components that a glyph names are carried over
abbrev pub CarriesComponents : (old new : FontView) → (glyph : ℕ) → Type 0
CarriesComponents old new glyph =
    (accent : Accent) (code one : ℕ) → IsAccented old glyph accent → (code ≡ accent.base) ⊎ (code ≡ accent.accent) → IsComponent old code
    one → CarriesCode old new code one

finished-same : (a b : End) (d : Drawing) → fault_of a ≡ None → fault_of b ≡ None → finished b d ≡ finished a d
finished-same a b d x y = so b y ∙ sym (so a x)
  where
    so : (e : End) → fault_of e ≡ None → finished e d ≡ Ok (closed d).segments
    so UsedUp h = refl
    so (Returned st) h = refl
    so (Finished taken width) h = refl
    so (Fault refusal) h = let never : Some refusal ≡ None = h in absurd (cc)

then-same : (r : Result Drawing Refusal) (a b : End) → fault_of a ≡ None → fault_of b ≡ None → (r >>= finished b) ≡ (r >>= finished a)
then-same (Ok d) a b x y = finished-same a b d x y
then-same (Err e) a b x y = refl

draws-same : (origin : Point) (run other : Run) (segments : List Segment) → SameRuns run other → DrawsAt origin run segments →
    DrawsAt origin other segments
draws-same origin run other segments s draws =
    ap (λ answers. drawing_of answers (blank_at origin) >>= finished other.end) s.answers
    ∙ then-same (drawing_of run.answers (blank_at origin)) run.end other.end s.faultless s.other_faultless ∙ draws

draws-component : (old new : FontView) (code : ℕ) (origin : Point) (segments : List Segment) →
    ((one : ℕ) → IsComponent old code one → CarriesCode old new code one) →
    DrawsComponent old code origin segments → DrawsComponent new code origin segments
draws-component old new code origin segments codes d =
    let at = codes d.glyph d.component in
    let run = at.2 d.part d.run d.has in
    record {
      glyph = at.0;
      part = run.part;
      run = run.other;
      component = at.1;
      has = run.has;
      plain = run.same.taken ∙ d.plain;
      draws = draws-same origin d.run run.other segments run.same d.draws;
    }

pub carried : (old new : FontView) (glyph i : ℕ) (segments : List Segment) (width : Option ℤ) → Carries old new glyph i →
    CarriesComponents old new glyph →
    IsDrawnAs old glyph segments width → IsDrawnAs new i segments width
carried old new glyph i segments width runs codes d =
    let run = runs d.part d.run d.has in
    record {
      part = run.part;
      run = run.other;
      has = run.has;
      drawn = elim d.drawn [
        | inl plain ↦ inl (record {
          plain = run.same.taken ∙ plain.plain;
          draws = draws-same zero_point d.run run.other segments run.same plain.draws;
        })
        | inr more ↦ inr (
            let accented : IsAccented old glyph
            more.accent = record { part = d.part; run = d.run; has = d.has; accented = more.accented } in
            record {
              accent = more.accent;
              own = more.own;
              more = more.more;
              accented = subst (λ taken. IsAccent taken more.accent) (sym run.same.taken) more.accented;
              draws_own = draws-same zero_point d.run run.other more.own run.same more.draws_own;
              draws_more = record {
                base = more.draws_more.base;
                above = more.draws_more.above;
                draws_base = draws-component old new more.accent.base zero_point more.draws_more.base
                    (λ one is. codes more.accent more.accent.base one accented (inl refl) is) more.draws_more.draws_base;
                draws_accent = draws-component old new more.accent.accent (point more.accent.dx more.accent.dy) more.draws_more.above
                    (λ one is. codes more.accent more.accent.accent one accented (inr refl) is) more.draws_more.draws_accent;
                all = more.draws_more.all;
              };
              all = more.all;
            })
      ];
      width_is = d.width_is ∙ sym run.same.width;
    }
