-- What a glyph by itself gives: a plain glyph, a component, or an accented one.
use Rattle.std.proofs.Common.{◌≡◌, ◌≢◌, ◌⊎◌, ℕ, ℤ, List, [], ◌++◌, length, Option, Some, None, Result, Ok, Err, ap, inl, inr, refl, subst, sym, ◌∙◌}
use Rattle.std.proofs.lemmas.List.{append-nil}
use Rattle.std.specs.Prelude.{IfErr, IfOk, IsErrAnd, MatchOption, OnErr, OnOk}
use Rattle.postscript_base.specs.Index.Lent.{items_of}
use Rattle.postscript_outline.specs.Points.{point}
use Rattle.postscript_outline.specs.declared.point.Point.{Point}
use Rattle.postscript_outline.specs.declared.segment.Segment.{Segment}
use Rattle.postscript_outline.specs.Sinks.{Receives}
use Rattle.postscript_outline.proofs.Receiving.{received-both}
use Rattle.postscript_type2.specs.Program.Endings.{AreFourOrNone, IsRunsEnd}
use Rattle.postscript_type2.specs.Program.Evaluation.{run_of}
use Rattle.postscript_type2.specs.Program.Routines.{lent}
use Rattle.postscript_type2.specs.Program.Runs.{Answer, End, Fault, Finished, Returned, Run, UsedUp, taken_by, width_of}
use Rattle.postscript_view.specs.Advances.{HasRun}
use Rattle.postscript_view.specs.Glyphs.{HasGlyph}
use Rattle.postscript_view.specs.declared.font.FontView.{FontView}
use Rattle.postscript_view.specs.declared.font.Glyph.{Glyph}
use Rattle.postscript_drawing.specs.Accents.{IsAccent, IsTold, run_by}
use Rattle.postscript_drawing.specs.Components.{IsComponent}
use Rattle.postscript_base.specs.Refusal.{Refusal}
use Rattle.postscript_drawing.specs.DrawnProgram.{DrawsOfFirst, IsUndrawn, IsWanting}
use Rattle.postscript_drawing.specs.Drawing.{Drawing, ◌>>=◌, blank_at, closed, drawing}
use Rattle.postscript_drawing.specs.Outcome.{IsFront}
use Rattle.postscript_drawing.specs.Given.{GivesComponent, GivesComponents, GivesGlyph, GivesOwn, GivesOwnFront}
use Rattle.postscript_drawing.specs.Outline.{finished, outlined_at}
use Rattle.postscript_drawing.specs.Drawn.{DrawsAt, DrawsComponent, DrawsComponents, HasOwn, IsDrawnAs, Takes, zero_point}
use Rattle.postscript_drawing.specs.Refused.{AreRefused, IsAccented, IsComponentRefused, IsGlyphRefused, IsNested, IsUndrawnGlyph, IsUnread}
use Rattle.postscript_drawing.proofs.GivenLaws.{front-of}
use Rattle.postscript_drawing.proofs.ProgramLaws.{front-of-first, outlined-so, strokes_of}
use Rattle.postscript_drawing.specs.declared.accent.Accent.{Accent}
use Rattle.postscript_drawing.specs.declared.glyph.Own.{Own}
use Rattle.postscript_drawing.specs.declared.error.Error.{Error}

-- what is told of the operands that endchar took is told of the run
four-or-none : (end : End) → IsRunsEnd end → AreFourOrNone (taken_by end)
four-or-none UsedUp h = inr refl
four-or-none (Returned st) h = absurd h
four-or-none (Finished taken width) h = h
four-or-none (Fault e) h = inr refl

pub told-so : (accent : Option Accent) (operands : List ℤ) (run : Run) → operands ≡ taken_by run.end → IsRunsEnd run.end →
    MatchOption accent (length operands ≢ 4) (λ found. IsAccent operands found) → IsTold accent run
told-so None operands run same ends other = by_count (four-or-none run.end ends)
  where
    by_count : AreFourOrNone (taken_by run.end) → taken_by run.end ≡ []
    by_count (inl four) = absurd (other (ap length same ∙ four))
    by_count (inr none) = none
told-so (Some found) operands run same ends is = subst (λ xs. IsAccent xs found) same is

-- the run of a glyph that the font has is a run that the font's glyph has
pub has-run : (font : FontView) (i : ℕ) (glyph : Glyph) → HasGlyph font i glyph.code.now glyph.part.now →
    items_of glyph.global_subroutines ≡ items_of font.global_subroutines → HasRun font i glyph.part.now (run_by glyph)
has-run font i glyph has same = record {
  code = glyph.code.now;
  has = has;
  runs = ap (λ global. run_of (lent global (items_of glyph.part.now.subroutines)) glyph.code.now) same;
}

pub own-so : {T : Type 0} (after : T → Segment → T → Type 0) (old new : T) (r : Result Own Error) (font : FontView) (i : ℕ)
    (glyph : Glyph) (origin : Point) → HasRun font i glyph.part.now (run_by glyph) →
    IfOk r (λ own. Takes after old new (DrawsAt origin (run_by glyph))) →
    IfOk r (λ own. own.width ≡ width_of (run_by glyph)) → IfOk r (λ own. IsTold own.accent (run_by glyph)) →
    IfOk r (λ own. Takes after old new (λ segments. HasOwn font i origin segments own.width own.accent))
own-so after old new (Ok own) font i glyph origin has drawn width told =
    (drawn.0, record { part = glyph.part.now; run = run_by glyph; has = has; draws = drawn.1; width_is = width; told = told }, drawn.2)
own-so after old new (Err e) font i glyph origin has drawn width told = tt

pub refused-so : {A : Type 0} (left : ℕ) (r : Result A Error) (font : FontView) (i : ℕ) (glyph : Glyph) (origin : Point) →
    HasRun font i glyph.part.now (run_by glyph) →
    IfErr r (λ e. IsWanting left e ⊎ IsUndrawn origin e (run_by glyph).answers (run_by glyph).end ⊎ IsUnread e (run_by glyph)) →
    IfErr r (λ e. IsWanting left e ⊎ IsGlyphRefused font i origin e)
refused-so left (Ok own) font i glyph origin has why = tt
refused-so left (Err e) font i glyph origin has (inl wanting) = inl wanting
refused-so left (Err e) font i glyph origin has (inr (inl undrawn)) =
    inr (inr (record { part = glyph.part.now; run = run_by glyph; has = has; why = inl undrawn }))
refused-so left (Err e) font i glyph origin has (inr (inr unread)) =
    inr (inr (record { part = glyph.part.now; run = run_by glyph; has = has; why = inr unread }))

-- a plain glyph is a component, and is drawn so
pub draws-component : (font : FontView) (code glyph : ℕ) (origin : Point) (segments : List Segment) (width : Option ℤ) →
    IsComponent font code glyph →
    HasOwn font glyph origin segments width None → DrawsComponent font code origin segments
draws-component font code glyph origin segments width component own = record {
  glyph = glyph;
  part = own.part;
  run = own.run;
  component = component;
  has = own.has;
  plain = own.told;
  draws = own.draws;
}

pub draws-plain : (font : FontView) (glyph : ℕ) (segments : List Segment) (width : Option ℤ) →
    HasOwn font glyph zero_point segments width None → IsDrawnAs font glyph segments width
draws-plain font glyph segments width own = record {
  part = own.part;
  run = own.run;
  has = own.has;
  drawn = inl (record { plain = own.told; draws = own.draws });
  width_is = own.width_is;
}

-- an accented one
pub is-accented : (font : FontView) (glyph : ℕ) (origin : Point) (segments : List Segment) (width : Option ℤ) (accent : Accent) →
    HasOwn font glyph origin segments width (Some accent) → IsAccented font glyph accent
is-accented font glyph origin segments width accent own = record { part = own.part; run = own.run; has = own.has; accented = own.told }

pub is-nested : (font : FontView) (code glyph : ℕ) (origin : Point) (segments : List Segment) (width : Option ℤ) (accent : Accent) →
    IsComponent font code glyph →
    HasOwn font glyph origin segments width (Some accent) → IsNested font code
is-nested font code glyph origin segments width accent component own = record {
  glyph = glyph;
  accent = accent;
  component = component;
  accented = is-accented font glyph origin segments width accent own;
}

pub draws-accented : (font : FontView) (glyph : ℕ) (own more : List Segment) (width : Option ℤ) (accent : Accent) →
    HasOwn font glyph zero_point own width (Some accent) → DrawsComponents font accent more → IsDrawnAs font glyph (own ++ more) width
draws-accented font glyph own more width accent has components = record {
  part = has.part;
  run = has.run;
  has = has.has;
  drawn = inr (record {
    accent = accent;
    own = own;
    more = more;
    accented = has.told;
    draws_own = has.draws;
    draws_more = components;
    all = refl;
  });
  width_is = has.width_is;
}

-- a refusal that is passed on
pub passed-on : {A : Type 0} → (r : Result A Error) (e : Error) (P : Error → Type 0) → IsErrAnd r (λ x. x ≡ e) → P e → IfErr r P
passed-on (Ok x) e P same holds = tt
passed-on (Err x) e P same holds = subst P (sym same) holds

-- the base is drawn, and then the accent
pub draws-both : {T : Type 0} (after : T → Segment → T → Type 0) (old middle new : T) (r : Result (Unit {0}) Error) (font : FontView)
    (accent : Accent) → Takes after old middle (DrawsComponent font accent.base zero_point) →
    OnOk r (Takes after middle new (DrawsComponent font accent.accent (point accent.dx accent.dy))) → OnOk r
    (Takes after old new (DrawsComponents font accent))
draws-both after old middle new (Ok done) font accent base rest = (
  base.0 ++ rest.0,
  record { base = base.0; above = rest.0; draws_base = base.1; draws_accent = rest.1; all = refl },
  received-both after old middle new base.0 rest.0 base.2 rest.2,
)
draws-both after old middle new (Err e) font accent base rest = tt

-- the accent as a component is refused
pub accent-refused : {A : Type 0} (left : ℕ) (r : Result A Error) (font : FontView) (accent : Accent) (base : List Segment) →
    DrawsComponent font accent.base zero_point base → IfErr r (λ e. IsWanting left e ⊎ IsComponentRefused font accent.accent (point accent.dx accent.dy) e) → IfErr r
    (λ e. IsWanting left e ⊎ AreRefused font accent e)
accent-refused left (Ok done) font accent base draws why = tt
accent-refused left (Err e) font accent base draws (inl wanting) = inl wanting
accent-refused left (Err e) font accent base draws (inr why) = inr (inr (record { base = base; draws_base = draws; refused = why }))

-- the components of an accented glyph are refused
pub components-refused : (left : ℕ) (font : FontView) (glyph : ℕ) (origin : Point) (segments : List Segment) (width : Option ℤ)
    (accent : Accent) (e : Error) →
    HasOwn font glyph origin segments width (Some accent) → IsWanting left e ⊎ AreRefused font accent e → IsUndrawnGlyph font glyph left e
components-refused left font glyph origin segments width accent e own (inl wanting) = inl wanting
components-refused left font glyph origin segments width accent e own (inr why) =
    inr (inr (record { accent = accent; accented = is-accented font glyph origin segments width accent own; refused = why }))

-- a glyph by itself is refused, as a component
pub component-undrawn : (left : ℕ) (font : FontView) (code glyph : ℕ) (origin : Point) (e : Error) → IsComponent font code glyph →
    IsWanting left e ⊎ IsGlyphRefused font glyph origin e → IsWanting left e ⊎ IsComponentRefused font code origin e
component-undrawn left font code glyph origin e component (inl wanting) = inl wanting
component-undrawn left font code glyph origin e component (inr refused) =
    inr (inr (inl (record { glyph = glyph; component = component; refused = refused })))

-- what is given of a drawing that is refused

-- the drawing whose contour is ended there
behind-end : (r : Result Drawing Refusal) (end : End) (segments : List Segment) → r >>= finished end ≡ Ok segments →
    (to : Drawing) × (r ≡ Ok to) × (segments ≡ (closed to).segments)
behind-end (Err e) end segments is = absurd (refused is)
  where
    refused : Err e ≡ Ok segments → ⊥
    refused is = cc
behind-end (Ok d) (Fault e) segments is = absurd (refused is)
  where
    refused : Err e ≡ Ok segments → ⊥
    refused is = cc
behind-end (Ok d) UsedUp segments is = (d, refl, cc)
behind-end (Ok d) (Returned st) segments is = (d, refl, cc)
behind-end (Ok d) (Finished taken width) segments is = (d, refl, cc)

-- all strokes are among the first that leave no range
pub whole-first : {T : Type 0} {after : T → Segment → T → Type 0} {old new : T} (origin : Point) (answers : List Answer) (end : End)
    (segments : List Segment) → outlined_at origin answers end ≡ Ok segments → Receives after old segments new →
    DrawsOfFirst after origin old new answers
whole-first {T} {after} {old} {new} origin answers end segments drawn taken =
    let all = strokes_of answers in
    let to = behind-end (drawing all (blank_at origin)) end segments (sym (outlined-so origin answers end) ∙ drawn) in
    record {
      first = all;
      rest = [];
      parts = sym (append-nil all);
      to = to.0;
      draws = to.1;
      given = segments;
      front = subst (IsFront segments) (append-nil segments ∙ to.2) (front-of segments []);
      taken = taken;
    }

-- of a glyph that is not drawn
pub own-front : {T : Type 0} {after : T → Segment → T → Type 0} {old new : T} (font : FontView) (i : ℕ) (glyph : Glyph) (origin : Point) →
    HasRun font i glyph.part.now (run_by glyph) → DrawsOfFirst after origin old new (run_by glyph).answers →
    GivesOwn after origin old new font i
own-front font i glyph origin has of_first = inr (record {
  part = glyph.part.now;
  run = run_by glyph;
  has = has;
  front = front-of-first (run_by glyph).answers of_first;
  of_first = of_first;
})

-- of a glyph that is drawn by itself
pub own-whole : {T : Type 0} {after : T → Segment → T → Type 0} {old new : T} (font : FontView) (glyph : ℕ) (origin : Point)
    (segments : List Segment) (width : Option ℤ) (accent : Option Accent) →
    HasOwn font glyph origin segments width accent → Receives after old segments new → GivesOwnFront after origin old new font glyph
own-whole font glyph origin segments width accent own taken =
    let of_first = whole-first origin own.run.answers own.run.end segments own.draws taken in
    record {
      part =
          own.part;
      run = own.run;
      has = own.has;
      front = front-of-first own.run.answers of_first;
      of_first = of_first;
    }

pub component-front : {T : Type 0} {after : T → Segment → T → Type 0} {old new : T} (font : FontView) (code glyph : ℕ) (origin : Point) →
    IsComponent font code glyph →
    GivesOwn after origin old new font glyph → GivesComponent after origin old new font code
component-front font code glyph origin component (inl none) = inl none
component-front font code glyph origin component (inr front) = inr (glyph, component, front)

pub accented-front : {T : Type 0} {after : T → Segment → T → Type 0} {old between new : T} (font : FontView) (glyph : ℕ)
    (segments : List Segment) (width : Option ℤ) (accent : Accent) →
    HasOwn font glyph zero_point segments width
    (Some accent) → Receives after old segments between → GivesComponents after between new font accent → GivesGlyph after old new font
    glyph
accented-front {T} {after} {old} {between} font glyph segments width accent own taken some =
    inr (record {
      accent = accent;
      between = between;
      part = own.part;
      run = own.run;
      has = own.has;
      accented = own.told;
      own = (segments, own.draws, taken);
      some = some;
    })

-- the base is drawn, and some of the accent
pub accent-front : {T : Type 0} (after : T → Segment → T → Type 0) (old between new : T) (r : Result (Unit {0}) Error) (font : FontView)
    (accent : Accent) → Takes after old between (DrawsComponent font accent.base zero_point) →
    OnErr r (GivesComponent after (point accent.dx accent.dy) between new font accent.accent) → OnErr r
    (GivesComponents after old new font accent)
accent-front after old between new (Ok done) font accent base some = tt
accent-front after old between new (Err e) font accent base some = inr (between, base, some)
