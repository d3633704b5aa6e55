-- What is told of the components of glyphs.
use Rattle.std.proofs.Common.{◌≡◌, refl, sym, ap, subst, ◌∙◌, inl, inr, ℕ, zero, suc, ◌<◌, List, [], ◌∷◌, ◌++◌, append_assoc, length, slice_index_or, slice_set, Option, Some, None, Result, Ok, Err, true, false, Bool, arith}
use Rattle.std.specs.Prelude.{◌⊎◌, ◌||◌, ◌==◌, IfOk, OnOk, option_to_list}
use Rattle.std.specs.List.{Contains}
use Rattle.std.proofs.lemmas.Bool.{eqb-true}
use Rattle.std.proofs.lemmas.List.{get_or-set_same, get_or-set_other, length-set}
use Rattle.std.proofs.lemmas.List.Elements.{Contains-append_left, Contains-append_right, Contains-append_cases}
use Rattle.postscript_drawing.specs.Accents.{IsAccentOf, run_by}
use Rattle.postscript_drawing.specs.Components.{IsComponent, glyphs_of}
use Rattle.postscript_drawing.specs.Refused.{IsAccented}
use Rattle.postscript_drawing.specs.declared.accent.Accent.{Accent}
use Rattle.postscript_base.specs.Index.Lent.{items_of}
use Rattle.postscript_type2.specs.Program.Evaluation.{run_of}
use Rattle.postscript_type2.specs.Program.Routines.{lent}
use Rattle.postscript_view.specs.Advances.{HasRun}
use Rattle.postscript_view.specs.Glyphs.{HasGlyph}
use Rattle.postscript_view.specs.declared.font.FontView.{FontView}
use Rattle.postscript_view.specs.declared.font.Glyph.{Glyph}
use Rattle.postscript_write.specs.Components.{AreComponentsOf, AreKnown, IsComponentOf, IsFound, IsSaid, IsSaidOf}
use Rattle.postscript_write.specs.declared.error.Error.{Error}
use Rattle.postscript_write.proofs.Marks.{apart}
use Rattle.postscript_write.proofs.Uniqueness.{one-accent, one-component, one-run}

-- nothing is named where a run is refused
pub has-run : (font : FontView) (i : ℕ) (glyph : Glyph) → HasGlyph font i glyph.code.now glyph.part.now →
    items_of glyph.global_subroutines ≡ items_of font.global_subroutines → HasRun font i glyph.part.now (run_by glyph)
has-run font i glyph has same = record {
  code = glyph.code.now;
  has = has;
  runs = ap (λ global. run_of (lent global (items_of glyph.part.now.subroutines)) glyph.code.now) same;
}

pub said-so : (font : FontView) (i : ℕ) (glyph : Glyph) (found : Option Accent) → HasRun font i glyph.part.now (run_by glyph) →
    IsSaid found (run_by glyph) → IsSaidOf font i found
said-so font i glyph None has said = λ accent is.
    said accent (subst (λ run. IsAccentOf accent run) (one-run font i glyph.part.now is.part (run_by glyph) is.run has is.has) is.accented)
said-so font i glyph (Some accent) has said = record { part = glyph.part.now; run = run_by glyph; has = has; accented = said }

pub said-if : (r : Result (Option Accent) Error) (font : FontView) (i : ℕ) (glyph : Glyph) → HasRun font i glyph.part.now (run_by glyph) →
    IfOk r (λ found. IsSaid found (run_by glyph)) → IfOk r (λ found. IsSaidOf font i found)
said-if (Ok found) font i glyph has said = said-so font i glyph found has said
said-if (Err e) font i glyph has said = tt

-- the components of a plain glyph: none
pub none-of : (font : FontView) (from : ℕ) → IsSaidOf font from None → AreComponentsOf font from []
none-of font from said glyph = (λ has. absurd (omega (arith, has.1)), λ is. absurd (said is.accent is.accented))

-- what is in a list of one glyph or none
in-option : (font : FontView) (code : ℕ) (found : Option ℕ) (glyph : ℕ) → IsFound font code found →
    Contains (option_to_list found) glyph → IsComponent font code glyph
in-option font code None glyph is has = absurd (omega (arith, has.1))
in-option font code (Some one) glyph is has = by has.0 has.1 has.2
  where
    by : (k : ℕ) → k < 1 → slice_index_or (one ∷ []) k glyph ≡ glyph → IsComponent font code glyph
    by zero less same = subst (λ g. IsComponent font code g) same is
    by (suc k) less same = absurd (omega (arith, less))

to-option : (font : FontView) (code : ℕ) (found : Option ℕ) (glyph : ℕ) → IsFound font code found → IsComponent font code glyph →
    Contains (option_to_list found) glyph
to-option font code None glyph is component = absurd (is glyph component)
to-option font code (Some one) glyph is component = (0, omega arith, one-component font code one glyph is component)

-- the components of an accented glyph: its base and its accent
pub both-of : (font : FontView) (from : ℕ) (accent : Accent) (base above : Option ℕ) → IsAccented font from accent →
    IsFound font accent.base base → IsFound font accent.accent above →
    AreComponentsOf font from (option_to_list base ++ option_to_list above)
both-of font from accent base above accented has_base has_above glyph = (
  λ has. elim (Contains-append_cases (option_to_list base) (option_to_list above) glyph has) [
    | inl h ↦ record { accent = accent; accented = accented; named = inl (in-option font accent.base base glyph has_base h) }
    | inr h ↦ record { accent = accent; accented = accented; named = inr (in-option font accent.accent above glyph has_above h) }
  ],
  λ is.
      let same = one-run font from accented.part is.accented.part accented.run is.accented.run accented.has is.accented.has in
      let codes = one-accent _ is.accent accent (subst (λ run. IsAccentOf is.accent run) same is.accented.accented) accented.accented in
      elim is.named [
        | inl h ↦ Contains-append_left (option_to_list base) (option_to_list above) glyph
            (to-option font accent.base base glyph has_base (subst (λ c. IsComponent font c glyph) codes.0 h))
        | inr h ↦ Contains-append_right (option_to_list base) (option_to_list above) glyph
            (to-option font accent.accent above glyph has_above (subst (λ c. IsComponent font c glyph) codes.1 h))
      ],
)

pub or-split : (a b : Bool) → (a || b) ≡ true → (a ≡ true) ⊎ (b ≡ true)
or-split true b h = inl refl
or-split false b h = inr h

pub or-left : (a b : Bool) → a ≡ true → (a || b) ≡ true
or-left true b h = refl
or-left false b h = let never : false ≡ true = h in absurd (cc)

pub or-right : (a b : Bool) → b ≡ true → (a || b) ≡ true
or-right true b h = refl
or-right false b h = h

-- what is appended of one glyph
pub pushed-so : (r : Result (Unit {0}) Error) (font : FontView) (from : ℕ) (accent : Accent) (old new : List ℕ) →
    IsAccented font from accent →
    OnOk r ((base above : Option ℕ) × IsFound font accent.base base × IsFound font accent.accent
    above × (new ≡ old ++ (option_to_list base ++ option_to_list above))) →
    OnOk r ((added : List ℕ) × AreComponentsOf font from added × (new ≡ old ++ added))
pushed-so (Ok done) font from accent old new accented h =
    (option_to_list h.0 ++ option_to_list h.1, both-of font from accent h.0 h.1 accented h.2 h.3, h.4)
pushed-so (Err e) font from accent old new accented h = tt

pub both-if : (r : Result (Unit {0}) Error) (font : FontView) (accent : Accent) (base above : Option ℕ) (old middle new : List ℕ) →
    IsFound font accent.base base → IsFound font accent.accent above →
    middle ≡ old ++ option_to_list base → OnOk r (new ≡ middle ++ option_to_list above) →
    OnOk r ((base above : Option ℕ) × IsFound font accent.base base × IsFound font accent.accent
    above × (new ≡ old ++ (option_to_list base ++ option_to_list above)))
both-if (Ok done) font accent base above old middle new has_base has_above first second = (
  base,
  above,
  has_base,
  has_above,
  second ∙ ap (λ xs. xs ++ option_to_list above) first ∙ append_assoc old (option_to_list base) (option_to_list above),
)
both-if (Err e) font accent base above old middle new has_base has_above first second = tt

-- a component is a glyph of the font
pub component-there : (font : FontView) (from glyph : ℕ) → IsComponentOf font from glyph → glyph < glyphs_of font
component-there font from glyph is = elim is.named [
  | inl h ↦ h.first.there
  | inr h ↦ h.first.there
]

-- what is known once one more code was looked up
known-by : (font : FontView) (known : List (Option (Option ℕ))) (code other : ℕ) (found told : Option ℕ) (same : Bool) →
    (code == other) ≡ same → code < length known →
    ((code : ℕ) (found : Option ℕ) → slice_index_or known code None ≡ Some found → IsFound font code found) → IsFound font code found →
    slice_index_or (slice_set known code (Some found)) other None ≡ Some told → IsFound font other told
known-by font known code other found told true e less before is here =
    let place : code ≡ other = eqb-true code other e in
    let set : slice_index_or (slice_set known code (Some found)) other None ≡ Some found =
    ap (λ k. slice_index_or (slice_set known code (Some found)) k None) (sym place) ∙ get_or-set_same known code (Some found) None less in
    let both : Some found ≡ Some told = sym set ∙ here in
    let one : found ≡ told = cc in
    subst (λ k. IsFound font k told) place (subst (λ (o : Option ℕ). IsFound font code o) one is)
known-by font known code other found told false e less before is here =
    before other told (sym (get_or-set_other known code other (Some found) None (apart code other e)) ∙ here)

pub known-more : (font : FontView) (known : List (Option (Option ℕ))) (code : ℕ) (found : Option ℕ) → code < 256 → AreKnown font known →
    IsFound font code found → AreKnown font (slice_set known code (Some found))
known-more font known code found less before is = (
  length-set known code (Some found) ∙ before.0,
  λ other told here. known-by font known code other found told (code == other) refl (omega (arith, less, before.0)) before.1 is here,
)
