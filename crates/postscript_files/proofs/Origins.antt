-- The glyph of the old font that each new one is made of.
use Rattle.std.proofs.Common.{◌≡◌, refl, sym, ap, ◌∙◌, subst, inl, inr, ℕ, zero, suc, ◌<◌, List, [], ◌∷◌, Bool, true, false, length, get_or, arith, add-one, zero-add}
use Rattle.std.specs.Prelude.{◌==◌, Some, None, if◌then◌else◌}
use Rattle.std.specs.List.{Contains, filter, range_with_len}
use Rattle.std.proofs.lemmas.Bool.{cases_eq, eq-eqb}
use Rattle.std.proofs.lemmas.List.{get_or_default}
use Rattle.std.proofs.lemmas.List.Elements.{Contains-append_left, Contains-append_right}
use Rattle.std.proofs.lemmas.List.FromFn.{get_or-range_with_len, length-range_with_len}
use Rattle.postscript_drawing.specs.Components.{glyphs_of}
use Rattle.postscript_view.specs.Value.{view_shown}
use Rattle.postscript_view.specs.declared.font.FontView.{FontView}
use Rattle.postscript_write.specs.Components.{AreKept, IsOpened, is_named}
use Rattle.postscript_write.specs.Drawings.{AreLikeKept, IsSourceAt, Likeness}
use Rattle.postscript_write.specs.Sources.{AreThere, choice_by, is_kept, keeping, kept_of}
use Rattle.postscript_write.proofs.Drawings.{many-of}
use Rattle.postscript_write.proofs.Marks.{kept_more}
use Rattle.postscript_write.proofs.Places.{keeping-at, keeping-many}
use Rattle.postscript_files.specs.Origins.{AreOrigins, IsOrigin}
use Rattle.postscript_files.specs.Subsets.{IsSubsetFont}
use Rattle.postscript_files.proofs.Keeping.{left-set, right-set}
use Rattle.postscript_files.proofs.Same.{cut-like}

kept-at : (named : List ℕ) (i glyph : ℕ) → i < length named → get_or named i glyph ≡ glyph → is_kept named glyph ≡ true
kept-at [] i glyph within is = absurd (omega (arith, within))
kept-at (one ∷ named) zero glyph within is = left-set (one == glyph) (is_kept named glyph) (eq-eqb one glyph is)
kept-at (one ∷ named) (suc i) glyph within is =
    right-set (one == glyph) (is_kept named glyph) (kept-at named i glyph (omega (arith, within)) is)

-- a glyph that is named is kept
pub named-kept : (named : List ℕ) (glyph : ℕ) → Contains named glyph → is_kept named glyph ≡ true
named-kept named glyph h = kept-at named h.0 glyph h.1 h.2

pub zero-kept : (named : List ℕ) → is_kept named 0 ≡ true
zero-kept [] = refl
zero-kept (one ∷ named) = right-set (one == 0) (is_kept named 0) (zero-kept named)

last-kept : (b : Bool) (n glyph : ℕ) → b ≡ true → glyph ≡ n → Contains (if b then n ∷ [] else []) glyph
last-kept true n glyph kept same = (0, omega arith, sym same)
last-kept false n glyph kept same = absurd (cc)

pub contains-kept : (closed : List ℕ) (n glyph : ℕ) → glyph < n → is_kept closed glyph ≡ true → Contains (kept_of closed n) glyph
contains-kept closed zero glyph less kept = absurd (omega (arith, less))
contains-kept closed (suc n) glyph less kept =
    subst (λ m. Contains (kept_of closed m) glyph) (add-one n)
    (subst (λ (xs : List ℕ). Contains xs glyph) (sym (kept_more closed n)) (elim (cases_eq glyph n) [
      | inl same ↦ Contains-append_right (kept_of closed n) (if is_kept closed n then n ∷ [] else []) glyph
          (last-kept (is_kept closed n) n glyph (ap (is_kept closed) (sym same) ∙ kept) same)
      | inr other ↦ Contains-append_left (kept_of closed n) (if is_kept closed n then n ∷ [] else []) glyph
          (contains-kept closed n glyph (omega (arith, less, other)) kept)
    ]))

first-kept : (closed : List ℕ) (n : ℕ) → get_or (kept_of closed n) 0 0 ≡ 0
first-kept closed zero = refl
first-kept closed (suc n) =
    ap (λ b. get_or (if b then 0 ∷ filter (is_kept closed) (range_with_len 1 n) else filter (is_kept closed) (range_with_len 1 n)) 0 0)
    (zero-kept closed)

origin-of : (origins : List ℕ) (glyph : ℕ) → Contains origins glyph → (i : ℕ) × IsOrigin origins i glyph
origin-of origins glyph h = (h.0, record { there = h.1; is = get_or_default origins h.0 0 glyph h.1 ∙ h.2 })

-- a glyph that is named is one of the font
named-there : (named : List ℕ) (glyphs glyph : ℕ) → AreThere named glyphs → Contains named glyph → glyph < glyphs
named-there named glyphs glyph there h =
    let e : get_or named h.0 0 ≡ glyph = get_or_default named h.0 0 glyph h.1 ∙ h.2 in
    let p = there h.0 h.1 in omega (arith, e, p)

-- a glyph that is named is among the kept ones
pub kept-there : (retain : Bool) (named cff flat kept : List ℕ) → IsSubsetFont retain named cff flat → AreKept named cff kept →
    (glyph : ℕ) → Contains named glyph → Contains kept glyph
kept-there retain named cff flat kept font are glyph h =
    let less : glyph < glyphs_of are.are.font =
    named-there named (glyphs_of are.are.font) glyph (font.there (view_shown are.are.font) are.are.opened.laid) h in
    let is : is_kept are.closed glyph ≡ true = (are.are.all glyph).1 (is_named glyph (named-kept named glyph h)) in
    subst (λ (xs : List ℕ). Contains xs glyph) (sym are.all) (contains-kept are.closed (glyphs_of are.are.font) glyph less is)

-- a glyph that is named has an origin
pub has-origin : (retain : Bool) (named cff flat origins : List ℕ) → IsSubsetFont retain named cff flat →
    AreOrigins retain named cff origins → (glyph : ℕ) → Contains named glyph → (i : ℕ) × IsOrigin origins i glyph
has-origin true named cff flat origins font are glyph h =
    let n : ℕ = glyphs_of are.0 in
    let less : glyph < glyphs_of are.0 =
    named-there named (glyphs_of are.0) glyph (font.there (view_shown are.0) are.1.laid) h in (
      glyph,
      record {
        there = let e = ap length are.2 in let m = length-range_with_len 0 (glyphs_of are.0) in omega (arith, e, m, less);
        is = ap (λ xs. get_or xs glyph 0) are.2 ∙ get_or-range_with_len 0 (glyphs_of are.0) glyph 0 less ∙ zero-add glyph;
      },
    )
has-origin false named cff flat origins font are glyph h =
    origin-of origins glyph (kept-there false named cff flat origins font are glyph h)

-- glyphs that keep their numbers have them
pub own-number : (named cff origins : List ℕ) (i glyph : ℕ) → AreOrigins true named cff origins → IsOrigin origins i glyph → i ≡ glyph
own-number named cff origins i glyph are h =
    let e = ap length are.2 in
    let m = length-range_with_len 0 (glyphs_of are.0) in
    let t = h.there in
    let less : i < glyphs_of are.0 = omega (arith, e, m, t) in
    sym (zero-add i) ∙ sym (get_or-range_with_len 0 (glyphs_of are.0) i 0 less) ∙ ap (λ xs. get_or xs i 0) (sym are.2) ∙ h.is

-- a glyph above 0 does not get the number 0
pub above-zero : (retain : Bool) (named cff origins : List ℕ) (i glyph : ℕ) → AreOrigins retain named cff origins →
    IsOrigin origins i glyph → 0 < glyph → 0 < i
above-zero true named cff origins i glyph are h some = let e = own-number named cff origins i glyph are h in omega (arith, e, some)
above-zero false named cff origins i glyph are h some = elim (cases_eq i 0) [
  | inl none ↦
      let first : get_or origins 0 0 ≡ 0 = ap (λ xs. get_or xs 0 0) are.all ∙ first-kept are.closed (glyphs_of are.are.font) in
      let is : get_or origins 0 0 ≡ glyph = ap (λ k. get_or origins k 0) (sym none) ∙ h.is in
      absurd (omega (arith, first, is, some))
  | inr other ↦ omega (arith, other)
]

pub source-there : (named cff flat origins closed : List ℕ) (was : FontView) (i glyph : ℕ) → AreOrigins true named cff origins →
    IsOpened cff was → is_kept closed glyph ≡ true → IsOrigin origins i glyph → IsSourceAt (keeping closed (glyphs_of was)) i glyph
source-there named cff flat origins closed was i glyph are opened kept h =
    let same : i ≡ glyph = own-number named cff origins i glyph are h in
    let many : glyphs_of are.0 ≡ glyphs_of was = many-of cff are.0 (view_shown was) are.1 opened.laid in
    let e = ap length are.2 in
    let m = length-range_with_len 0 (glyphs_of are.0) in
    let t = h.there in
    let less : i < glyphs_of was = omega (arith, e, m, t, many) in
    record {
      there = subst (λ n. i < n) (sym (keeping-many closed (glyphs_of was))) less;
      is = keeping-at closed (glyphs_of was) i less
          ∙ ap (λ b. if b then Some i else None) (ap (is_kept closed) same ∙ kept) ∙ ap Some same;
    }

-- the glyph that is made of one that is named is like it
pub origin-like : (IsLike : Likeness) (retain : Bool) (named cff flat origins : List ℕ) → AreOrigins retain named cff origins →
    AreLikeKept IsLike (choice_by retain) named cff flat → (glyph i : ℕ) → Contains named glyph → IsOrigin origins i glyph →
    (was is : FontView) → IsOpened cff was → IsOpened flat is → IsLike was is glyph i
origin-like IsLike false named cff flat origins are like glyph i h origin was is opened new =
    cut-like IsLike named cff flat origins are like i glyph origin was is opened new
origin-like IsLike true named cff flat origins are like glyph i h origin was is opened new =
    like.2 was is glyph i opened new
    (source-there named cff flat origins like.0 was i glyph are opened ((like.1.all glyph).1 (is_named glyph (named-kept named glyph h))) origin)
