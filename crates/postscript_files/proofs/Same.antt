-- The glyphs of a subset, and those that they are made of.
use Rattle.std.proofs.Common.{◌≡◌, refl, sym, ap, subst, ◌∙◌, ℕ, ◌+◌, List, [], ◌∷◌, ◌++◌, Bool, true, false, arith, add-one, zero, suc}
use Rattle.std.specs.Prelude.{Some, None, map, if◌then◌else◌, Result, Ok, Err, IfOk, Vec}
use Rattle.std.specs.declared.alloc.Global.{Global}
use Rattle.std.specs.List.{range_with_len}
use Rattle.std.proofs.Math.ListN.{get_or-map}
use Rattle.std.proofs.lemmas.List.{get_or_default, length-map, map-id}
use Rattle.std.proofs.lemmas.List.FromFn.{map-range_with_len_more}
use Rattle.postscript_drawing.specs.Components.{glyphs_of}
use Rattle.postscript_view.specs.Value.{view_shown}
use Rattle.postscript_view.specs.declared.font.FontView.{FontView}
use Rattle.postscript_write.specs.Components.{AreClosed, AreKept, IsOpened, IsReached, is_drawn_with, is_named}
use Rattle.postscript_write.specs.Drawings.{AreLikeKept, DrawsTheSame, IsSourceAt, Likeness}
use Rattle.postscript_write.specs.SameGlyphs.{IsSameGlyph}
use Rattle.postscript_write.specs.Sources.{chosen, is_kept, kept_of}
use Rattle.postscript_write.proofs.Drawings.{component-moved, many-of}
use Rattle.postscript_write.proofs.Marks.{kept_more}
use Rattle.postscript_files.specs.Made.{KeptAreTheSame}
use Rattle.postscript_files.specs.declared.error.Error.{Error}
use Rattle.postscript_files.specs.Origins.{AreOrigins, IsOrigin}

reached-moved : (bytes named : List ℕ) (a b : FontView) → IsOpened bytes a → IsOpened bytes b → (glyph : ℕ) → IsReached a named glyph →
    IsReached b named glyph
reached-moved bytes named a b was is _ (is_named glyph h) = is_named glyph h
reached-moved bytes named a b was is _ (is_drawn_with from glyph r c) =
    is_drawn_with from glyph (reached-moved bytes named a b was is from r) (component-moved bytes a b from glyph was is c)

same-bool : (a b : Bool) → (a ≡ true → b ≡ true) → (b ≡ true → a ≡ true) → a ≡ b
same-bool true b f g = sym (f refl)
same-bool false true f g = g refl
same-bool false false f g = refl

-- one list of glyphs is reached from those that are named
pub one-closed : (bytes named xs ys : List ℕ) → AreClosed bytes named xs → AreClosed bytes named ys → (glyph : ℕ) →
    is_kept xs glyph ≡ is_kept ys glyph
one-closed bytes named xs ys a b glyph = same-bool (is_kept xs glyph) (is_kept ys glyph) (moved xs ys a b) (moved ys xs b a)
  where
    moved : (p q : List ℕ) → AreClosed bytes named p → AreClosed bytes named q → is_kept p glyph ≡ true → is_kept q glyph ≡ true
    moved p q x y h = (y.all glyph).1 (reached-moved bytes named x.font y.font x.opened y.opened glyph ((x.all glyph).0 h))

pub same-kept : (xs ys : List ℕ) → ((glyph : ℕ) → is_kept xs glyph ≡ is_kept ys glyph) → (n : ℕ) → kept_of xs n ≡ kept_of ys n
same-kept xs ys same zero = refl
same-kept xs ys same (suc n) = subst (λ m. kept_of xs m ≡ kept_of ys m) (add-one n)
    (kept_more xs n ∙ ap (λ l. l ++ (if is_kept xs n then n ∷ [] else [])) (same-kept xs ys same n)
    ∙ ap (λ b. kept_of ys n ++ (if b then n ∷ [] else [])) (same n) ∙ sym (kept_more ys n))

source-at : (origins : List ℕ) (i glyph : ℕ) → IsOrigin origins i glyph → IsSourceAt (map Some origins) i glyph
source-at origins i glyph h = record {
  there = let e = length-map origins Some in let t = h.there in omega (arith, e, t);
  is = let e = length-map origins Some in let t = h.there in
      get_or_default (map Some origins) i None (Some 0) (omega (arith, e, t)) ∙ get_or-map Some origins i 0 ∙ ap Some h.is;
}

-- a likeness that a subset keeps is true of each new glyph and its origin
pub cut-like : (IsLike : Likeness) (named cff flat origins : List ℕ) → AreKept named cff origins →
    AreLikeKept IsLike chosen named cff flat → (i glyph : ℕ) → IsOrigin origins i glyph → (was is : FontView) → IsOpened cff was →
    IsOpened flat is → IsLike was is glyph i
cut-like IsLike named cff flat origins kept like i glyph h was is opened new =
    let n : ℕ = glyphs_of was in
    let many : glyphs_of kept.are.font ≡ glyphs_of was = many-of cff kept.are.font (view_shown was) kept.are.opened opened.laid in
    let all : origins ≡ kept_of like.0 (glyphs_of was) = kept.all ∙ ap (kept_of kept.closed) many
    ∙ same-kept kept.closed like.0 (one-closed cff named kept.closed like.0 kept.are like.1) (glyphs_of was) in
    like.2 was is glyph i opened new
    (subst (λ (xs : List ℕ). IsSourceAt (map Some xs) i glyph) all (source-at origins i glyph h))

pub kept-are-the-same : KeptAreTheSame
kept-are-the-same named cff flat kept are drawn same i glyph h was is opened new = (
  cut-like DrawsTheSame named cff flat kept are drawn i glyph h was is opened new,
  cut-like IsSameGlyph named cff flat kept are same i glyph h was is opened new,
)

-- the numbers below one more
pub range-pushed : (all more : List ℕ) (n : ℕ) → all ≡ range_with_len 0 n → more ≡ all ++ n ∷ [] → more ≡ range_with_len 0 (n + 1)
range-pushed all more n is pushed =
    pushed ∙ ap (λ xs. xs ++ n ∷ []) (is ∙ sym (map-id (range_with_len 0 n)))
    ∙ sym (map-range_with_len_more (λ x. x) 0 n n (omega arith)) ∙ map-id (range_with_len 0 (n + 1))

pub if-every : (r : Result (Vec ℕ Global) Error) (cff named : List ℕ) (font : FontView) (n : ℕ) → IsOpened cff font →
    n ≡ glyphs_of font → IfOk r (λ all. all.items ≡ range_with_len 0 n) → IfOk r (λ origins. AreOrigins true named cff origins.items)
if-every (Ok all) cff named font n opened same is = (font, opened, is ∙ ap (range_with_len 0) same)
if-every (Err e) cff named font n opened same is = tt
