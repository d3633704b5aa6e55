-- The glyphs that are told are those that are written.
use Rattle.std.proofs.Common.{◌≡◌, refl, sym, ap, subst, ◌∙◌, ℕ, List, [], ◌∷◌, ◌++◌, length, Bool, true, false}
use Rattle.std.specs.Prelude.{◌<◌, Some, None, map, if◌then◌else◌}
use Rattle.postscript_drawing.specs.Components.{glyphs_of}
use Rattle.postscript_view.specs.Value.{view_shown}
use Rattle.postscript_view.specs.declared.font.FontView.{FontView}
use Rattle.postscript_write.specs.Components.{AreClosed, AreKept, IsOpened, IsReached, IsSubset, is_named, is_drawn_with}
use Rattle.postscript_write.specs.Drawings.{AreLike, AreLikeKept, DrawsKept, DrawsTheSame, IsSourceAt, Likeness}
use Rattle.postscript_write.specs.Glyphs.{Sources}
use Rattle.postscript_write.specs.Kept.{AreInPlace, HasAllBy, KeptAreWritten}
use Rattle.postscript_write.specs.Making.{IsCutFont, IsFontBy}
use Rattle.postscript_write.specs.SameGlyphs.{GlyphsKept, IsSameGlyph}
use Rattle.postscript_write.specs.Sources.{choice_by, chosen, is_kept, keeping, kept_of}
use Rattle.postscript_write.proofs.Drawings.{component-moved, many-of}
use Rattle.postscript_write.proofs.Marks.{kept_more}
use Rattle.postscript_write.proofs.Places.{chosen-rises, keeping-at, keeping-many}
use Rattle.std.proofs.Common.{add-one, zero, suc}

reached-moved : (bytes named : List ℕ) (a b : FontView) → IsOpened bytes a → IsOpened bytes b → (glyph : ℕ) → IsReached a named glyph →
    IsReached b named glyph
reached-moved bytes named a b was is _ (is_named glyph h) = is_named glyph h
reached-moved bytes named a b was is _ (is_drawn_with from glyph r c) =
    is_drawn_with from glyph (reached-moved bytes named a b was is from r) (component-moved bytes a b from glyph was is c)

same-bool : (a b : Bool) → (a ≡ true → b ≡ true) → (b ≡ true → a ≡ true) → a ≡ b
same-bool true b f g = sym (f refl)
same-bool false true f g = g refl
same-bool false false f g = refl

-- one list of glyphs is reached from those that are named
one-closed : (bytes named xs ys : List ℕ) → AreClosed bytes named xs → AreClosed bytes named ys → (glyph : ℕ) →
    is_kept xs glyph ≡ is_kept ys glyph
one-closed bytes named xs ys a b glyph = same-bool (is_kept xs glyph) (is_kept ys glyph) (moved xs ys a b) (moved ys xs b a)
  where
    moved : (p q : List ℕ) → AreClosed bytes named p → AreClosed bytes named q → is_kept p glyph ≡ true → is_kept q glyph ≡ true
    moved p q x y h = (y.all glyph).1 (reached-moved bytes named x.font y.font x.opened y.opened glyph ((x.all glyph).0 h))

same-kept : (xs ys : List ℕ) → ((glyph : ℕ) → is_kept xs glyph ≡ is_kept ys glyph) → (n : ℕ) → kept_of xs n ≡ kept_of ys n
same-kept xs ys same zero = refl
same-kept xs ys same (suc n) = subst (λ m. kept_of xs m ≡ kept_of ys m) (add-one n)
    (kept_more xs n ∙ ap (λ l. l ++ (if is_kept xs n then n ∷ [] else [])) (same-kept xs ys same n)
    ∙ ap (λ b. kept_of ys n ++ (if b then n ∷ [] else [])) (same n) ∙ sym (kept_more ys n))

pub kept-are-written : KeptAreWritten
kept-are-written named bytes flat kept k s =
    let n = length s.written.old.char_strings in
    let all = same-kept s.closed k.closed (one-closed bytes named s.closed k.closed s.are k.are) n in
    let many = many-of bytes k.are.font s.written.old k.are.opened s.written.was in
    let same : chosen s.closed n ≡ map Some kept = ap (map Some) (all ∙ ap (kept_of k.closed) (sym many) ∙ sym k.all) in
    record {
      old = s.written.old;
      new = s.written.new;
      was = s.written.was;
      is = s.written.is;
      made = subst (λ (sources : Sources). IsCutFont sources bytes s.written.old flat s.written.new) same s.written.made;
    }

kept-alike : (IsLike : Likeness) (named bytes flat kept : List ℕ) → AreKept named bytes kept → AreLikeKept IsLike chosen named bytes flat →
    AreLike IsLike (λ glyphs. map Some kept) bytes flat
kept-alike IsLike named bytes flat kept k s old new glyph i was is source =
    let n : ℕ = glyphs_of old in
    let many : glyphs_of k.are.font ≡ n = many-of bytes k.are.font (view_shown old) k.are.opened was.laid in
    let all : kept ≡ kept_of s.0 n = k.all ∙ ap (kept_of k.closed) many
    ∙ same-kept k.closed s.0 (one-closed bytes named k.closed s.0 k.are s.1) n in
    s.2 old new glyph i was is (subst (λ (xs : List ℕ). IsSourceAt (map Some xs) i glyph) all source)

-- glyphs that keep their numbers
kept-in-place : (IsLike : Likeness) (named bytes flat kept : List ℕ) → AreKept named bytes kept → AreLikeKept IsLike keeping named bytes flat →
    AreInPlace IsLike bytes flat kept
kept-in-place IsLike named bytes flat kept k s old new i glyph was is source =
    let n : ℕ = glyphs_of old in
    let many : glyphs_of k.are.font ≡ n = many-of bytes k.are.font (view_shown old) k.are.opened was.laid in
    let listed : IsSourceAt (chosen k.closed n) i glyph =
    subst (λ (xs : List ℕ). IsSourceAt (map Some xs) i glyph) (k.all ∙ ap (kept_of k.closed) many) source in
    let rises = chosen-rises k.closed n in
    let less = rises.below i glyph listed in
    let own : is_kept s.0 glyph ≡ true = sym (one-closed bytes named k.closed s.0 k.are s.1 glyph) ∙ rises.own i glyph listed in
    s.2 old new glyph glyph was is
    (record {
      there = subst (λ m. glyph < m) (sym (keeping-many s.0 n)) less;
      is = keeping-at s.0 n glyph less ∙ ap (λ b. if b then Some glyph else None) own;
    })

-- the glyphs of the list are there, whether they keep their numbers or not
pub has-all : (retain : Bool) (named bytes flat : List ℕ) → IsSubset (IsFontBy retain) (choice_by retain) named bytes flat →
    DrawsKept (choice_by retain) named bytes flat → GlyphsKept (choice_by retain) named bytes flat → HasAllBy retain named bytes flat
has-all true named bytes flat written drawn same = λ kept k. record {
  drawn = kept-in-place DrawsTheSame named bytes flat kept k drawn;
  same = kept-in-place IsSameGlyph named bytes flat kept k same;
}
has-all false named bytes flat written drawn same = λ kept k. record {
  written = kept-are-written named bytes flat kept k written;
  drawn = kept-alike DrawsTheSame named bytes flat kept k drawn;
  same = kept-alike IsSameGlyph named bytes flat kept k same;
}
