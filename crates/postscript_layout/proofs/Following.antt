-- Sets of glyphs that grow by substitutions.
use Rattle.std.proofs.Common.{◌≡◌, refl, sym, subst, ◌∙◌, inl, inr, ℕ, ◌+◌, ◌*◌, ◌<◌, ◌≤◌, List, [], ◌∷◌, ◌++◌, arith, Bool, true, false}
use Rattle.std.specs.Prelude.{◌⊎◌, nat_lt}
use Rattle.std.specs.List.{All, Contains}
use Rattle.std.proofs.lemmas.Bool.{ltb-true, ltb-false}
use Rattle.std.proofs.lemmas.List.Elements.{All-append, All-contains, All-cons, All-nil, All-weaker, All-get_or, Contains-append_left, Contains-append_right}
use Rattle.std.proofs.lemmas.List.FromFn.{map-range_with_len_more, length-map-range_with_len, get_or-map-range_with_len}
use Rattle.postscript_layout.specs.Closure.{Rules}
use Rattle.postscript_layout.specs.Numbers.{word, words}
use Rattle.postscript_layout.specs.Steps.{Below, Follows, HoldsMore, IsHeld, IsSame, Makes, Stays}
use Rattle.postscript_layout.specs.declared.glyph_set.GlyphSet.{GlyphSet}

pub nat_cases : (a b : ℕ) → (a < b) ⊎ (b ≤ a)
nat_cases a b = by (nat_lt a b) refl
  where
    by : (t : Bool) → nat_lt a b ≡ t → (a < b) ⊎ (b ≤ a)
    by true e = inl (ltb-true a b e)
    by false e = inr (ltb-false a b e)

pub same-then : (a b c : GlyphSet) → IsSame a b → IsSame b c → IsSame a c
same-then a b c x y off =
    let s = y off in
    let t = x s.0 in (t.0, s.1 ∙ t.1)

pub stays-then : (a b c : GlyphSet) → ((glyph : ℕ) → IsHeld a glyph → IsHeld b glyph) → ((glyph : ℕ) → IsHeld b glyph → IsHeld c glyph) →
    Stays a b → Stays b c → Stays a c
stays-then a b c first second x y within off =
    y (λ glyph h. first glyph (within glyph h)) (x (λ glyph h. within glyph (second glyph h)) off)

-- arrays of numbers
pub words-more : (table : List ℕ) (offset i : ℕ) → words table offset (i + 1) ≡ words table offset i ++ word table (offset + i * 2) ∷ []
words-more table offset i = map-range_with_len_more (λ k. word table (offset + k * 2)) 0 i i (omega arith)

pub words-at : (P : ℕ → Type 0) (table : List ℕ) (offset count k : ℕ) → k < count → All P (words table offset count) →
    P (word table (offset + k * 2))
words-at P table offset count k less all =
    subst P (get_or-map-range_with_len (λ k. word table (offset + k * 2)) 0 count k k 0 less (omega arith))
    (All-get_or P (words table offset count) k 0
    (let many = length-map-range_with_len (λ k. word table (offset + k * 2)) 0 count in omega (arith, many, less)) all)

-- glyphs that are added
pub holds-none : (a : GlyphSet) → HoldsMore a [] a
holds-none a = record {
  grows = λ glyph h. h;
  there = All-nil (IsHeld a);
  only = λ glyph h. inl h;
  same = λ off. (off, refl);
  stays = λ within off. off;
}

pub holds-then : (a b c : GlyphSet) (xs ys : List ℕ) → HoldsMore a xs b → HoldsMore b ys c → HoldsMore a (xs ++ ys) c
holds-then a b c xs ys x y = record {
  grows = λ glyph h. y.grows glyph (x.grows glyph h);
  there = All-append (IsHeld c) xs ys (All-weaker (IsHeld b) (IsHeld c) y.grows xs x.there) y.there;
  only = λ glyph h. elim (y.only glyph h) [
    | inl before ↦ elim (x.only glyph before) [
      | inl old ↦ inl old
      | inr first ↦ inr (Contains-append_left xs ys glyph first)
    ]
    | inr second ↦ inr (Contains-append_right xs ys glyph second)
  ];
  same = same-then a b c x.same y.same;
  stays = stays-then a b c x.grows y.grows x.stays y.stays;
}

-- substitutions that are applied
pub follows-none : (rules : Rules) (a : GlyphSet) → ((ins outs : List ℕ) → rules ins outs → ⊥) → Follows rules a a
follows-none rules a none = record {
  grows = λ glyph h. h;
  done = λ ins outs is h. absurd (none ins outs is);
  least = λ other closed has glyph h. has glyph h;
  same = λ off. (off, refl);
  stays = λ within off. off;
}

pub follows-unmade : (rules : Rules) (a : GlyphSet) → ((ins outs : List ℕ) → rules ins outs → All (IsHeld a) ins → ⊥) → Follows rules a a
follows-unmade rules a never = record {
  grows = λ glyph h. h;
  done = λ ins outs is h. absurd (never ins outs is h);
  least = λ other closed has glyph h. has glyph h;
  same = λ off. (off, refl);
  stays = λ within off. off;
}

pub follows-then : (r s t : Rules) (a b c : GlyphSet) → Follows r a b → Follows s b c →
    ((ins outs : List ℕ) → t ins outs → r ins outs ⊎ s ins outs) → ((ins outs : List ℕ) → r ins outs → t ins outs) →
    ((ins outs : List ℕ) → s ins outs → t ins outs) →
    Follows t a c
follows-then r s t a b c x y split left right = record {
  grows = λ glyph h. y.grows glyph (x.grows glyph h);
  done = λ ins outs is h. elim (split ins outs is) [
    | inl first ↦ All-weaker (IsHeld b) (IsHeld c) y.grows outs (x.done ins outs first h)
    | inr second ↦ y.done ins outs second (All-weaker (IsHeld a) (IsHeld b) x.grows ins h)
  ];
  least = λ other closed has glyph h. y.least other (λ ins outs k. closed ins outs (right ins outs k))
      (x.least other (λ ins outs k. closed ins outs (left ins outs k)) has) glyph h;
  same = same-then a b c x.same y.same;
  stays = stays-then a b c x.grows y.grows x.stays y.stays;
}

pub follows-as : (r t : Rules) (a b : GlyphSet) → Follows r a b → ((ins outs : List ℕ) → t ins outs → r ins outs) →
    ((ins outs : List ℕ) → r ins outs → t ins outs) →
    Follows t a b
follows-as r t a b x to from = record {
  grows = x.grows;
  done = λ ins outs is h. x.done ins outs (to ins outs is) h;
  least = λ other closed has glyph h. x.least other (λ ins outs k. closed ins outs (from ins outs k)) has glyph h;
  same = x.same;
  stays = x.stays;
}

pub follows-makes : (these those : List ℕ) (a b : GlyphSet) → All (IsHeld a) these → HoldsMore a those b → Follows (Makes these those) a b
follows-makes these those a b held more = record {
  grows = more.grows;
  done = λ ins outs is h. subst (λ (xs : List ℕ). All (IsHeld b) xs) (sym is.1) more.there;
  least = λ other closed has glyph h. elim (more.only glyph h) [
    | inl old ↦ has glyph old
    | inr new ↦ All-contains (Contains other) those glyph
        (closed these those (refl, refl) (All-weaker (IsHeld a) (Contains other) has these held)) new
  ];
  same = more.same;
  stays = more.stays;
}

pub one-held : (a : GlyphSet) (glyph : ℕ) → IsHeld a glyph → All (IsHeld a) (glyph ∷ [])
one-held a glyph held = All-cons (IsHeld a) glyph [] held (All-nil (IsHeld a))

-- one rule after the other
pub below-none : (rules : ℕ → Rules) (a : GlyphSet) → Follows (Below rules 0) a a
below-none rules a = follows-none (Below rules 0) a (λ ins outs is. (let less = is.1 in omega (arith, less)))

pub below-more : (rules : ℕ → Rules) (n : ℕ) (a b c : GlyphSet) → Follows (Below rules n) a b → Follows (rules n) b c →
    Follows (Below rules (n + 1)) a c
below-more rules n a b c x y = follows-then (Below rules n) (rules n) (Below rules (n + 1)) a b c x y split
    (λ ins outs is. (let less = is.1 in (is.0, omega (arith, less), is.2)))
    (λ ins outs is. (n, omega arith, is))
  where
    split : (ins outs : List ℕ) → Below rules (n + 1) ins outs → Below rules n ins outs ⊎ rules n ins outs
    split ins outs is = elim (nat_cases is.0 n) [
      | inl before ↦ inl (is.0, before, is.2)
      | inr far ↦ (let less = is.1 in let same : is.0 ≡ n = omega (arith, less, far) in
          inr (subst (λ k. rules k ins outs) same is.2))
    ]
