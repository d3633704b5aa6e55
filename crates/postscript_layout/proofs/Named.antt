-- Lookups that features name, one feature after the other.
use Rattle.std.proofs.Common.{◌≡◌, ◌∙◌, ap, subst, inl, inr, ℕ, zero, suc, ◌+◌, ◌<◌, List, [], ◌∷◌, ◌++◌, add-one, arith}
use Rattle.std.specs.List.{Contains, range_with_len}
use Rattle.std.proofs.lemmas.List.Elements.{All-contains}
use Rattle.postscript_layout.specs.Features.{AreNamed, IsNamed, Names, feature_at, indices_of, tag_of}
use Rattle.postscript_layout.specs.Steps.{AreMarked, Gathers, HoldsMore, IsHeld}
use Rattle.postscript_layout.specs.declared.glyph_set.GlyphSet.{GlyphSet}
use Rattle.postscript_layout.proofs.Following.{nat_cases}

-- some of the first features names the lookup
abbrev pub NamedBelow : List ℕ → (tags : List ℕ) → (count lookup : ℕ) → Type 0
NamedBelow table tags count lookup = (i : ℕ) × (i < count) × Names table tags lookup i

pub gathers-none : (P : ℕ → Type 0) (a : GlyphSet) → ((n : ℕ) → P n → ⊥) → Gathers P a a
gathers-none P a none = record { grows = λ n h. h; there = λ n p. absurd (none n p); only = λ n h. inl h }

-- a feature with one of the tags
pub gathers-feature : (table tags : List ℕ) (i : ℕ) (a b : GlyphSet) → Contains tags (tag_of table i) →
    HoldsMore a (indices_of table (feature_at table i)) b → Gathers (λ lookup. Names table tags lookup i) a b
gathers-feature table tags i a b has more = record {
  grows = more.grows;
  there = λ n named. All-contains (IsHeld b) (indices_of table (feature_at table i)) n more.there named.1;
  only = λ n h. elim (more.only n h) [ inl old ↦ inl old | inr new ↦ inr (has, new) ];
}

pub below-none : (table tags : List ℕ) (a : GlyphSet) → Gathers (NamedBelow table tags 0) a a
below-none table tags a = gathers-none (NamedBelow table tags 0) a (λ n named. (let less = named.1 in omega (arith, less)))

pub below-more : (table tags : List ℕ) (i : ℕ) (a b c : GlyphSet) → Gathers (NamedBelow table tags i) a b →
    Gathers (λ lookup. Names table tags lookup i) b c → Gathers (NamedBelow table tags (i + 1)) a c
below-more table tags i a b c x y = record {
  grows = λ n h. y.grows n (x.grows n h);
  there = there;
  only = λ n h. elim (y.only n h) [
    | inl before ↦ elim (x.only n before) [
      | inl old ↦ inl old
      | inr named ↦ (let less = named.1 in inr (named.0, omega (arith, less), named.2))
    ]
    | inr named ↦ inr (i, omega arith, named)
  ];
}
  where
    there : (n : ℕ) → NamedBelow table tags (i + 1) n → IsHeld c n
    there n named = elim (nat_cases named.0 i) [
      | inl before ↦ y.grows n (x.there n (named.0, before, named.2))
      | inr far ↦ (let less = named.1 in let same : named.0 ≡ i = omega (arith, less, far) in
          y.there n (subst (λ k. Names table tags n k) same named.2))
    ]

-- the list of the lookups
pub are-named : (table tags lookups : List ℕ) (none some : GlyphSet) → ((n : ℕ) → IsHeld none n → ⊥) → Gathers (IsNamed table tags) none some →
    AreMarked some.marks.items lookups → AreNamed table tags lookups
are-named table tags lookups none some empty gathers marked = record {
  all = λ n named. marked.0 n (gathers.there n named);
  only = λ n h. elim (gathers.only n (marked.1 n h)) [ inl old ↦ absurd (empty n old) | inr named ↦ named ];
}

-- the numbers below a number, and one number more
range-from : (a n m : ℕ) → a + n ≡ m → range_with_len a (suc n) ≡ range_with_len a n ++ m ∷ []
range-from a zero m same = ap (λ (k : ℕ). k ∷ []) (omega (arith, same))
range-from a (suc n) m same = ap (λ (xs : List ℕ). a ∷ xs) (range-from (a + 1) n m (omega (arith, same)))

pub range-more : (n : ℕ) → range_with_len 0 (n + 1) ≡ range_with_len 0 n ++ n ∷ []
range-more n = ap (range_with_len 0) (add-one n) ∙ range-from 0 n n (omega arith)
