-- The list of the glyphs of a set, and when a set is closed.
use Rattle.std.proofs.Common.{◌≡◌, sym, subst, ◌∙◌, ap, inl, inr, ℕ, ◌+◌, ◌<◌, List, [], ◌∷◌, ◌++◌, length, get_or, arith, Bool, true, false, length-append, ◌≤◌}
use Rattle.std.specs.List.{Contains}
use Rattle.std.specs.List.Sorted.{IsStrictlyIncreasing}
use Rattle.std.proofs.lemmas.List.{get_or_append_left, get_or_push}
use Rattle.std.proofs.lemmas.List.Elements.{All-contains, All-weaker, All-contains_itself, Contains-get_or, Contains-append_left, Contains-push, Contains-push_cases}
use Rattle.postscript_layout.specs.Closure.{IsClosure, IsClosedBy}
use Rattle.postscript_layout.specs.Steps.{AreMarked, Follows, HoldsMore, IsHeld, IsSettled}
use Rattle.postscript_layout.specs.Substitutions.{Substitutes}
use Rattle.postscript_layout.specs.declared.glyph_set.GlyphSet.{GlyphSet}
use Rattle.postscript_layout.proofs.Following.{nat_cases}

pub rises-none : IsStrictlyIncreasing []
rises-none k less = absurd (omega (arith, less))

pub rises-push : (xs : List ℕ) (x : ℕ) → IsStrictlyIncreasing xs → ((y : ℕ) → Contains xs y → y < x) → IsStrictlyIncreasing (xs ++ x ∷ [])
rises-push xs x rises below k less = elim (nat_cases (k + 1) (length xs)) [
  | inl before ↦ (let lower = get_or_append_left xs (x ∷ []) 0 k (omega (arith, before)) in
      let upper = get_or_append_left xs (x ∷ []) 0 (k + 1) before in
      let h = rises k before in
      subst (λ n. n < get_or (xs ++ x ∷ []) (k + 1) 0) (sym lower) (subst (λ n. get_or xs k 0 < n) (sym upper) h))
  | inr far ↦ (let many = length-append xs (x ∷ []) in
      let last : length xs ≡ k + 1 = omega (arith, far, less, many) in
      let here : k < length xs = omega (arith, last) in
      let lower = get_or_append_left xs (x ∷ []) 0 k here in
      let upper = get_or_push xs x 0 (k + 1) last in
      let h = below (get_or xs k 0) (Contains-get_or xs k 0 here) in
      subst (λ n. n < get_or (xs ++ x ∷ []) (k + 1) 0) (sym lower) (subst (λ n. get_or xs k 0 < n) (sym upper) h))
]

-- The list of the indices below n whose marks are set.
pub record Lists (marks : List Bool) (n : ℕ) (glyphs : List ℕ) : Type 0 where
  pub has : (glyph : ℕ) → glyph < n → get_or marks glyph false ≡ true → Contains glyphs glyph
  pub only : (glyph : ℕ) → Contains glyphs glyph → get_or marks glyph false ≡ true
  pub below : (glyph : ℕ) → Contains glyphs glyph → glyph < n
  pub rises : IsStrictlyIncreasing glyphs
  pub few : length glyphs ≤ n

pub lists-none : (marks : List Bool) → Lists marks 0 []
lists-none marks = record {
  has = λ glyph less set. absurd (omega (arith, less));
  only = λ glyph h. (let less = h.1 in absurd (omega (arith, less)));
  below = λ glyph h. (let less = h.1 in absurd (omega (arith, less)));
  rises = rises-none;
  few = omega arith;
}

pub lists-set : (marks : List Bool) (n : ℕ) (glyphs : List ℕ) → Lists marks n glyphs → get_or marks n false ≡ true →
    Lists marks (n + 1) (glyphs ++ n ∷ [])
lists-set marks n glyphs l set = record {
  has = λ glyph less is. elim (nat_cases glyph n) [
    | inl before ↦ Contains-append_left glyphs (n ∷ []) glyph (l.has glyph before is)
    | inr far ↦ (let same : n ≡ glyph = omega (arith, less, far) in subst (λ g. Contains (glyphs ++ n ∷ []) g) same (Contains-push glyphs n))
  ];
  only = λ glyph h. elim (Contains-push_cases glyphs n glyph h) [
    | inl old ↦ l.only glyph old
    | inr same ↦ subst (λ g. get_or marks g false ≡ true) same set
  ];
  below = λ glyph h. elim (Contains-push_cases glyphs n glyph h) [
    | inl old ↦ (let less = l.below glyph old in omega (arith, less))
    | inr same ↦ omega (arith, same)
  ];
  rises = rises-push glyphs n l.rises l.below;
  few = (let long = length-append glyphs (n ∷ []) in let few = l.few in omega (arith, long, few));
}

pub lists-unset : (marks : List Bool) (n : ℕ) (glyphs : List ℕ) → Lists marks n glyphs → get_or marks n false ≡ false →
    Lists marks (n + 1) glyphs
lists-unset marks n glyphs l off = record {
  has = λ glyph less is. elim (nat_cases glyph n) [
    | inl before ↦ l.has glyph before is
    | inr far ↦ (let same : glyph ≡ n = omega (arith, less, far) in
        let never : true ≡ false = sym is ∙ ap (λ g. get_or marks g false) same ∙ off in absurd (cc))
  ];
  only = l.only;
  below = λ glyph h. (let less = l.below glyph h in omega (arith, less));
  rises = l.rises;
  few = (let few = l.few in omega (arith, few));
}

-- The set after some rounds.
pub record Reaches (gsub lookups : List ℕ) (old new : GlyphSet) : Type 0 where
  pub grows : (glyph : ℕ) → IsHeld old glyph → IsHeld new glyph
  pub least : (other : List ℕ) → IsClosedBy (Substitutes gsub lookups) (Contains other) → ((glyph : ℕ) → IsHeld old glyph → Contains other glyph) →
      (glyph : ℕ) → IsHeld new glyph → Contains other glyph

pub reaches-none : (gsub lookups : List ℕ) (a : GlyphSet) → Reaches gsub lookups a a
reaches-none gsub lookups a = record { grows = λ glyph h. h; least = λ other closed has glyph h. has glyph h }

pub reaches-more : (gsub lookups : List ℕ) (a b c d : GlyphSet) → Reaches gsub lookups a b → c.marks.items ≡ b.marks.items → Follows (Substitutes gsub lookups) c d →
    Reaches gsub lookups a d
reaches-more gsub lookups a b c d r same f = record {
  grows = λ glyph h. f.grows glyph (is glyph (r.grows glyph h));
  least = λ other closed has glyph h. f.least other closed (λ g k. r.least other closed has g (was g k)) glyph h;
}
  where
    is : (glyph : ℕ) → IsHeld b glyph → IsHeld c glyph
    is glyph h = subst (λ (marks : List Bool). get_or marks glyph false ≡ true) (sym same) h

    was : (glyph : ℕ) → IsHeld c glyph → IsHeld b glyph
    was glyph h = subst (λ (marks : List Bool). get_or marks glyph false ≡ true) same h

-- a round that adds no glyph
pub settles : (gsub lookups : List ℕ) (a b c : GlyphSet) → Reaches gsub lookups a c → Follows (Substitutes gsub lookups) b c → c.grown ≡ false → IsSettled gsub lookups a c
settles gsub lookups a b c r f off = record {
  grows = r.grows;
  closed = λ ins outs is h. f.done ins outs is (All-weaker (IsHeld c) (IsHeld b) back ins h);
  least = r.least;
}
  where
    back : (glyph : ℕ) → IsHeld c glyph → IsHeld b glyph
    back glyph h = subst (λ (marks : List Bool). get_or marks glyph false ≡ true) ((f.same off).1) h

pub closes : (gsub lookups given glyphs : List ℕ) (none some all : GlyphSet) → ((glyph : ℕ) → IsHeld none glyph → ⊥) → HoldsMore none given some →
    IsSettled gsub lookups some all → AreMarked all.marks.items glyphs → IsClosure gsub lookups given glyphs
closes gsub lookups given glyphs none some all empty more settled marked = record {
  holds = All-weaker (IsHeld some) (Contains glyphs) (λ glyph h. marked.0 glyph (settled.grows glyph h)) given more.there;
  closed = λ ins outs is h. All-weaker (IsHeld all) (Contains glyphs) marked.0 outs
      (settled.closed ins outs is (All-weaker (Contains glyphs) (IsHeld all) marked.1 ins h));
  least = λ other holds closed. All-weaker (Contains glyphs) (Contains other)
      (λ glyph h. settled.least other closed (λ g k. elim (more.only g k) [
        | inl old ↦ absurd (empty g old)
        | inr one ↦ All-contains (Contains other) given g holds one
      ]) glyph (marked.1 glyph h)) glyphs (All-contains_itself glyphs);
}
