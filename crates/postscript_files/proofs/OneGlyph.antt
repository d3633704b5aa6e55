-- A character map has one glyph for each character.
use Rattle.std.proofs.Common.{◌≡◌, refl, sym, ap, ◌∙◌, inl, inr, ℕ, zero, suc, ◌<◌, ◌≤◌, arith}
use Rattle.std.specs.Prelude.{◌⊎◌}
use Rattle.std.proofs.lemmas.Bool.{cases_eq, cases_lt}
use Rattle.postscript_sfnt.specs.CharacterMap.{Holds, IsFirst, IsGlyphOf, first4, last4, gives4, first12, last12, gives12, glyph6}
use Rattle.postscript_sfnt.specs.Maps.{Maps}
use Rattle.postscript_sfnt.specs.declared.character_map.CharacterMap.{CharacterMap}
use Rattle.postscript_sfnt.specs.declared.character_map.CharacterMap.TheVariants.{Segments, Groups, Trimmed}

-- none of the first n segments holds a character, and the next one does not
none-more : (first last : ℕ → ℕ) (count char n : ℕ) → ((i : ℕ) → i < n → Holds first last count i char → ⊥) →
    (Holds first last count n char → ⊥) → (i : ℕ) → i < suc n → Holds first last count i char → ⊥
none-more first last count char n none here i below holds = elim (cases_eq i n) [
  | inl same ↦ here (record {
    listed = omega (arith, holds.listed);
    from = let e = ap first same in omega (arith, holds.from);
    to = let e = ap last same in omega (arith, holds.to);
  })
  | inr other ↦ none i (omega (arith, other)) holds
]

-- the first segment that holds a character, or none of the first n does
pub first-or-none : (first last : ℕ → ℕ) (count char n : ℕ) → n ≤ count →
    ((i : ℕ) × IsFirst first last count char i) ⊎ ((i : ℕ) → i < n → Holds first last count i char → ⊥)
first-or-none first last count char zero within = inr (λ i below holds. absurd (omega (arith, below)))
first-or-none first last count char (suc n) within = elim (first-or-none first last count char n (omega arith)) [
  | inl found ↦ inl found
  | inr none ↦ elim (cases_lt char (first n)) [
    | inl less ↦ inr (none-more first last count char n none (λ holds. absurd (omega (arith, holds.from))))
    | inr from ↦ elim (cases_lt (last n) char) [
      | inl less ↦ inr (none-more first last count char n none (λ holds. absurd (omega (arith, holds.to))))
      | inr to ↦ inl (n, record { holds = record { listed = omega arith; from = from; to = to }; before = none })
    ]
  ]
]

pub one-of-first : (first last : ℕ → ℕ) (gives : (i char : ℕ) → ℕ) (count char a b : ℕ) →
    IsGlyphOf first last gives count char a → IsGlyphOf first last gives count char b → a ≡ b
one-of-first first last gives count char a b x y = elim (first-or-none first last count char count (omega arith)) [
  | inl found ↦ x.held found.0 found.1 ∙ sym (y.held found.0 found.1)
  | inr none ↦ x.lost (λ i h. none i h.listed h) ∙ sym (y.lost (λ i h. none i h.listed h))
]

one-first : (first last : ℕ → ℕ) (count char i j : ℕ) → IsFirst first last count char i → IsFirst first last count char j → i ≡ j
one-first first last count char i j x y = elim (cases_eq i j) [
  | inl same ↦ same
  | inr other ↦ elim (cases_lt i j) [
    | inl less ↦ absurd (y.before i less x.holds)
    | inr more ↦ absurd (x.before j (omega (arith, other)) y.holds)
  ]
]

pub some-of-first : (first last : ℕ → ℕ) (gives : (i char : ℕ) → ℕ) (count char : ℕ) →
    (glyph : ℕ) × IsGlyphOf first last gives count char glyph
some-of-first first last gives count char = elim (first-or-none first last count char count (omega arith)) [
  | inl found ↦ (
    gives found.0 char,
    record {
      held = λ i h. ap (λ k. gives k char) (one-first first last count char found.0 i found.1 h);
      lost = λ none. absurd (none found.0 found.1.holds);
    },
  )
  | inr none ↦ (
    0,
    record {
      held = λ i h. absurd (none i h.holds.listed h.holds);
      lost = λ h. refl;
    },
  )
]

pub one-glyph : (map : CharacterMap) (char a b : ℕ) → Maps map char a → Maps map char b → a ≡ b
one-glyph (Segments it) char a b x y =
    one-of-first (first4 it.table.now it.count) (last4 it.table.now) (gives4 it.table.now it.count) it.count char a b x y
one-glyph (Groups it) char a b x y =
    one-of-first (first12 it.table.now) (last12 it.table.now) (gives12 it.table.now) it.count char a b x y
one-glyph (Trimmed it) char a b x y = x ∙ sym y

pub some-glyph : (map : CharacterMap) (char : ℕ) → (glyph : ℕ) × Maps map char glyph
some-glyph (Segments it) char =
    some-of-first (first4 it.table.now it.count) (last4 it.table.now) (gives4 it.table.now it.count) it.count char
some-glyph (Groups it) char =
    some-of-first (first12 it.table.now) (last12 it.table.now) (gives12 it.table.now) it.count char
some-glyph (Trimmed it) char = (glyph6 it.table.now it.first it.count char, refl)
