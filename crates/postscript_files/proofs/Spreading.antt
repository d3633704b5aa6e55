-- Glyphs at their own indices.
use Rattle.std.proofs.Common.{◌≡◌, refl, sym, ap, ◌∙◌, subst, inl, inr, ℕ, zero, suc, ◌+◌, ◌<◌, ◌==◌, List, length, get_or, arith, Bool, true, false, get_or-set_other, get_or-set_same}
use Rattle.std.specs.Prelude.{◌↔◌, Option, None, Some, slice_set, if◌then◌else◌}
use Rattle.std.proofs.Math.ListN.{length-set}
use Rattle.std.proofs.lemmas.Bool.{cases_eq, cases_lt, eq-eqb, eqb-true, ne_eqb}
use Rattle.std.proofs.lemmas.List.Elements.{Contains-get_or}
use Rattle.std.proofs.lemmas.List.{get_or_default, set_past}
use Rattle.std.specs.List.{Contains}
use Rattle.postscript_sequences.specs.Numbers.{first_some, new_number, or_else}
use Rattle.postscript_files.specs.Renumbered.{AreSpread}

-- the first of these glyphs, up to an index, are at their own indices
pub record AreSpreadTo (glyphs : List ℕ) (i count : ℕ) (all : List ℕ) : Type 0 where
  pub many : length all ≡ count
  pub each : (k : ℕ) → k < i → get_or glyphs k 0 < count → get_or all (get_or glyphs k 0) 0 ≡ get_or glyphs k 0
  pub only : (n : ℕ) → 0 < get_or all n 0 → (get_or all n 0 ≡ n) × Contains glyphs n

-- one more glyph
only-more : (glyphs all : List ℕ) (g : ℕ) → Contains glyphs g → ((n : ℕ) → 0 < get_or all n 0 → (get_or all n 0 ≡ n) × Contains glyphs n) →
    (n : ℕ) → 0 < get_or (slice_set all g g) n 0 → (get_or (slice_set all g g) n 0 ≡ n) × Contains glyphs n
only-more glyphs all g there before n some = elim (cases_eq n g) [
  | inr other ↦
      let e = get_or-set_other all g n g 0 other in
      let h = before n (omega (arith, e, some)) in (e ∙ h.0, h.1)
  | inl same ↦ elim (cases_lt g (length all)) [
    | inl room ↦ (
      ap (λ k. get_or (slice_set all g g) k 0) same ∙ get_or-set_same all g g 0 room ∙ sym same,
      subst (Contains glyphs) (sym same) there,
    )
    | inr past ↦
        let e = ap (λ (xs : List ℕ). get_or xs n 0) (set_past all g g past) in
        let h = before n (omega (arith, e, some)) in (e ∙ h.0, h.1)
  ]
]

pub spread-more : (glyphs : List ℕ) (i count : ℕ) (all : List ℕ) → i < length glyphs → AreSpreadTo glyphs i count all →
    AreSpreadTo glyphs (i + 1) count (slice_set all (get_or glyphs i 0) (get_or glyphs i 0))
spread-more glyphs i count all within it = record {
  many = length-set all (get_or glyphs i 0) (get_or glyphs i 0) ∙ it.many;
  each = λ k below low. elim (cases_eq (get_or glyphs k 0) (get_or glyphs i 0)) [
    | inl same ↦
        let m = it.many in
        ap (λ n. get_or (slice_set all (get_or glyphs i 0) (get_or glyphs i 0)) n 0) same
        ∙ get_or-set_same all (get_or glyphs i 0) (get_or glyphs i 0) 0 (omega (arith, low, same, m)) ∙ sym same
    | inr other ↦ elim (cases_eq k i) [
      | inl equal ↦ absurd (other (ap (λ j. get_or glyphs j 0) equal))
      | inr apart ↦ get_or-set_other all (get_or glyphs i 0) (get_or glyphs k 0) (get_or glyphs i 0) 0 other
          ∙ it.each k (omega (arith, below, apart)) low
    ]
  ];
  only = only-more glyphs all (get_or glyphs i 0) (Contains-get_or glyphs i 0 within) it.only;
}

pub spread-all : (glyphs : List ℕ) (count : ℕ) (all : List ℕ) → AreSpreadTo glyphs (length glyphs) count all → AreSpread glyphs count all
spread-all glyphs count all it = record {
  many = it.many;
  each = λ n below h.
      let e : get_or glyphs h.0 0 ≡ n = get_or_default glyphs h.0 0 n h.1 ∙ h.2 in
      subst (λ m. get_or all m 0 ≡ m) e (it.each h.0 h.1 (omega (arith, e, below)));
  only = it.only;
}

-- the first index of a glyph

-- a value that is there is that of the last index, or of one before
first-some : (f : ℕ → Option ℕ) (count n : ℕ) → first_some f count ≡ Some n → (k : ℕ) × (k < count) × (f k ≡ Some n)
first-some f zero n is = absurd (cc)
first-some f (suc m) n is = by (first_some f m) (f m) (λ e. first-some f m n e) refl is
  where
    by : (x y : Option ℕ) → (x ≡ Some n → (k : ℕ) × (k < m) × (f k ≡ Some n)) → y ≡ f m → or_else x y ≡ Some n →
        (k : ℕ) × (k < suc m) × (f k ≡ Some n)
    by None y low same e = (m, omega arith, sym same ∙ e)
    by (Some k) y low same e = let h = low e in (h.0, let l = h.1 in omega (arith, l), h.2)

-- there is no value before
first-none : (f : ℕ → Option ℕ) (count : ℕ) → ((k : ℕ) → k < count → f k ≡ None) → first_some f count ≡ None
first-none f zero none = refl
first-none f (suc m) none =
    ap (λ x. or_else x (f m)) (first-none f m (λ k less. none k (omega (arith, less)))) ∙ none m (omega arith)

first-at : (f : ℕ → Option ℕ) (count n : ℕ) → n < count → ((k : ℕ) → k < n → f k ≡ None) → f n ≡ Some n → first_some f count ≡ Some n
first-at f zero n less none here = absurd (omega (arith, less))
first-at f (suc m) n less none here = elim (cases_eq n m) [
  | inl same ↦
      ap (λ x. or_else x (f m)) (first-none f m (λ k low. none k (omega (arith, low, same)))) ∙ ap f (sym same) ∙ here
  | inr other ↦ ap (λ x. or_else x (f m)) (first-at f m n (omega (arith, less, other)) none here)
]

-- the test of an index
abbrev found : (glyphs : List ℕ) (glyph k : ℕ) → Option ℕ
found glyphs glyph k = if get_or glyphs k 0 == glyph then Some k else None

found-at : (b : Bool) (k n : ℕ) → (if b then Some k else None) ≡ Some n → (b ≡ true) × (k ≡ n)
found-at true k n is = (refl, cc)
found-at false k n is = absurd (cc)

not-found : (b : Bool) (k : ℕ) → b ≡ false → (if b then Some k else None) ≡ None
not-found true k is = absurd (cc)
not-found false k is = refl

-- a glyph has its first index
pub index-of : (glyphs : List ℕ) (glyph n : ℕ) → new_number glyphs glyph ≡ Some n → (n < length glyphs) × (get_or glyphs n 0 ≡ glyph)
index-of glyphs glyph n is =
    let h = first-some (found glyphs glyph) (length glyphs) n is in
    let at = found-at (get_or glyphs h.0 0 == glyph) h.0 n h.2 in (
      subst (λ m. m < length glyphs) at.1 h.1,
      subst (λ m. get_or glyphs m 0 ≡ glyph) at.1 (eqb-true (get_or glyphs h.0 0) glyph at.0),
    )

pub index-at : (glyphs : List ℕ) (glyph n : ℕ) → n < length glyphs → get_or glyphs n 0 ≡ glyph →
    ((k : ℕ) → k < n → get_or glyphs k 0 ≡ glyph → ⊥) → new_number glyphs glyph ≡ Some n
index-at glyphs glyph n less is before =
    first-at (found glyphs glyph) (length glyphs) n less
    (λ k low. not-found (get_or glyphs k 0 == glyph) k (ne_eqb (get_or glyphs k 0) glyph (before k low)))
    (ap (λ b. if b then Some n else None) (eq-eqb (get_or glyphs n 0) glyph is))

one-number : (a b : ℕ) → Some a ≡ Some b → a ≡ b
one-number a b e = cc

-- glyphs that are at their own indices have these as numbers
own-index : (kept spread : List ℕ) (count glyph : ℕ) → AreSpread kept count spread → Contains kept glyph → glyph < count →
    new_number spread glyph ≡ Some glyph
own-index kept spread count glyph it h less =
    index-at spread glyph glyph (let m = it.many in omega (arith, m, less)) (it.each glyph less h)
    (λ k low is. let own = (it.only k (omega (arith, low, is))).0 in omega (arith, own, low, is))

pub own-indices : (kept spread : List ℕ) (count : ℕ) → AreSpread kept count spread → ((glyph : ℕ) → Contains kept glyph → glyph < count) →
    (0 < count → Contains kept 0) → (glyph number : ℕ) →
    (new_number spread glyph ≡ Some number) ↔ (Contains kept glyph × (number ≡ glyph))
own-indices kept spread count it low first glyph number = (
  λ is. (let h = is-kept is in (h, one-number number glyph (sym is ∙ own-index kept spread count glyph it h (low glyph h)))),
  λ h. own-index kept spread count glyph it h.0 (low glyph h.0) ∙ ap Some (sym h.1),
)
  where
    is-kept : new_number spread glyph ≡ Some number → Contains kept glyph
    is-kept is =
        let at = index-of spread glyph number is in
        let less = at.0 in
        let here = at.1 in
        let m = it.many in
        elim (cases_eq glyph 0) [
          | inl none ↦ subst (Contains kept) (sym none) (first (omega (arith, less, m)))
          | inr some ↦
              let own = it.only number (omega (arith, here, some)) in
              subst (Contains kept) (sym own.0 ∙ here) own.1
        ]
