-- Ranges of glyphs in order.
use Rattle.std.proofs.Common.{◌≡◌, ℕ, zero, suc, ◌+◌, ◌-◌, ◌*◌, ◌<◌, ◌≤◌, List, inl, inr, sym, subst, ap, ◌∙◌, arith}
use Rattle.std.specs.Prelude.{Option, Some, None, IfNone}
use Rattle.postscript_base.specs.Compact1.Dictionary.{Dictionary}
use Rattle.postscript_base.specs.declared.compact1.operator.Operator.TheVariants as operators
use Rattle.postscript_base.specs.Index.{number_at}
use Rattle.postscript_view.specs.Selecting.{IsSelectOf, SelectStandsAt}
use Rattle.postscript_view.specs.declared.select.Ranges.{Ranges}
use Rattle.postscript_view.specs.declared.select.Select.{Select}
use Rattle.postscript_view.specs.declared.select.Select.TheVariants.{Listed, InRanges, Unknown}
use Rattle.postscript_view.specs.Select.{offset_of, IsInGlyphRanges, IsSelected, Selects, first_glyph, AreInOrder, LiesIn}

-- what does not fall from each to the next does not fall
rise : (f : ℕ → ℕ) (count : ℕ) → ((r : ℕ) → r < count → f r ≤ f (r + 1)) → (i k : ℕ) → k + i ≤ count → f i ≤ f (k + i)
rise f count order i zero h =
    let same : f i ≡ f (0 + i) = ap f (omega arith) in
    omega (arith, same)
rise f count order i (suc k) h =
    let before = rise f count order i k (omega (arith, h)) in
    let step = order (k + i) (omega (arith, h)) in
    let next : f (k + i + 1) ≡ f (suc k + i) = ap f (omega arith) in
    omega (arith, before, step, next)

pub risen : (f : ℕ → ℕ) (count : ℕ) → ((r : ℕ) → r < count → f r ≤ f (r + 1)) → (i j : ℕ) → i ≤ j → j ≤ count → f i ≤ f j
risen f count order i j below within =
    let there : f (j - i + i) ≡ f j = ap f (omega (arith, below)) in
    let h = rise f count order i (j - i) (omega (arith, below, within)) in
    omega (arith, there, h)

-- a glyph before the first range lies in none, nor does one behind the last
pub before_all : (bytes : List ℕ) (start count glyph : ℕ) → AreInOrder bytes start count → glyph < first_glyph bytes start 0 → (r : ℕ) →
    r < count → LiesIn bytes start r glyph → ⊥
before_all bytes start count glyph order before r there lies =
    let h = risen (first_glyph bytes start) count order 0 r (omega arith) (omega (arith, there)) in
    absurd (omega (arith, h, before, lies.0))

pub behind_all : (bytes : List ℕ) (start count glyph : ℕ) → AreInOrder bytes start count → first_glyph bytes start count ≤ glyph →
    (r : ℕ) → r < count → LiesIn bytes start r glyph → ⊥
behind_all bytes start count glyph order behind r there lies =
    let h = risen (first_glyph bytes start) count order (r + 1) count (omega (arith, there)) (omega arith) in
    absurd (omega (arith, h, behind, lies.1))

-- a glyph lies in one range at most
one-range : (bytes : List ℕ) (start count glyph r q : ℕ) → AreInOrder bytes start count → r < count → q < count →
    LiesIn bytes start r glyph → LiesIn bytes start q glyph → r ≡ q
one-range bytes start count glyph r q order r_there q_there r_lies q_lies =
    let above : r < q → ⊥ = λ h. omega
    (arith, risen (first_glyph bytes start) count order (r + 1) q (omega (arith, h)) (omega (arith, q_there)), r_lies.1, q_lies.0) in
    let below : q < r → ⊥ = λ h. omega
    (arith, risen (first_glyph bytes start) count order (q + 1) r (omega (arith, h)) (omega (arith, r_there)), q_lies.1, r_lies.0) in
    omega (arith, above, below)

-- FDSelect gives a glyph one font dictionary
pub one_selected : (bytes : List ℕ) (place glyphs glyph a b : ℕ) → Selects bytes place glyphs glyph a →
    Selects bytes place glyphs glyph b → a ≡ b
one_selected bytes place glyphs glyph a b (inl x) (inl y) = x.dictionary ∙ sym y.dictionary
one_selected bytes place glyphs glyph a b (inl x) (inr y) = let never : 0 ≡ 3 = sym x.format ∙ y.format in absurd (omega (arith, never))
one_selected bytes place glyphs glyph a b (inr x) (inl y) = let never : 0 ≡ 3 = sym y.format ∙ x.format in absurd (omega (arith, never))
one_selected bytes place glyphs glyph a b (inr x) (inr y) =
    let same : x.range.range ≡ y.range.range = one-range bytes
    (place + 3) _ glyph x.range.range y.range.range x.order x.range.there y.range.there x.range.lies y.range.lies in
    x.range.dictionary ∙ ap (λ r. number_at bytes (place + 3 + r * 3 + 2) 1) same ∙ sym y.range.dictionary

pub one_named : (bytes : List ℕ) (map : Dictionary) (glyphs glyph a b : ℕ) → IsSelected bytes map glyphs glyph a →
    IsSelected bytes map glyphs glyph b → a ≡ b
one_named bytes map glyphs glyph a b x y =
    let here = x.1 in
    let there = y.1 in
    let same : x.0 ≡ y.0 = cc in
    one_selected bytes y.0 glyphs glyph a b (subst (λ place. Selects bytes place glyphs glyph a) same x.2) y.2

-- what stands at the place that a dictionary names is what it names
pub named : (s : Select) (bytes : List ℕ) (map : Dictionary) (place glyphs : ℕ) → offset_of map operators.FDSelect ≡ Some place →
    SelectStandsAt s bytes place glyphs → IsSelectOf s bytes map glyphs
named (Listed list) bytes map place glyphs names h =
    let there = h.1 in
    (h.0, cc, h.2)
named (InRanges ranges) bytes map place glyphs names h =
    let there = h.1 in
    (h.0, cc, h.2)
named Unknown bytes map place glyphs names h = λ glyph fd selected.
    let other = selected.1 in
    let same : selected.0 ≡ place = cc in
    h glyph fd (subst (λ p. Selects bytes p glyphs glyph fd) same selected.2)

-- where the ranges give none, none is selected
none_at_place : (r : Ranges) (glyph : ℕ) → ((fd : ℕ) → IsInGlyphRanges r.bytes.now r.place r.glyphs glyph fd → ⊥) → (bytes : List ℕ)
    (place glyphs fd : ℕ) → SelectStandsAt (InRanges r) bytes place glyphs → Selects bytes place glyphs glyph fd → ⊥
none_at_place r glyph none bytes place glyphs fd stands selects =
    let bytes_are = stands.0 in
    let place_is = stands.1 in
    let glyphs_are = stands.2 in
    let format : number_at bytes place 1 ≡ number_at r.bytes.now r.place 1 = cc in
    elim selects [
      | inl listed ↦ absurd (omega (arith, listed.format, r.format, format))
      | inr ranges ↦ none fd (subst (λ p. IsInGlyphRanges r.bytes.now p r.glyphs glyph fd) (sym place_is)
          (subst (λ b. IsInGlyphRanges b place r.glyphs glyph fd) (sym bytes_are)
          (subst (λ n. IsInGlyphRanges bytes place n glyph fd) (sym glyphs_are) ranges)))
    ]

ranges_none : (r : Ranges) (glyph : ℕ) → ((fd : ℕ) → IsInGlyphRanges r.bytes.now r.place r.glyphs glyph fd → ⊥) → (bytes : List ℕ) (map : Dictionary)
    (glyphs fd : ℕ) → IsSelectOf (InRanges r) bytes map glyphs → IsSelected bytes map glyphs glyph fd → ⊥
ranges_none r glyph none bytes map glyphs fd is selected =
    let names = is.1 in
    let other = selected.1 in
    let same : r.place ≡ selected.0 = cc in
    none_at_place r glyph none bytes selected.0 glyphs fd (is.0, same, is.2) selected.2

pub none_in_ranges_at : (o : Option ℕ) (s : Select) (r : Ranges) (glyph : ℕ) → s ≡ InRanges r →
    IfNone o ((fd : ℕ) → IsInGlyphRanges r.bytes.now r.place r.glyphs glyph fd → ⊥)
    → IfNone o ((bytes : List ℕ) (place glyphs fd : ℕ) → SelectStandsAt s bytes place glyphs → Selects bytes place glyphs glyph fd → ⊥)
none_in_ranges_at (Some fd) s r glyph is h = tt
none_in_ranges_at None s r glyph is h =
    λ bytes place glyphs fd stands selects. none_at_place r glyph h bytes place glyphs fd
    (subst (λ s. SelectStandsAt s bytes place glyphs) is stands) selects

pub none_in_ranges : (o : Option ℕ) (s : Select) (r : Ranges) (glyph : ℕ) → s ≡ InRanges r →
    IfNone o ((fd : ℕ) → IsInGlyphRanges r.bytes.now r.place r.glyphs glyph fd → ⊥)
    → IfNone o ((bytes : List ℕ) (map : Dictionary) (glyphs fd : ℕ) → IsSelectOf s bytes map glyphs → IsSelected bytes map glyphs glyph fd → ⊥)
none_in_ranges (Some fd) s r glyph is h = tt
none_in_ranges None s r glyph is h =
    λ bytes map glyphs fd of selected. ranges_none r glyph h bytes map glyphs fd (subst (λ s. IsSelectOf s bytes map glyphs) is of) selected

pub none_known : (s : Select) (glyph : ℕ) → s ≡ Unknown → (bytes : List ℕ) (map : Dictionary) (glyphs fd : ℕ) → IsSelectOf s bytes map glyphs →
    IsSelected bytes map glyphs glyph fd → ⊥
none_known s glyph is bytes map glyphs fd of selected = subst (λ s. IsSelectOf s bytes map glyphs) is of glyph fd selected

pub none_known_at : (s : Select) (glyph : ℕ) → s ≡ Unknown → (bytes : List ℕ) (place glyphs fd : ℕ) → SelectStandsAt s bytes place glyphs →
    Selects bytes place glyphs glyph fd → ⊥
none_known_at s glyph is bytes place glyphs fd stands selects = subst (λ s. SelectStandsAt s bytes place glyphs) is stands glyph fd selects
