-- Subtables that attach marks are read as they were written.
use Rattle.std.proofs.Common.{◌≡◌, refl, sym, ap, subst, ◌∙◌, inl, inr, ℕ, ◌+◌, ◌*◌, ◌%◌, ◌≤◌, ◌<◌, ◌==◌, ◌&&◌, List, ◌++◌, length, get_or, arith, Bool, true, false}
use Rattle.std.specs.Prelude.{◌⊎◌, Option, None, Some, nat_lt, if◌then◌else◌}
use Rattle.std.specs.List.{Contains}
use Rattle.std.proofs.lemmas.Bool.{eq-eqb, le-ltb, lt-ltb}
use Rattle.std.proofs.lemmas.Nat.{div-mul-add, mod-mul-add, mul-le}
use Rattle.postscript_layout.specs.Numbers.{word}
use Rattle.postscript_layout_write.specs.Attaching.{AreRows, HasCells, HasLigature, HasLigatureOf, IsRow, at_class, base_row, cell_of, ligatures_text, mark_row}
use Rattle.postscript_layout_write.specs.First.{first_some}
use Rattle.postscript_layout_write.specs.Holds.{Holds}
use Rattle.postscript_layout_write.specs.Ligatures.{component_of, counted, ligature_covered, ligature_in, to_component}
use Rattle.postscript_layout_write.specs.Marks.{Mark, anchor_at, anchor_covered, anchor_in, mark_covered, mark_in, met}
use Rattle.postscript_layout_write.specs.Ranges.{coverage_index, index_in, range_of}
use Rattle.postscript_layout_write.specs.Sets.{AreOffsets}
use Rattle.postscript_layout_write.specs.Text.{coverage_text, offsets_text, uint16}
use Rattle.postscript_layout_write.specs.declared.anchors.Anchor.{Anchor}
use Rattle.postscript_layout_write.specs.declared.anchors.Cell.{Cell}
use Rattle.postscript_layout_write.proofs.Firsts.{nat_cases}
use Rattle.postscript_layout_write.proofs.Holding.{holds-array, holds-first, holds-second, holds-word, length-uint16}
use Rattle.postscript_layout_write.proofs.Reading.{Searched, any-default, length-offsets, missing, offsets-read, present, searched}
use Rattle.postscript_layout_write.proofs.Rows.{anchor-read, cells-within, count-read, number-read, option-read}

-- a coverage table
pub coverage-read : (t : List ℕ) (c : ℕ) (glyphs : List ℕ) (x : ℕ) → length glyphs ≤ 16380 → ((k : ℕ) → k < length glyphs → get_or glyphs k 0 < 65536) →
    Holds (coverage_text glyphs) t c → Searched glyphs x (λ i. i) (coverage_index t c x)
unfolding coverage_text
coverage-read t c glyphs x few small h =
    let h2 = holds-second (uint16 1) _ 2 (length-uint16 1) h in
    let h4 = holds-second (uint16 (length glyphs)) _ 2 (length-uint16 (length glyphs)) h2 in
    let list : word t c ≡ 1 = holds-word 1 (omega arith) (holds-first (uint16 1) _ h) in
    let many : word t (c + 2) ≡ length glyphs = holds-word (length glyphs) (omega (arith, few)) (holds-first (uint16 (length glyphs)) _ h2) in
    let is : coverage_index t c x ≡ first_some (λ i. if word t (c + 4 + i * 2) == x then Some i else None) (word t (c + 2)) =
    ap (λ (b : Bool). if b then first_some (λ i. if word t (c + 4 + i * 2) == x then Some i else None) (word t (c + 2))
    else (if word t c == 2 then index_in t x (range_of t c x) else None)) (eq-eqb (word t c) 1 list) in
    subst (Searched glyphs x (λ i. i)) (sym is) (searched (λ i. word t (c + 4 + i * 2)) glyphs x (λ i. i) (word t (c + 2)) many
    (λ k less. ap (word t) (omega arith) ∙ holds-array glyphs (c + 2 + 2) k less (small k less) h4))

pub row-none : (o : Option Mark) → mark_row o ≡ None → o ≡ None
row-none None is = refl
row-none (Some mark) is = absurd (cc)

a-mark : (class : ℕ) (anchor : Anchor) → Mark
a-mark class anchor = record { class = class; anchor = anchor }

-- what a subtable says of a glyph, by the row of the glyph
pub covered-read : {X : Type 0} (width n : ℕ) (glyphs : List ℕ) (cells : List Cell) (row : Option X → Option (ℕ → Cell)) (f : ℕ → Option X) (said : Option ℕ → Option X) →
    AreRows width (λ x. row (f x)) n glyphs cells → ((o : Option X) → row o ≡ None → o ≡ None) → ((x : ℕ) → n ≤ x → f x ≡ None) → said None ≡ None →
    ((k : ℕ) → k < length glyphs → IsRow width (row (f (get_or glyphs k 0))) cells (k * width) → said (Some k) ≡ f (get_or glyphs k 0)) →
    (x : ℕ) (index : Option ℕ) → Searched glyphs x (λ i. i) index → said index ≡ f x
covered-read width n glyphs cells row f said are no-row bounded uncovered each x _ (missing none) = elim (nat_cases x n) [
  | inl less ↦ elim (are.all x less) [
    | inl is ↦ uncovered ∙ sym (no-row (f x) is)
    | inr there ↦ absurd (none there.0 there.1 (any-default glyphs there.0 0 x there.1 ∙ there.2))
  ]
  | inr far ↦ uncovered ∙ sym (bounded x far)
]
covered-read width n glyphs cells row f said are no-row bounded uncovered each x _ (present k less is) = each k less (are.each k less) ∙ ap f is

-- the marks
module _ (t : List ℕ) (n : ℕ) (glyphs : List ℕ) (cells : List Cell) (c a : ℕ) (f : ℕ → Option Mark) (are : AreRows 2 (λ x. mark_row (f x)) n glyphs cells)
    (bounded : (x : ℕ) → n ≤ x → f x ≡ None) (covered : (x : ℕ) → Searched glyphs x (λ i. i) (coverage_index t c x))
    (held : HasCells 0 (length glyphs) cells t a) where
  mark-there : (k : ℕ) (o : Option Mark) → k < length glyphs → IsRow 2 (mark_row o) cells (k * 2) → mark_in t a k ≡ o
  unfolding a-mark
  mark-there k None less row = absurd row
  mark-there k (Some mark) less row =
      let many = are.many in
      let class : word t (a + 2 + k * 4) ≡ mark.class = ap (word t) (omega arith)
      ∙ number-read 0 (length glyphs) cells t a a (omega arith) held (k * 2 + 0) mark.class (omega (arith, many, less)) (row 0 (omega arith)) in
      let anchor : anchor_at t a (word t (a + 4 + k * 4)) ≡ mark.anchor = ap (λ n. anchor_at t a (word t n)) {x = a + 4 + k * 4} {y = a + 2 + (k * 2 + 1) * 2} (omega arith)
      ∙ anchor-read 0 (length glyphs) cells t a a (omega arith) held (k * 2 + 1) mark.anchor (omega (arith, many, less)) (row 1 (omega arith)) in
      let count = count-read 0 (length glyphs) cells t a a (omega arith) held in
      ap (λ (b : Bool). if b then Some (a-mark (word t (a + 2 + k * 4)) (anchor_at t a (word t (a + 4 + k * 4)))) else None)
      (lt-ltb k (word t a) (omega (arith, count, less)))
      ∙ ap (λ w. Some (a-mark w (anchor_at t a (word t (a + 4 + k * 4))))) class ∙ ap (λ (p : Anchor). Some (a-mark mark.class p)) anchor

  pub marks-read : (x : ℕ) → mark_covered t a (coverage_index t c x) ≡ f x
  marks-read x = covered-read 2 n glyphs cells mark_row f (mark_covered t a) are row-none bounded refl
      (λ k less row. mark-there k (f (get_or glyphs k 0)) less row) x (coverage_index t c x) (covered x)

-- the bases
bases-none : (o : Option (ℕ → Option Anchor)) → base_row o ≡ None → (class : ℕ) → at_class o class ≡ None
bases-none None is class = refl
bases-none (Some anchors) is class = absurd (cc)

pub and-false : (b : Bool) → (b && false) ≡ false
and-false true = refl
and-false false = refl

module _ (t : List ℕ) (n classes : ℕ) (glyphs : List ℕ) (cells : List Cell) (c a : ℕ) (g : ℕ → Option (ℕ → Option Anchor))
    (are : AreRows classes (λ y. base_row (g y)) n glyphs cells)
    (bounded : (y : ℕ) → n ≤ y → g y ≡ None) (past : (y class : ℕ) → classes ≤ class → at_class (g y) class ≡ None)
    (covered : (y : ℕ) → Searched glyphs y (λ i. i) (coverage_index t c y))
    (held : HasCells 0 (length glyphs) cells t a) where
  -- a class of marks that the subtable does not have
  class-past : (index : Option ℕ) (class : ℕ) → classes ≤ class → anchor_covered t a classes index class ≡ None
  class-past None class far = refl
  class-past (Some k) class far = (let o = word t (a + 2 + (k * classes + class) * 2) in
      ap (λ (b : Bool). if nat_lt k (word t a) && b then (if o == 0 then None else Some (anchor_at t a o)) else None) (le-ltb class classes far)
      ∙ ap (λ (b : Bool). if b then (if o == 0 then None else Some (anchor_at t a o)) else None) (and-false (nat_lt k (word t a))))

  base-there : (k class : ℕ) (o : Option (ℕ → Option Anchor)) → k < length glyphs → class < classes → IsRow classes (base_row o) cells (k * classes) →
      anchor_in t a classes k class ≡ at_class o class
  base-there k class None less within row = absurd row
  base-there k class (Some anchors) less within row =
      let many = are.many in
      let room : (k + 1) * classes ≤ length glyphs * classes = mul-le (k + 1) classes (length glyphs) classes (omega (arith, less)) (omega arith) in
      let count = count-read 0 (length glyphs) cells t a a (omega arith) held in
      let o = word t (a + 2 + (k * classes + class) * 2) in
      ap (λ (b : Bool). if b && nat_lt class classes then (if o == 0 then None else Some (anchor_at t a o)) else None) (lt-ltb k (word t a) (omega (arith, count, less)))
      ∙ ap (λ (b : Bool). if b then (if o == 0 then None else Some (anchor_at t a o)) else None) (lt-ltb class classes within)
      ∙ option-read 0 (length glyphs) cells t a a (omega arith) held (k * classes + class) (anchors class) (omega (arith, many, room, within)) (row class within)

  pub bases-read : (y class : ℕ) → anchor_covered t a classes (coverage_index t c y) class ≡ at_class (g y) class
  bases-read y class = elim (nat_cases class classes) [
    | inl within ↦ by within (coverage_index t c y) (covered y)
    | inr far ↦ class-past (coverage_index t c y) class far ∙ sym (past y class far)
  ]
    where
      by : class < classes → (index : Option ℕ) → Searched glyphs y (λ i. i) index → anchor_covered t a classes index class ≡ at_class (g y) class
      by within _ (missing none) = elim (nat_cases y n) [
        | inl less ↦ elim (are.all y less) [
          | inl is ↦ sym (bases-none (g y) is class)
          | inr there ↦ absurd (none there.0 there.1 (any-default glyphs there.0 0 y there.1 ∙ there.2))
        ]
        | inr far ↦ sym (ap (λ (o : Option (ℕ → Option Anchor)). at_class o class) (bounded y far))
      ]
      by within _ (present k less is) = base-there k class (g (get_or glyphs k 0)) less within (are.each k less) ∙ ap (λ z. at_class (g z) class) is

-- an array of ligatures
to-component-same : (s t : List ℕ) (classes a b component : ℕ) (mark : Option Mark) → word s a ≡ word t b →
    ((r class : ℕ) → anchor_in s a classes r class ≡ anchor_in t b classes r class) →
    to_component s classes mark (Some a) component ≡ to_component t classes mark (Some b) component
to-component-same s t classes a b component None same each = refl
to-component-same s t classes a b component (Some mark) same each =
    ap (λ n. counted n (met mark.anchor (anchor_in s a classes (component_of n component) mark.class))) same
    ∙ ap (λ (o : Option Anchor). counted (word t b) (met mark.anchor o)) (each (component_of (word t b) component) mark.class)

-- the anchors of a ligature
module _ (gpos : List ℕ) (ligature classes : ℕ) (t : List ℕ) (at : ℕ) (has : HasLigature gpos ligature classes t at) where
  component-read : (r class : ℕ) → anchor_in t at classes r class ≡ anchor_in gpos ligature classes r class
  component-read r class = elim (nat_cases r (word gpos ligature)) [
    | inl less ↦ elim (nat_cases class classes) [
      | inl within ↦ inside less within
      | inr far ↦ past-class t at far ∙ sym (past-class gpos ligature far)
    ]
    | inr far ↦ past-row t at (let same = count-read 0 (word gpos ligature) has.cells t at at (omega arith) has.has in omega (arith, same, far)) ∙ sym (past-row gpos ligature far)
  ]
    where
      past-class : (s : List ℕ) (a : ℕ) → classes ≤ class → anchor_in s a classes r class ≡ None
      past-class s a far = (let o = word s (a + 2 + (r * classes + class) * 2) in
          ap (λ (b : Bool). if nat_lt r (word s a) && b then (if o == 0 then None else Some (anchor_at s a o)) else None) (le-ltb class classes far)
          ∙ ap (λ (b : Bool). if b then (if o == 0 then None else Some (anchor_at s a o)) else None) (and-false (nat_lt r (word s a))))

      past-row : (s : List ℕ) (a : ℕ) → word s a ≤ r → anchor_in s a classes r class ≡ None
      past-row s a far = (let o = word s (a + 2 + (r * classes + class) * 2) in
          ap (λ (b : Bool). if b && nat_lt class classes then (if o == 0 then None else Some (anchor_at s a o)) else None) (le-ltb r (word s a) far))

      inside : r < word gpos ligature → class < classes → anchor_in t at classes r class ≡ anchor_in gpos ligature classes r class
      inside less within =
          let many = has.are.many in
          let room : (r + 1) * classes ≤ word gpos ligature * classes = mul-le (r + 1) classes (word gpos ligature) classes (omega (arith, less)) (omega arith) in
          let count = count-read 0 (word gpos ligature) has.cells t at at (omega arith) has.has in
          let q = r * classes + class in
          let low : q < length has.cells = omega (arith, many, room, within) in
          let o = word t (at + 2 + q * 2) in
          ap (λ (b : Bool). if b && nat_lt class classes then (if o == 0 then None else Some (anchor_at t at o)) else None) (lt-ltb r (word t at) (omega (arith, count, less)))
          ∙ ap (λ (b : Bool). if b then (if o == 0 then None else Some (anchor_at t at o)) else None) (lt-ltb class classes within)
          ∙ option-read 0 (word gpos ligature) has.cells t at at (omega arith) has.has q (anchor_in gpos ligature classes r class) low
          (has.are.each q low ∙ ap (λ k. cell_of (anchor_in gpos ligature classes k (q % classes))) (div-mul-add r classes class within)
          ∙ ap (λ k. cell_of (anchor_in gpos ligature classes r k)) (mod-mul-add r classes class within))

  ligature-read : (mark : Option Mark) (component : ℕ) → to_component t classes mark (Some at) component ≡ to_component gpos classes mark (Some ligature) component
  ligature-read mark component = to-component-same t gpos classes at ligature component mark (count-read 0 (word gpos ligature) has.cells t at at (omega arith) has.has) component-read

module _ (gpos t : List ℕ) (n classes : ℕ) (glyphs offsets bytes : List ℕ) (c a : ℕ) (g : ℕ → Option ℕ)
    (same : length offsets ≡ length glyphs)
    (each : (k : ℕ) → k < length glyphs → HasLigatureOf gpos (g (get_or glyphs k 0)) classes bytes (get_or offsets k 0))
    (all : (x : ℕ) → x < n → (g x ≡ None) ⊎ Contains glyphs x)
    (bounded : (y : ℕ) → n ≤ y → g y ≡ None)
    (covered : (y : ℕ) → Searched glyphs y (λ i. i) (coverage_index t c y))
    (few : length offsets ≤ 16380) (fit : AreOffsets (2 + length offsets * 2) offsets) (held : Holds (ligatures_text offsets bytes) t a) where
  many-read : word t a ≡ length offsets
  unfolding ligatures_text
  many-read = holds-word (length offsets) (omega (arith, few)) (holds-first (uint16 (length offsets)) _ held)

  behind : Holds (offsets_text (2 + length offsets * 2) offsets ++ bytes) t (a + 2)
  unfolding ligatures_text
  behind = holds-second (uint16 (length offsets)) _ 2 (length-uint16 (length offsets)) held

  tables : Holds bytes t (a + 2 + length offsets * 2)
  tables = holds-second (offsets_text (2 + length offsets * 2) offsets) bytes (length offsets * 2) (length-offsets (2 + length offsets * 2) offsets) behind

  table-read : (k : ℕ) → k < length glyphs → ligature_in t a k ≡ Some (a + 2 + length offsets * 2 + get_or offsets k 0)
  table-read k less =
      let at = offsets-read t (a + 2) (2 + length offsets * 2) offsets k (omega (arith, same, less)) fit
      (holds-first (offsets_text (2 + length offsets * 2) offsets) bytes behind) in
      ap (λ (b : Bool). if b then Some (a + word t (a + 2 + k * 2)) else None) (lt-ltb k (word t a) (let many = many-read in omega (arith, many, same, less)))
      ∙ ap (λ w. Some w) (omega (arith, at))

  there-read : (k : ℕ) (o : Option ℕ) (mark : Option Mark) (component : ℕ) → k < length glyphs → HasLigatureOf gpos o classes bytes (get_or offsets k 0) →
      to_component t classes mark (ligature_in t a k) component ≡ to_component gpos classes mark o component
  there-read k None mark component less h = absurd h
  there-read k (Some ligature) mark component less h =
      ap (λ (o : Option ℕ). to_component t classes mark o component) (table-read k less)
      ∙ ligature-read gpos ligature classes t (a + 2 + length offsets * 2 + get_or offsets k 0)
      (record {
        cells = h.cells;
        are = h.are;
        has = cells-within 0 (word gpos ligature) h.cells t bytes (a + 2 + length offsets * 2) (get_or offsets k 0) tables h.has;
      })
      mark component

  pub ligatures-read : (y : ℕ) (mark : Option Mark) (component : ℕ) →
      to_component t classes mark (ligature_covered t a (coverage_index t c y)) component ≡ to_component gpos classes mark (g y) component
  ligatures-read y mark component = by (coverage_index t c y) (covered y)
    where
      by : (index : Option ℕ) → Searched glyphs y (λ i. i) index →
          to_component t classes mark (ligature_covered t a index) component ≡ to_component gpos classes mark (g y) component
      by _ (missing none) = elim (nat_cases y n) [
        | inl less ↦ elim (all y less) [
          | inl is ↦ sym (ap (λ (o : Option ℕ). to_component gpos classes mark o component) is)
          | inr there ↦ absurd (none there.0 there.1 (any-default glyphs there.0 0 y there.1 ∙ there.2))
        ]
        | inr far ↦ sym (ap (λ (o : Option ℕ). to_component gpos classes mark o component) (bounded y far))
      ]
      by _ (present k less is) = there-read k (g (get_or glyphs k 0)) mark component less (each k less)
          ∙ ap (λ z. to_component gpos classes mark (g z) component) is
