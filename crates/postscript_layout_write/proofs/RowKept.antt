-- Subtables with a row for each glyph adjust and connect the kept glyphs as before.
use Rattle.std.proofs.Common.{◌≡◌, refl, sym, ap, subst, ◌∙◌, ℕ, ◌+◌, ◌*◌, ◌<◌, ◌==◌, ◌&&◌, List, ◌∷◌, [], ◌++◌, length, get_or, arith, Bool, true, false}
use Rattle.std.specs.Prelude.{Option, None, Some, nat_lt, if◌then◌else◌}
use Rattle.std.proofs.lemmas.Bool.{le-ltb, lt-ltb}
use Rattle.postscript_layout.specs.Numbers.{word}
use Rattle.postscript_layout_write.specs.Attaching.{AreRows, HasCells, IsRow, cell_of, ends_row, lead_of, no_cell, numbers_of, row_covered, row_of, single_row}
use Rattle.postscript_layout_write.specs.Cursive.{ends_covered, ends_of, entry_of, exit_of, joined}
use Rattle.postscript_layout_write.specs.Cursive.{by_subtable as connected_by}
use Rattle.postscript_layout_write.specs.Holds.{Holds}
use Rattle.postscript_layout_write.specs.Marks.{optional_anchor}
use Rattle.postscript_layout_write.specs.Ranges.{coverage_index}
use Rattle.postscript_layout_write.specs.Singles.{by_subtable, values_by, values_covered}
use Rattle.postscript_layout_write.specs.Text.{array_text, coverage_text, uint16}
use Rattle.postscript_layout_write.specs.Typed.{HasRows, rows_text}
use Rattle.postscript_layout_write.specs.Values.{size_of, values_at}
use Rattle.postscript_layout_write.specs.declared.anchors.Anchor.{Anchor}
use Rattle.postscript_layout_write.specs.declared.anchors.Ends.{Ends}
use Rattle.postscript_layout_write.specs.declared.anchors.Side.{Side}
use Rattle.postscript_layout_write.specs.declared.anchors.Side.TheVariants.{Bases, Cursive, Marks, Singles}
use Rattle.postscript_layout_write.specs.declared.values.Values.{Values}
use Rattle.postscript_layout_write.proofs.Holding.{holds-array, holds-first, holds-second}
use Rattle.postscript_layout_write.proofs.MarkReading.{coverage-read, covered-read}
use Rattle.postscript_layout_write.proofs.Reading.{Searched, four-values, size-15}
use Rattle.postscript_layout_write.proofs.Rows.{cells-in, count-read, number-read, option-read, rows-as}

length-numbers : (side : Side) (coverage : ℕ) → length (array_text (numbers_of side coverage)) ≡ lead_of side
unfolding array_text uint16
length-numbers Marks coverage = refl
length-numbers Bases coverage = refl
length-numbers Singles coverage = refl
length-numbers Cursive coverage = refl

-- a subtable with an array
module _ (side : Side) (gpos : List ℕ) (subtable : Option ℕ) (kept t : List ℕ) (s : ℕ) (has : HasRows side gpos subtable kept t s) where
  numbers-held : Holds (array_text (numbers_of side (lead_of side + length has.array))) t s
  unfolding rows_text
  numbers-held = holds-first _ _ has.there

  behind : Holds (has.array ++ coverage_text has.glyphs) t (s + lead_of side)
  unfolding rows_text
  behind = holds-second (array_text (numbers_of side (lead_of side + length has.array))) _ (lead_of side)
      (length-numbers side (lead_of side + length has.array)) has.there

  cells-held : HasCells (lead_of side) (length has.glyphs) has.is.cells t (s + lead_of side)
  cells-held = cells-in (lead_of side) (length has.glyphs) has.is.cells t has.array (s + lead_of side) (holds-first has.array _ behind) has.is.has

  index-read : (x : ℕ) → Searched has.glyphs x (λ i. i) (coverage_index t (s + (lead_of side + length has.array)) x)
  index-read x = (let small = has.small in coverage-read t (s + (lead_of side + length has.array)) has.glyphs x has.few
      (λ k less. (let low = has.is.are.fit k less in omega (arith, low, small)))
      (subst (Holds (coverage_text has.glyphs) t) (omega arith) (holds-second has.array (coverage_text has.glyphs) (length has.array) refl behind)))

-- single adjustments
single-index : (gpos : List ℕ) (subtable classes : ℕ) (index : Option ℕ) →
    row_covered gpos subtable classes Singles index ≡ single_row (values_covered gpos subtable index)
single-index gpos subtable classes None = refl
single-index gpos subtable classes (Some i) = refl

single-rows : (gpos : List ℕ) (subtable : Option ℕ) (glyph : ℕ) → row_of gpos subtable Singles glyph ≡ single_row (by_subtable gpos subtable glyph)
single-rows gpos None glyph = refl
single-rows gpos (Some s) glyph = single-index gpos s (word gpos (s + 6)) (coverage_index gpos (s + word gpos (s + 2)) glyph)

single-none : (o : Option Values) → single_row o ≡ None → o ≡ None
single-none None is = refl
single-none (Some values) is = absurd (cc)

module _ (gpos : List ℕ) (subtable : Option ℕ) (kept t : List ℕ) (s : ℕ) (has : HasRows Singles gpos subtable kept t s) where
  f : ℕ → Option Values
  f x = if nat_lt x (length kept) then by_subtable gpos subtable (get_or kept x 0) else None

  number : (k w : ℕ) → k < 3 → get_or (2 ∷ (6 + length has.array) ∷ 15 ∷ []) k 0 ≡ w → w < 65536 → word t (s + k * 2) ≡ w
  number k w less is small = holds-array (2 ∷ (6 + length has.array) ∷ 15 ∷ []) s k less (omega (arith, is, small)) (numbers-held Singles gpos subtable kept t s has) ∙ is

  single-there : (k : ℕ) (o : Option Values) → k < length has.glyphs → IsRow 4 (single_row o) has.is.cells (k * 4) → values_covered t s (Some k) ≡ o
  single-there k None less row = absurd row
  single-there k (Some v) less row =
      let many = has.is.are.many in
      let held = cells-held Singles gpos subtable kept t s has in
      let count = count-read 6 (length has.glyphs) has.is.cells t s (s + 6) refl held in
      let format : word t s ≡ 2 = ap (word t) (omega arith) ∙ number 0 2 (omega arith) refl (omega arith) in
      let values : word t (s + 4) ≡ 15 = number 2 15 (omega arith) refl (omega arith) in
      let at : s + 8 + k * size_of (word t (s + 4)) ≡ s + 8 + k * 8 = ap (λ n. s + 8 + k * size_of n) values ∙ ap (λ n. s + 8 + k * n) size-15 in
      ap (λ n. values_by t s (if n == 1 then Some (s + 6)
      else (if (n == 2) && nat_lt k (word t (s + 6)) then Some (s + 8 + k * size_of (word t (s + 4))) else None))) format
      ∙ ap (λ (b : Bool). values_by t s (if b then Some (s + 8 + k * size_of (word t (s + 4))) else None)) (lt-ltb k (word t (s + 6)) (omega (arith, count, less)))
      ∙ ap (λ n. Some (values_at t n (word t (s + 4)))) at
      ∙ ap (λ n. Some (values_at t (s + 8 + k * 8) n)) values
      ∙ ap (λ (a : Values). Some a) (four-values t (s + 8 + k * 8) v
      (ap (word t) (omega arith) ∙ number-read 6 (length has.glyphs) has.is.cells t s (s + 6) refl held (k * 4 + 0) v.x_placement (omega (arith, many, less)) (row 0 (omega arith)))
      (ap (word t) (omega arith) ∙ number-read 6 (length has.glyphs) has.is.cells t s (s + 6) refl held (k * 4 + 1) v.y_placement (omega (arith, many, less)) (row 1 (omega arith)))
      (ap (word t) (omega arith) ∙ number-read 6 (length has.glyphs) has.is.cells t s (s + 6) refl held (k * 4 + 2) v.x_advance (omega (arith, many, less)) (row 2 (omega arith)))
      (ap (word t) (omega arith) ∙ number-read 6 (length has.glyphs) has.is.cells t s (s + 6) refl held (k * 4 + 3) v.y_advance (omega (arith, many, less)) (row 3 (omega arith))))

  rows-are : AreRows 4 (λ x. single_row (f x)) (length kept) has.glyphs has.is.cells
  unfolding f
  rows-are = rows-as 4 (λ x. row_of gpos subtable Singles (get_or kept x 0)) (λ x. single_row (f x)) (length kept) has.glyphs has.is.cells
      (λ x less. single-rows gpos subtable (get_or kept x 0)
      ∙ ap (λ (t : Bool). single_row (if t then by_subtable gpos subtable (get_or kept x 0) else None)) (sym (lt-ltb x (length kept) less))) has.is.are

  pub single-kept : (x : ℕ) → by_subtable t (Some s) x ≡ (if nat_lt x (length kept) then by_subtable gpos subtable (get_or kept x 0) else None)
  unfolding f
  single-kept x =
      let fit = has.fit in
      ap (λ n. values_covered t s (coverage_index t (s + n) x)) (number 1 (6 + length has.array) (omega arith) refl fit)
      ∙ covered-read 4 (length kept) has.glyphs has.is.cells single_row f (values_covered t s) rows-are single-none
      (λ x far. ap (λ (t : Bool). if t then by_subtable gpos subtable (get_or kept x 0) else None) (le-ltb x (length kept) far)) refl
      (λ k less row. single-there k (f (get_or has.glyphs k 0)) less row) x (coverage_index t (s + (6 + length has.array)) x)
      (index-read Singles gpos subtable kept t s has x)

-- connections
ends-index : (gpos : List ℕ) (subtable classes : ℕ) (index : Option ℕ) → row_covered gpos subtable classes Cursive index ≡ ends_row (ends_covered gpos subtable index)
ends-index gpos subtable classes None = refl
ends-index gpos subtable classes (Some i) = refl

ends-rows : (gpos : List ℕ) (subtable : Option ℕ) (glyph : ℕ) → row_of gpos subtable Cursive glyph ≡ ends_row (ends_of gpos subtable glyph)
ends-rows gpos None glyph = refl
ends-rows gpos (Some s) glyph = ends-index gpos s (word gpos (s + 6)) (coverage_index gpos (s + word gpos (s + 2)) glyph)

ends-none : (o : Option Ends) → ends_row o ≡ None → o ≡ None
ends-none None is = refl
ends-none (Some ends) is = absurd (cc)

both-ends : (entry exit : Option Anchor) → Ends
both-ends entry exit = record { entry = entry; exit = exit }

joined-if : (p q : Bool) (a b : Option Ends) →
    joined (exit_of (if p then a else None)) (entry_of (if q then b else None)) ≡ (if p && q then joined (exit_of a) (entry_of b) else None)
joined-if true true a b = refl
joined-if true false a b = by (exit_of a)
  where
    by : (o : Option Anchor) → joined o None ≡ None
    by None = refl
    by (Some exit) = refl
joined-if false q a b = refl

module _ (gpos : List ℕ) (subtable : Option ℕ) (kept t : List ℕ) (s : ℕ) (has : HasRows Cursive gpos subtable kept t s) where
  g : ℕ → Option Ends
  g x = if nat_lt x (length kept) then ends_of gpos subtable (get_or kept x 0) else None

  numeral : (k w : ℕ) → k < 2 → get_or (1 ∷ (4 + length has.array) ∷ []) k 0 ≡ w → w < 65536 → word t (s + k * 2) ≡ w
  numeral k w less is small = holds-array (1 ∷ (4 + length has.array) ∷ []) s k less (omega (arith, is, small)) (numbers-held Cursive gpos subtable kept t s has) ∙ is

  pub ends-format : word t s ≡ 1
  ends-format = ap (word t) (omega arith) ∙ numeral 0 1 (omega arith) refl (omega arith)

  end-there : (k i at : ℕ) (o : Option Anchor) → at ≡ s + 4 + 2 + (k * 2 + i) * 2 → k * 2 + i < length has.is.cells →
      get_or has.is.cells (k * 2 + i) no_cell ≡ cell_of o → optional_anchor t s (word t at) ≡ o
  end-there k i at o place less is = ap (λ n. optional_anchor t s (word t n)) place
      ∙ option-read 4 (length has.glyphs) has.is.cells t s (s + 4) refl (cells-held Cursive gpos subtable kept t s has) (k * 2 + i) o less is

  ends-there : (k : ℕ) (o : Option Ends) → k < length has.glyphs → IsRow 2 (ends_row o) has.is.cells (k * 2) → ends_covered t s (Some k) ≡ o
  unfolding both-ends
  ends-there k None less row = absurd row
  ends-there k (Some ends) less row =
      let many = has.is.are.many in
      let count = count-read 4 (length has.glyphs) has.is.cells t s (s + 4) refl (cells-held Cursive gpos subtable kept t s has) in
      ap (λ (b : Bool). if b then Some (both-ends (optional_anchor t s (word t (s + 6 + k * 4))) (optional_anchor t s (word t (s + 8 + k * 4)))) else None)
      (lt-ltb k (word t (s + 4)) (omega (arith, count, less)))
      ∙ ap (λ (o : Option Anchor). Some (both-ends o (optional_anchor t s (word t (s + 8 + k * 4))))) (end-there k 0 (s + 6 + k * 4) ends.entry (omega arith) (omega (arith, many, less)) (row 0 (omega arith)))
      ∙ ap (λ (o : Option Anchor). Some (both-ends ends.entry o)) (end-there k 1 (s + 8 + k * 4) ends.exit (omega arith) (omega (arith, many, less)) (row 1 (omega arith)))

  ends-are : AreRows 2 (λ x. ends_row (g x)) (length kept) has.glyphs has.is.cells
  unfolding g
  ends-are = rows-as 2 (λ x. row_of gpos subtable Cursive (get_or kept x 0)) (λ x. ends_row (g x)) (length kept) has.glyphs has.is.cells
      (λ x less. ends-rows gpos subtable (get_or kept x 0)
      ∙ ap (λ (t : Bool). ends_row (if t then ends_of gpos subtable (get_or kept x 0) else None)) (sym (lt-ltb x (length kept) less))) has.is.are

  ends-read : (x : ℕ) → ends_of t (Some s) x ≡ g x
  unfolding g
  ends-read x =
      let fit = has.fit in
      ap (λ n. ends_covered t s (coverage_index t (s + n) x)) (numeral 1 (4 + length has.array) (omega arith) refl fit)
      ∙ covered-read 2 (length kept) has.glyphs has.is.cells ends_row g (ends_covered t s) ends-are ends-none
      (λ x far. ap (λ (t : Bool). if t then ends_of gpos subtable (get_or kept x 0) else None) (le-ltb x (length kept) far)) refl
      (λ k less row. ends-there k (g (get_or has.glyphs k 0)) less row) x (coverage_index t (s + (4 + length has.array)) x)
      (index-read Cursive gpos subtable kept t s has x)

  pub connection-kept : (x y : ℕ) → connected_by t (Some s) x y
      ≡ (if nat_lt x (length kept) && nat_lt y (length kept) then connected_by gpos subtable (get_or kept x 0) (get_or kept y 0) else None)
  unfolding g
  connection-kept x y = ap (λ (o : Option Ends). joined (exit_of o) (entry_of (ends_of t (Some s) y))) (ends-read x)
      ∙ ap (λ (o : Option Ends). joined (exit_of (g x)) (entry_of o)) (ends-read y)
      ∙ joined-if (nat_lt x (length kept)) (nat_lt y (length kept)) (ends_of gpos subtable (get_or kept x 0)) (ends_of gpos subtable (get_or kept y 0))
