-- Subtables of pairs by classes that were written are read as their pairs.
use Rattle.std.proofs.Common.{◌≡◌, refl, sym, ap, subst, ◌∙◌, inl, inr, ℕ, ◌+◌, ◌*◌, ◌<◌, ◌==◌, ◌&&◌, List, [], ◌∷◌, ◌++◌, length, length-append, append-nil, get_or, arith, Bool}
use Rattle.std.specs.Prelude.{Option, None, Some, nat_lt, if◌then◌else◌}
use Rattle.std.specs.List.{Contains}
use Rattle.std.proofs.lemmas.Bool.{le-ltb, lt-ltb}
use Rattle.std.proofs.lemmas.List.{get_or_past}
use Rattle.postscript_layout.specs.Numbers.{word}
use Rattle.postscript_layout_write.specs.ClassPairs.{HasClasses, advance, class_text}
use Rattle.postscript_layout_write.specs.Holds.{Holds}
use Rattle.postscript_layout_write.specs.Pairs.{adjustment_by, adjustment_of, by_subtable, class_pair, index_of, listed_pair, or_nothing, record_of, sizes_of}
use Rattle.postscript_layout_write.specs.Ranges.{class_of, coverage_index}
use Rattle.postscript_layout_write.specs.Text.{array_text, coverage_text}
use Rattle.postscript_layout_write.specs.Values.{adjustment_at, size_of, values_below}
use Rattle.postscript_layout_write.specs.declared.values.Adjustment.{Adjustment}
use Rattle.postscript_layout_write.proofs.DefinitionsKept.{listed}
use Rattle.postscript_layout_write.proofs.Firsts.{nat_cases}
use Rattle.postscript_layout_write.proofs.Holding.{holds-array, holds-first, holds-second, length-array}
use Rattle.postscript_layout_write.proofs.MarkReading.{coverage-read}
use Rattle.postscript_layout_write.proofs.Reading.{Searched, any-default, length-coverage, missing, one-advance, present, same-adjustment}

pub header : (coverage first_classes second_classes row_count column_count : ℕ) → List ℕ
header coverage first_classes second_classes row_count column_count =
    2 ∷ coverage ∷ 4 ∷ 0 ∷ first_classes ∷ second_classes ∷ row_count ∷ column_count ∷ []

size-4 : size_of 4 + size_of 0 ≡ 2
unfolding values_below
size-4 = refl

advance-read : (t : List ℕ) (at n : ℕ) → word t at ≡ n → adjustment_at t at 4 0 ≡ advance n
advance-read t at n is = same-adjustment _ (advance n) (one-advance t at ∙ ap (λ k. (advance k).first) (ap (word t) {x = at + 0} {y = at} (omega arith) ∙ is)) refl

pub length-classes : (row_count column_count : ℕ) (values firsts rows columns : List ℕ) → 0 < length (class_text row_count column_count values firsts rows columns)
unfolding class_text header
length-classes row_count column_count values firsts rows columns =
    let numbers = header (16 + length values * 2) (16 + length values * 2 + 4 + length firsts * 2) (16 + length values * 2 + 4 + length firsts * 2 + 6 + length rows * 2) row_count column_count in
    let rest = array_text values ++ (coverage_text firsts ++ (array_text (1 ∷ 0 ∷ length rows ∷ []) ++ (array_text rows ++ (array_text (1 ∷ 0 ∷ length columns ∷ []) ++ array_text columns)))) in
    more numbers rest refl
  where
    more : (numbers rest : List ℕ) → length numbers ≡ 8 → 0 < length (array_text numbers ++ rest)
    more numbers rest eight = omega (arith, length-append (array_text numbers) rest, length-array numbers, eight)

module _ (f : (x y : ℕ) → Adjustment) (t : List ℕ) (s : ℕ) (bytes : List ℕ) (has : HasClasses f bytes) (held : Holds bytes t s) where
  numbers : List ℕ
  numbers = header (16 + length has.values * 2) (16 + length has.values * 2 + 4 + length has.firsts * 2) (16 + length has.values * 2 + 4 + length has.firsts * 2 + 6 + length has.rows * 2)
      has.row_count has.column_count

  text-held : Holds (array_text numbers ++ (array_text has.values ++ (coverage_text has.firsts ++ (array_text (1 ∷ 0 ∷ length has.rows ∷ []) ++ (array_text has.rows
      ++ (array_text (1 ∷ 0 ∷ length has.columns ∷ []) ++ array_text has.columns)))))) t s
  unfolding class_text numbers header
  text-held = subst (λ (xs : List ℕ). Holds xs t s) has.is.text held

  number : (k n : ℕ) → k < 8 → get_or numbers k 0 ≡ n → n < 65536 → word t (s + k * 2) ≡ n
  unfolding numbers header
  number k n less same small = holds-array numbers s k less (omega (arith, same, small)) (holds-first (array_text numbers) _ text-held) ∙ same

  values-held : Holds (array_text has.values ++ (coverage_text has.firsts ++ (array_text (1 ∷ 0 ∷ length has.rows ∷ []) ++ (array_text has.rows
      ++ (array_text (1 ∷ 0 ∷ length has.columns ∷ []) ++ array_text has.columns))))) t (s + 16)
  unfolding numbers header
  values-held = holds-second (array_text numbers) _ 16 (length-array numbers) text-held

  coverage-held : Holds (coverage_text has.firsts ++ (array_text (1 ∷ 0 ∷ length has.rows ∷ []) ++ (array_text has.rows
      ++ (array_text (1 ∷ 0 ∷ length has.columns ∷ []) ++ array_text has.columns)))) t (s + 16 + length has.values * 2)
  coverage-held = holds-second (array_text has.values) _ (length has.values * 2) (length-array has.values) values-held

  first-held : Holds (array_text (1 ∷ 0 ∷ length has.rows ∷ []) ++ (array_text has.rows
      ++ (array_text (1 ∷ 0 ∷ length has.columns ∷ []) ++ array_text has.columns))) t (s + 16 + length has.values * 2 + (4 + length has.firsts * 2))
  first-held = holds-second (coverage_text has.firsts) _ (4 + length has.firsts * 2) (length-coverage has.firsts) coverage-held

  rows-held : Holds (array_text has.rows ++ (array_text (1 ∷ 0 ∷ length has.columns ∷ []) ++ array_text has.columns)) t
      (s + 16 + length has.values * 2 + (4 + length has.firsts * 2) + 6)
  rows-held = holds-second (array_text (1 ∷ 0 ∷ length has.rows ∷ [])) _ 6 (length-array (1 ∷ 0 ∷ length has.rows ∷ [])) first-held

  second-held : Holds (array_text (1 ∷ 0 ∷ length has.columns ∷ []) ++ array_text has.columns) t
      (s + 16 + length has.values * 2 + (4 + length has.firsts * 2) + 6 + length has.rows * 2)
  second-held = holds-second (array_text has.rows) _ (length has.rows * 2) (length-array has.rows) rows-held

  columns-held : Holds (array_text has.columns) t (s + 16 + length has.values * 2 + (4 + length has.firsts * 2) + 6 + length has.rows * 2 + 6)
  columns-held = holds-second (array_text (1 ∷ 0 ∷ length has.columns ∷ [])) (array_text has.columns) 6 (length-array (1 ∷ 0 ∷ length has.columns ∷ [])) second-held

  -- the header
  format : word t s ≡ 2
  unfolding numbers header
  format = ap (word t) {x = s} {y = s + 0 * 2} (omega arith) ∙ number 0 2 (omega arith) refl (omega arith)

  coverage-at : word t (s + 2) ≡ 16 + length has.values * 2
  unfolding numbers header
  coverage-at = ap (word t) {x = s + 2} {y = s + 1 * 2} (omega arith) ∙ number 1 _ (omega arith) refl (let near = has.is.near in omega (arith, near))

  format-1 : word t (s + 4) ≡ 4
  unfolding numbers header
  format-1 = ap (word t) {x = s + 4} {y = s + 2 * 2} (omega arith) ∙ number 2 4 (omega arith) refl (omega arith)

  format-2 : word t (s + 6) ≡ 0
  unfolding numbers header
  format-2 = ap (word t) {x = s + 6} {y = s + 3 * 2} (omega arith) ∙ number 3 0 (omega arith) refl (omega arith)

  first-at : word t (s + 8) ≡ 16 + length has.values * 2 + 4 + length has.firsts * 2
  unfolding numbers header
  first-at = ap (word t) {x = s + 8} {y = s + 4 * 2} (omega arith) ∙ number 4 _ (omega arith) refl (let near = has.is.near in omega (arith, near))

  second-at : word t (s + 10) ≡ 16 + length has.values * 2 + 4 + length has.firsts * 2 + 6 + length has.rows * 2
  unfolding numbers header
  second-at = ap (word t) {x = s + 10} {y = s + 5 * 2} (omega arith) ∙ number 5 _ (omega arith) refl (let near = has.is.near in omega (arith, near))

  row-count : word t (s + 12) ≡ has.row_count
  unfolding numbers header
  row-count = ap (word t) {x = s + 12} {y = s + 6 * 2} (omega arith) ∙ number 6 has.row_count (omega arith) refl has.is.row_count_small

  column-count : word t (s + 14) ≡ has.column_count
  unfolding numbers header
  column-count = ap (word t) {x = s + 14} {y = s + 7 * 2} (omega arith) ∙ number 7 has.column_count (omega arith) refl has.is.column_count_small

  -- the classes
  class-list : (c x : ℕ) (classes rest : List ℕ) → length classes < 65536 → ((k : ℕ) → k < length classes → get_or classes k 0 < 65536) →
      Holds (array_text (1 ∷ 0 ∷ length classes ∷ []) ++ (array_text classes ++ rest)) t c → class_of t c x ≡ get_or classes x 0
  class-list c x classes rest few small h =
      let head = holds-first (array_text (1 ∷ 0 ∷ length classes ∷ [])) _ h in
      listed t c (length classes) x classes
      (ap (word t) {x = c} {y = c + 0 * 2} (omega arith) ∙ holds-array (1 ∷ 0 ∷ length classes ∷ []) c 0 (omega arith) (omega arith) head)
      (ap (word t) {x = c + 2} {y = c + 1 * 2} (omega arith) ∙ holds-array (1 ∷ 0 ∷ length classes ∷ []) c 1 (omega arith) (omega arith) head)
      (ap (word t) {x = c + 4} {y = c + 2 * 2} (omega arith) ∙ holds-array (1 ∷ 0 ∷ length classes ∷ []) c 2 (omega arith) few head)
      refl small (holds-first (array_text classes) rest (holds-second (array_text (1 ∷ 0 ∷ length classes ∷ [])) _ 6 (length-array (1 ∷ 0 ∷ length classes ∷ [])) h))
      ∙ elim (nat_cases x (length classes)) [
        | inl less ↦ ap (λ (b : Bool). if b then get_or classes x 0 else 0) (lt-ltb x (length classes) less)
        | inr far ↦ ap (λ (b : Bool). if b then get_or classes x 0 else 0) (le-ltb x (length classes) far) ∙ sym (get_or_past classes x 0 far)
      ]

  first-class : (x : ℕ) → class_of t (s + word t (s + 8)) x ≡ get_or has.rows x 0
  first-class x = ap (λ n. class_of t (s + n) x) first-at
      ∙ class-list (s + (16 + length has.values * 2 + 4 + length has.firsts * 2)) x has.rows (array_text (1 ∷ 0 ∷ length has.columns ∷ []) ++ array_text has.columns) has.is.rows_few
      has.is.rows_small (subst (Holds (array_text (1 ∷ 0 ∷ length has.rows ∷ []) ++ (array_text has.rows ++ (array_text (1 ∷ 0 ∷ length has.columns ∷ []) ++ array_text has.columns))) t)
      {x = s + 16 + length has.values * 2 + (4 + length has.firsts * 2)} {y = s + (16 + length has.values * 2 + 4 + length has.firsts * 2)} (omega arith) first-held)

  second-class : (y : ℕ) → class_of t (s + word t (s + 10)) y ≡ get_or has.columns y 0
  second-class y = ap (λ n. class_of t (s + n) y) second-at
      ∙ class-list (s + (16 + length has.values * 2 + 4 + length has.firsts * 2 + 6 + length has.rows * 2)) y has.columns [] has.is.columns_few has.is.columns_small
      (subst (λ (xs : List ℕ). Holds (array_text (1 ∷ 0 ∷ length has.columns ∷ []) ++ xs) t (s + (16 + length has.values * 2 + 4 + length has.firsts * 2 + 6 + length has.rows * 2)))
      (sym (append-nil (array_text has.columns)))
      (subst (Holds (array_text (1 ∷ 0 ∷ length has.columns ∷ []) ++ array_text has.columns) t)
      {x = s + 16 + length has.values * 2 + (4 + length has.firsts * 2) + 6 + length has.rows * 2}
      {y = s + (16 + length has.values * 2 + 4 + length has.firsts * 2 + 6 + length has.rows * 2)} (omega arith) second-held))

  -- the coverage table
  index-read : (x : ℕ) → Searched has.firsts x (λ i. i) (index_of t s x)
  index-read x = subst (λ n. Searched has.firsts x (λ i. i) (coverage_index t (s + n) x)) (sym coverage-at)
      (coverage-read t (s + (16 + length has.values * 2)) has.firsts x has.is.few has.is.firsts_small
      (subst (Holds (coverage_text has.firsts) t) {x = s + 16 + length has.values * 2} {y = s + (16 + length has.values * 2)} (omega arith)
      (holds-first (coverage_text has.firsts) _ coverage-held)))

  -- a pair
  place-of : (x y : ℕ) → ℕ
  place-of x y = get_or has.rows x 0 * has.column_count + get_or has.columns y 0

  record-read : (k x y : ℕ) → Contains has.firsts x → record_of t s k x y ≡ Some (s + 16 + place-of x y * 2)
  unfolding place-of
  record-read k x y there =
      let row = class_of t (s + word t (s + 8)) x in
      let column = class_of t (s + word t (s + 10)) y in
      let listed = (if nat_lt k (word t (s + 8)) then listed_pair t (s + word t (s + 10 + k * 2)) (2 + sizes_of t s) y else None) in
      ap (λ n. if n == 1 then listed else (if n == 2 then class_pair t s (sizes_of t s) row column else None)) format
      ∙ ap (λ n. class_pair t s (size_of n + size_of (word t (s + 6))) row column) format-1
      ∙ ap (λ n. class_pair t s (size_of 4 + size_of n) row column) format-2
      ∙ ap (λ n. class_pair t s n row column) size-4
      ∙ ap (λ n. class_pair t s 2 n column) (first-class x)
      ∙ ap (λ n. class_pair t s 2 (get_or has.rows x 0) n) (second-class y)
      ∙ ap (λ n. if nat_lt (get_or has.rows x 0) n && nat_lt (get_or has.columns y 0) (word t (s + 14))
      then Some (s + 16 + (get_or has.rows x 0 * word t (s + 14) + get_or has.columns y 0) * 2) else None) row-count
      ∙ ap (λ n. if nat_lt (get_or has.rows x 0) has.row_count && nat_lt (get_or has.columns y 0) n
      then Some (s + 16 + (get_or has.rows x 0 * n + get_or has.columns y 0) * 2) else None) column-count
      ∙ ap (λ (b : Bool). if b && nat_lt (get_or has.columns y 0) has.column_count
      then Some (s + 16 + (get_or has.rows x 0 * has.column_count + get_or has.columns y 0) * 2) else None) (lt-ltb _ _ (has.row x there))
      ∙ ap (λ (b : Bool). if b then Some (s + 16 + (get_or has.rows x 0 * has.column_count + get_or has.columns y 0) * 2) else None) (lt-ltb _ _ (has.column y))

  pair-read : (k x y : ℕ) → Contains has.firsts x → adjustment_by t s (record_of t s k x y) ≡ Some (f x y)
  unfolding place-of
  pair-read k x y there =
      let at = place-of x y in
      ap (adjustment_by t s) (record-read k x y there)
      ∙ ap (λ n. Some (adjustment_at t (s + 16 + at * 2) n (word t (s + 6)))) format-1
      ∙ ap (λ n. Some (adjustment_at t (s + 16 + at * 2) 4 n)) format-2
      ∙ ap (λ (a : Adjustment). Some a) (advance-read t (s + 16 + at * 2) (get_or has.values at 0)
      (holds-array has.values (s + 16) at (has.place x y there) (has.is.values_small at (has.place x y there)) (holds-first (array_text has.values) _ values-held))
      ∙ sym (has.pair x y there))

  pub class-read : (x y : ℕ) → or_nothing (by_subtable t s x y) ≡ f x y
  class-read x y = by (index_of t s x) (index-read x)
    where
      by : (index : Option ℕ) → Searched has.firsts x (λ i. i) index → or_nothing (adjustment_of t s index x y) ≡ f x y
      by _ (missing none) = sym (has.others x y (λ there. none there.0 there.1 (any-default has.firsts there.0 0 x there.1 ∙ there.2)))
      by _ (present k less is) = ap or_nothing (pair-read k x y (k, less, any-default has.firsts k x 0 less ∙ is))
