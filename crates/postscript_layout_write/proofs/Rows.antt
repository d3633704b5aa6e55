-- Rows that are collected, and arrays of rows that are written and read.
use Rattle.std.proofs.Common.{◌≡◌, sym, ap, subst, ◌∙◌, inl, inr, ℕ, ◌+◌, ◌*◌, ◌≤◌, ◌<◌, List, [], ◌∷◌, ◌++◌, length, length-append, get_or, arith, Bool}
use Rattle.std.specs.Prelude.{◌==◌, ◌&&◌, None, Some, Option, nat_lt, if◌then◌else◌}
use Rattle.std.specs.List.{Contains}
use Rattle.postscript_layout.specs.Numbers.{word}
use Rattle.std.proofs.lemmas.Bool.{eq-eqb, lt-ltb, ne_eqb}
use Rattle.std.proofs.lemmas.List.{get_or-append-add, get_or_append_left, get_or_push}
use Rattle.std.proofs.lemmas.Nat.{mul-le}
use Rattle.std.proofs.lemmas.List.Elements.{Contains-append_left, Contains-push}
use Rattle.postscript_layout_write.specs.Attaching.{AreRows, HasCells, IsAnchor, IsCell, IsRow, IsWhole, PlacesCell, anchor_text, cell_of, cells_text, no_cell}
use Rattle.postscript_layout_write.specs.Holds.{Holds}
use Rattle.postscript_layout_write.specs.Marks.{anchor_at, point}
use Rattle.postscript_layout_write.specs.Text.{array_text, uint16}
use Rattle.postscript_layout_write.specs.declared.anchors.Anchor.{Anchor}
use Rattle.postscript_layout_write.specs.declared.anchors.Cell.{Cell}
use Rattle.postscript_layout_write.specs.declared.anchors.Cell.TheVariants.{At, Number}
use Rattle.postscript_layout_write.proofs.Firsts.{nat_cases}
use Rattle.postscript_layout_write.proofs.Holding.{holds-array, holds-first, holds-in, holds-on, holds-second, holds-whole, holds-word, length-array, length-uint16}
use Rattle.postscript_layout_write.proofs.Lists.{push-each}

pub append-at : {X : Type 0} (xs ys : List X) (d : X) (n j : ℕ) → length xs ≡ n → get_or (xs ++ ys) (n + j) d ≡ get_or ys j d
append-at xs ys d n j long = ap (λ k. get_or (xs ++ ys) (k + j) d) (sym long) ∙ get_or-append-add xs ys j d

-- no row yet
pub rows-none : (width : ℕ) (f : ℕ → Option (ℕ → Cell)) → AreRows width f 0 [] []
rows-none width f = record {
  many = omega arith;
  fit = λ k less. absurd (omega (arith, less));
  each = λ k less. absurd (omega (arith, less));
  all = λ x less. absurd (omega (arith, less));
}

-- a glyph without a row
pub rows-less : (width : ℕ) (f : ℕ → Option (ℕ → Cell)) (x : ℕ) (glyphs : List ℕ) (cells : List Cell) → AreRows width f x glyphs cells → f x ≡ None →
    AreRows width f (x + 1) glyphs cells
rows-less width f x glyphs cells are none = record {
  many = are.many;
  fit = λ k less. (let small = are.fit k less in omega (arith, small));
  each = are.each;
  all = λ y less. elim (nat_cases y x) [
    | inl early ↦ are.all y early
    | inr late ↦ (let same : x ≡ y = omega (arith, less, late) in inl (subst (λ k. f k ≡ None) same none))
  ];
}

-- a row does not change if more cells follow
row-on : (width : ℕ) (o : Option (ℕ → Cell)) (cells more : List Cell) (start : ℕ) → start + width ≤ length cells → IsRow width o cells start →
    IsRow width o (cells ++ more) start
row-on width None cells more start within r = r
row-on width (Some row) cells more start within r =
    λ j less. get_or_append_left cells more no_cell (start + j) (omega (arith, less, within)) ∙ r j less

row-after : (width : ℕ) (o : Option (ℕ → Cell)) (cells row : List Cell) (start : ℕ) → length cells ≡ start → IsRow width o row 0 → IsRow width o (cells ++ row) start
row-after width None cells row start long r = r
row-after width (Some is) cells row start long r =
    λ j less. append-at cells row no_cell start j long ∙ ap (λ i. get_or row i no_cell) (omega arith) ∙ r j less

-- the same rows
pub rows-as : (width : ℕ) (f g : ℕ → Option (ℕ → Cell)) (n : ℕ) (glyphs : List ℕ) (cells : List Cell) → ((x : ℕ) → x < n → f x ≡ g x) →
    AreRows width f n glyphs cells → AreRows width g n glyphs cells
rows-as width f g n glyphs cells same are = record {
  many = are.many;
  fit = are.fit;
  each = λ k less. subst (λ (o : Option (ℕ → Cell)). IsRow width o cells (k * width)) (same (get_or glyphs k 0) (are.fit k less)) (are.each k less);
  all = λ x less. elim (are.all x less) [
    | inl none ↦ inl (sym (same x less) ∙ none)
    | inr there ↦ inr there
  ];
}

-- one more row
pub rows-more : (width : ℕ) (f : ℕ → Option (ℕ → Cell)) (x : ℕ) (glyphs : List ℕ) (cells row : List Cell) → AreRows width f x glyphs cells →
    IsWhole width (f x) row → AreRows width f (x + 1) (glyphs ++ x ∷ []) (cells ++ row)
rows-more width f x glyphs cells row are whole = record {
  many = (let many = are.many in let long = whole.long in
      let one : length (glyphs ++ x ∷ []) * width ≡ (length glyphs + 1) * width = ap (λ n. n * width) (omega (arith, length-append glyphs (x ∷ []))) in
      omega (arith, many, long, one, length-append cells row));
  fit = λ k less. elim (nat_cases k (length glyphs)) [
    | inl early ↦ subst (λ w. w < x + 1) (sym (get_or_append_left glyphs (x ∷ []) 0 k early)) (let small = are.fit k early in omega (arith, small))
    | inr late ↦ subst (λ w. w < x + 1) (sym (get_or_push glyphs x 0 k (last k less late))) (omega arith)
  ];
  each = λ k less. elim (nat_cases k (length glyphs)) [
    | inl early ↦ subst (λ w. IsRow width (f w) (cells ++ row) (k * width)) (sym (get_or_append_left glyphs (x ∷ []) 0 k early))
        (row-on width (f (get_or glyphs k 0)) cells row (k * width) (before k early) (are.each k early))
    | inr late ↦ subst (λ w. IsRow width (f w) (cells ++ row) (k * width)) (sym (get_or_push glyphs x 0 k (last k less late)))
        (row-after width (f x) cells row (k * width) (are.many ∙ ap (λ n. n * width) (last k less late)) whole.row)
  ];
  all = λ y less. elim (nat_cases y x) [
    | inl early ↦ elim (are.all y early) [
      | inl none ↦ inl none
      | inr there ↦ inr (Contains-append_left glyphs (x ∷ []) y there)
    ]
    | inr late ↦ (let same : x ≡ y = omega (arith, less, late) in inr (subst (λ w. Contains (glyphs ++ x ∷ []) w) same (Contains-push glyphs x)))
  ];
}
  where
    last : (k : ℕ) → k < length (glyphs ++ x ∷ []) → length glyphs ≤ k → length glyphs ≡ k
    last k less late = omega (arith, less, late, length-append glyphs (x ∷ []))

    before : (k : ℕ) → k < length glyphs → k * width + width ≤ length cells
    before k early = (let many = are.many in let room : (k + 1) * width ≤ length glyphs * width = mul-le (k + 1) width (length glyphs) width (omega (arith, early)) (omega arith) in
        omega (arith, many, room))

-- the number of a cell does not change if more anchors follow
pub cell-on : (base : ℕ) (pool more : List ℕ) (cell : Cell) (number : ℕ) → IsCell base pool cell number → IsCell base (pool ++ more) cell number
cell-on base pool more (Number n) number is = is
cell-on base pool more (At anchor) number is = record {
  place = is.place;
  is = is.is;
  small = is.small;
  x = is.x;
  y = is.y;
  there = holds-on more is.there;
}

pub cells-more : (base : ℕ) (cells : List Cell) (i : ℕ) (numbers : List ℕ) (number : ℕ) (pool new : List ℕ) → length numbers ≡ i →
    ((k : ℕ) → k < i → IsCell base pool (get_or cells k no_cell) (get_or numbers k 0)) →
    PlacesCell base (get_or cells i no_cell) number pool new →
    (k : ℕ) → k < i + 1 → IsCell base new (get_or cells k no_cell) (get_or (numbers ++ number ∷ []) k 0)
cells-more base cells i numbers number pool new many each placed = push-each (λ k n. IsCell base new (get_or cells k no_cell) n) numbers number 0 i many
    (λ k less. subst (λ (xs : List ℕ). IsCell base xs (get_or cells k no_cell) (get_or numbers k 0)) (sym placed.bytes)
    (cell-on base pool placed.more (get_or cells k no_cell) (get_or numbers k 0) (each k less))) placed.is

pub cells-made : (lead count : ℕ) (cells : List Cell) (numbers pool text : List ℕ) → count < 65536 → length numbers ≡ length cells →
    ((k : ℕ) → k < length cells → IsCell (lead + (2 + length cells * 2)) pool (get_or cells k no_cell) (get_or numbers k 0)) →
    text ≡ uint16 count ++ (array_text numbers ++ pool) → HasCells lead count cells text 0
unfolding cells_text
cells-made lead count cells numbers pool text small same each is = record {
  numbers = numbers;
  pool = pool;
  small = small;
  same = same;
  each = each;
  there = subst (λ (xs : List ℕ). Holds (cells_text count numbers pool) xs 0) (sym is) (holds-whole (cells_text count numbers pool));
}

-- an array that is read, with offsets from the start of a table
module _ (lead count : ℕ) (cells : List Cell) (t : List ℕ) (start at : ℕ) (after : at ≡ start + lead) (has : HasCells lead count cells t at) where
  behind : Holds (array_text has.numbers ++ has.pool) t (at + 2)
  unfolding cells_text
  behind = holds-second (uint16 count) _ 2 (length-uint16 count) has.there

  pub count-read : word t at ≡ count
  unfolding cells_text
  count-read = holds-word count has.small (holds-first (uint16 count) _ has.there)

  pool-held : Holds has.pool t (start + (lead + (2 + length cells * 2)))
  pool-held = subst (Holds has.pool t) (let same = has.same in omega (arith, same, after))
      (holds-second (array_text has.numbers) has.pool (length has.numbers * 2) (length-array has.numbers) behind)

  number-small : (cell : Cell) (number : ℕ) → IsCell (lead + (2 + length cells * 2)) has.pool cell number → number < 65536
  number-small (Number n) number is = (let same = is.0 in let small = is.1 in omega (arith, same, small))
  number-small (At anchor) number is = is.small

  word-read : (k : ℕ) → k < length cells → word t (at + 2 + k * 2) ≡ get_or has.numbers k 0
  word-read k less = holds-array has.numbers (at + 2) k (let same = has.same in omega (arith, same, less))
      (number-small (get_or cells k no_cell) (get_or has.numbers k 0) (has.each k less)) (holds-first (array_text has.numbers) has.pool behind)

  cell-there : (k : ℕ) (cell : Cell) → k < length cells → get_or cells k no_cell ≡ cell →
      IsCell (lead + (2 + length cells * 2)) has.pool cell (word t (at + 2 + k * 2))
  cell-there k cell less is = subst (λ n. IsCell (lead + (2 + length cells * 2)) has.pool cell n) (sym (word-read k less))
      (subst (λ (x : Cell). IsCell (lead + (2 + length cells * 2)) has.pool x (get_or has.numbers k 0)) is (has.each k less))

  pub number-read : (k n : ℕ) → k < length cells → get_or cells k no_cell ≡ Number n → word t (at + 2 + k * 2) ≡ n
  number-read k n less is = (cell-there k (Number n) less is).0

  anchor-held : (anchor : Anchor) (number : ℕ) → IsAnchor (lead + (2 + length cells * 2)) has.pool anchor number → anchor_at t start number ≡ anchor
  unfolding anchor_text
  anchor-held anchor number is =
      let held : Holds (anchor_text anchor) t (start + number) = subst (Holds (anchor_text anchor) t) (let place = is.is in omega (arith, place)) (holds-in pool-held is.there) in
      let format : word t (start + number) ≡ 1 = holds-word 1 (omega arith) (holds-first (uint16 1) _ held) in
      let rest : Holds (uint16 anchor.x ++ uint16 anchor.y) t (start + number + 2) = holds-second (uint16 1) _ 2 (length-uint16 1) held in
      let x : word t (start + number + 2) ≡ anchor.x = holds-word anchor.x is.x (holds-first (uint16 anchor.x) _ rest) in
      let y : word t (start + number + 4) ≡ anchor.y = ap (word t) (omega arith) ∙ holds-word anchor.y is.y (holds-second (uint16 anchor.x) _ 2 (length-uint16 anchor.x) rest) in
      ap (λ (b : Bool). if b && (nat_lt 0 (word t (start + number)) && nat_lt (word t (start + number)) 4)
      then point (word t (start + number + 2)) (word t (start + number + 4)) else point 0 0) (lt-ltb 0 number (let place = is.is in omega (arith, place)))
      ∙ ap (λ n. if nat_lt 0 n && nat_lt n 4 then point (word t (start + number + 2)) (word t (start + number + 4)) else point 0 0) format
      ∙ ap (λ n. point n (word t (start + number + 4))) x ∙ ap (λ n. point anchor.x n) y

  pub anchor-read : (k : ℕ) (anchor : Anchor) → k < length cells → get_or cells k no_cell ≡ At anchor → anchor_at t start (word t (at + 2 + k * 2)) ≡ anchor
  anchor-read k anchor less is = anchor-held anchor (word t (at + 2 + k * 2)) (cell-there k (At anchor) less is)

  -- a cell of an anchor that may be missing
  pub option-read : (k : ℕ) (o : Option Anchor) → k < length cells → get_or cells k no_cell ≡ cell_of o →
      (if word t (at + 2 + k * 2) == 0 then None else Some (anchor_at t start (word t (at + 2 + k * 2)))) ≡ o
  option-read k None less is = ap (λ (b : Bool). if b then None else Some (anchor_at t start (word t (at + 2 + k * 2))))
      (eq-eqb (word t (at + 2 + k * 2)) 0 (number-read k 0 less is))
  option-read k (Some anchor) less is = (let w = word t (at + 2 + k * 2) in let placed = cell-there k (At anchor) less is in
      let far = placed.is in
      ap (λ (b : Bool). if b then None else Some (anchor_at t start w)) (ne_eqb w 0 (omega (arith, far)))
      ∙ ap (λ (a : Anchor). Some a) (anchor-held anchor w placed))

-- an array in other bytes
pub cells-within : (lead count : ℕ) (cells : List Cell) (t bytes : List ℕ) (at offset : ℕ) → Holds bytes t at → HasCells lead count cells bytes offset →
    HasCells lead count cells t (at + offset)
cells-within lead count cells t bytes at offset h has = record {
  numbers = has.numbers;
  pool = has.pool;
  small = has.small;
  same = has.same;
  each = has.each;
  there = holds-in h has.there;
}

pub cells-in : (lead count : ℕ) (cells : List Cell) (t bytes : List ℕ) (at : ℕ) → Holds bytes t at → HasCells lead count cells bytes 0 → HasCells lead count cells t at
cells-in lead count cells t bytes at h has = subst (HasCells lead count cells t) (omega arith) (cells-within lead count cells t bytes at 0 h has)

pub cells-on : (lead count : ℕ) (cells : List Cell) (bytes more : List ℕ) (at : ℕ) → HasCells lead count cells bytes at → HasCells lead count cells (bytes ++ more) at
cells-on lead count cells bytes more at has = record {
  numbers = has.numbers;
  pool = has.pool;
  small = has.small;
  same = has.same;
  each = has.each;
  there = holds-on more has.there;
}
