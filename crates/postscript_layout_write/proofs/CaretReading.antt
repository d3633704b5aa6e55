-- Ligature carets that were written are read as they were.
use Rattle.std.proofs.Common.{◌≡◌, refl, sym, ap, subst, ◌∙◌, inl, inr, ℕ, zero, suc, ◌+◌, ◌*◌, ◌≤◌, ◌<◌, ◌==◌, List, [], ◌∷◌, ◌++◌, length, length-append, get_or, take, arith, Bool}
use Rattle.std.specs.Prelude.{Option, Some, if◌then◌else◌}
use Rattle.std.proofs.lemmas.Bool.{eq-eqb, lt-ltb}
use Rattle.std.proofs.lemmas.List.{get_or_append_left, get_or_push, take_all}
use Rattle.std.proofs.lemmas.List.Elements.{All-get_or}
use Rattle.std.proofs.Math.Seq.{take-suc}
use Rattle.postscript_layout.specs.Numbers.{word}
use Rattle.postscript_layout_write.specs.CaretLists.{AreCarets, HasCarets, caret_list_text, ligature_numbers, value_of, value_offsets, values_of}
use Rattle.postscript_layout_write.specs.Carets.{Caret, caret_at, carets_covered, carets_in, coordinate, point}
use Rattle.postscript_layout_write.specs.First.{all_below}
use Rattle.postscript_layout_write.specs.Holds.{Holds}
use Rattle.postscript_layout_write.specs.Ranges.{coverage_index}
use Rattle.postscript_layout_write.specs.Sets.{AreOffsets}
use Rattle.postscript_layout_write.specs.Text.{coverage_text, offsets_text, uint16}
use Rattle.postscript_layout_write.proofs.CaretCollecting.{length-value, length-values}
use Rattle.postscript_layout_write.proofs.Firsts.{nat_cases}
use Rattle.postscript_layout_write.proofs.Holding.{holds-array, holds-first, holds-in, holds-second, holds-word, length-uint16}
use Rattle.postscript_layout_write.proofs.MarkReading.{coverage-read}
use Rattle.postscript_layout_write.proofs.Reading.{Searched, any-default, length-coverage, length-offsets, missing, offsets-read, present}
use Rattle.postscript_layout_write.proofs.Rows.{append-at}

-- lists of one element each
all-single : (f : ℕ → List Caret) (carets : List Caret) (d : Caret) (n : ℕ) → n ≤ length carets → ((k : ℕ) → k < n → f k ≡ get_or carets k d ∷ []) →
    all_below f n ≡ take n carets
all-single f carets d zero low each = refl
all-single f carets d (suc m) low each =
    ap (λ xs. xs ++ f m) (all-single f carets d m (omega (arith, low)) (λ k less. each k (omega (arith, less))))
    ∙ ap (λ xs. take m carets ++ xs) (each m (omega arith)) ∙ sym (take-suc carets m d (omega (arith, low)))

length-offsets-below : (count n : ℕ) → length (value_offsets count n) ≡ n
length-offsets-below count zero = refl
length-offsets-below count (suc m) =
    let long = length-append (value_offsets count m) ((2 + count * 2 + m * 4) ∷ []) in
    let rest = length-offsets-below count m in
    omega (arith, long, rest)

offset-below : (count n k : ℕ) → k < n → get_or (value_offsets count n) k 0 ≡ 2 + count * 2 + k * 4
offset-below count zero k less = absurd (omega (arith, less))
offset-below count (suc m) k less =
    let long = length-offsets-below count m in
    elim (nat_cases k m) [
      | inl early ↦ get_or_append_left (value_offsets count m) ((2 + count * 2 + m * 4) ∷ []) 0 k (omega (arith, long, early)) ∙ offset-below count m k early
      | inr late ↦ (let same : m ≡ k = omega (arith, less, late) in
          get_or_push (value_offsets count m) (2 + count * 2 + m * 4) 0 k (omega (arith, long, same)) ∙ ap (λ i. 2 + count * 2 + i * 4) same)
    ]

value-at : (carets : List Caret) (d : Caret) (j k : ℕ) → j < length carets → k < 2 → get_or (values_of carets) (j * 2 + k) 0 ≡ get_or (value_of (get_or carets j d)) k 0
value-at [] d j k less two = absurd (omega (arith, less))
value-at (c ∷ cs) d zero k less two =
    let long = length-value c in
    ap (λ i. get_or (value_of c ++ values_of cs) i 0) {x = zero * 2 + k} {y = k} (omega arith) ∙ get_or_append_left (value_of c) (values_of cs) 0 k (omega (arith, long, two))
value-at (c ∷ cs) d (suc j) k less two =
    ap (λ i. get_or (value_of c ++ values_of cs) i 0) {x = suc j * 2 + k} {y = 2 + (j * 2 + k)} (omega arith)
    ∙ append-at (value_of c) (values_of cs) 0 2 (j * 2 + k) (length-value c) ∙ value-at cs d j k (omega (arith, less)) two

-- the caret of a table with a format and a number
caret-read : (t : List ℕ) (value : ℕ) (caret : Caret) → ((k : ℕ) → k < 2 → word t (value + k * 2) ≡ get_or (value_of caret) k 0) → caret_at t value ≡ caret ∷ []
caret-read t value (coordinate number) each =
    let format : word t value ≡ 1 = ap (word t) (omega arith) ∙ each 0 (omega arith) in
    ap (λ (b : Bool). if b then coordinate (word t (value + 2)) ∷ [] else (if word t value == 3 then coordinate (word t (value + 2)) ∷ []
    else (if word t value == 2 then point (word t (value + 2)) ∷ [] else []))) (eq-eqb (word t value) 1 format)
    ∙ ap (λ n. coordinate n ∷ []) (each 1 (omega arith))
caret-read t value (point index) each =
    let format : word t value ≡ 2 = ap (word t) (omega arith) ∙ each 0 (omega arith) in
    ap (λ n. if n == 1 then coordinate (word t (value + 2)) ∷ [] else (if n == 3 then coordinate (word t (value + 2)) ∷ []
    else (if n == 2 then point (word t (value + 2)) ∷ [] else []))) format
    ∙ ap (λ n. point n ∷ []) (each 1 (omega arith))

module _ (carets : List Caret) (t : List ℕ) (a : ℕ) (has : HasCarets carets t a) where
  values : List ℕ
  values = values_of carets

  n : ℕ
  n = length carets

  number : (k : ℕ) → k < length (ligature_numbers n values) → get_or (ligature_numbers n values) k 0 < 65536 → word t (a + k * 2) ≡ get_or (ligature_numbers n values) k 0
  unfolding n values
  number k less small = holds-array (ligature_numbers n values) a k less small has.there

  count-read : word t a ≡ n
  unfolding n values
  count-read = ap (word t) (omega arith) ∙ number 0 (omega arith) (let few = has.few in omega (arith, few))

  long : length (ligature_numbers n values) ≡ 1 + n * 3
  unfolding n values
  long =
      let sum = length-append (value_offsets n n) values in
      let first = length-offsets-below n n in
      let rest = length-values carets in
      omega (arith, sum, first, rest)

  offset-at : (j : ℕ) → j < n → get_or (ligature_numbers n values) (1 + j) 0 ≡ 2 + n * 2 + j * 4
  unfolding n values
  offset-at j less = ap (λ i. get_or (ligature_numbers n values) i 0) {x = 1 + j} {y = suc j} (omega arith)
      ∙ get_or_append_left (value_offsets n n) values 0 j (let low = length-offsets-below n n in omega (arith, low, less)) ∙ offset-below n n j less

  offset-read : (j : ℕ) → j < n → word t (a + 2 + j * 2) ≡ 2 + n * 2 + j * 4
  unfolding n values
  offset-read j less =
      let few = has.few in
      let is = offset-at j less in
      ap (word t) (omega arith) ∙ number (1 + j) (omega (arith, long, less)) (omega (arith, is, few, less)) ∙ is

  value-number : (d : Caret) (j k : ℕ) → j < n → k < 2 → get_or (ligature_numbers n values) (1 + n + (j * 2 + k)) 0 ≡ get_or (value_of (get_or carets j d)) k 0
  unfolding n values
  value-number d j k less two = ap (λ i. get_or (ligature_numbers n values) i 0) {x = 1 + n + (j * 2 + k)} {y = suc (n + (j * 2 + k))} (omega arith)
      ∙ append-at (value_offsets n n) values 0 n (j * 2 + k) (length-offsets-below n n) ∙ value-at carets d j k less two

  value-small : (j k : ℕ) → j < n → k < 2 → get_or values (j * 2 + k) 0 < 65536
  unfolding n values
  value-small j k less two = All-get_or (λ number. number < 65536) values (j * 2 + k) 0 (let all = length-values carets in omega (arith, all, less, two)) has.small

  value-read : (d : Caret) (j k : ℕ) → j < n → k < 2 → word t (a + (2 + n * 2 + j * 4) + k * 2) ≡ get_or (value_of (get_or carets j d)) k 0
  unfolding n values
  value-read d j k less two =
      let is = value-number d j k less two in
      let same = value-at carets d j k less two in
      let small = value-small j k less two in
      ap (word t) {x = a + (2 + n * 2 + j * 4) + k * 2} {y = a + (1 + n + (j * 2 + k)) * 2} (omega arith)
      ∙ number (1 + n + (j * 2 + k)) (omega (arith, long, less, two)) (omega (arith, is, same, small)) ∙ is

  pub carets-read : carets_in t a ≡ carets
  unfolding n values
  carets-read =
      let d = coordinate 0 in
      ap (all_below (λ i. caret_at t (a + word t (a + 2 + i * 2)))) count-read
      ∙ all-single (λ i. caret_at t (a + word t (a + 2 + i * 2))) carets d n (omega arith)
      (λ j less. ap (λ m. caret_at t (a + m)) (offset-read j less) ∙ caret-read t (a + (2 + n * 2 + j * 4)) (get_or carets j d) (λ k two. value-read d j k less two))
      ∙ take_all n carets (omega arith)

module _ (f : ℕ → List Caret) (count : ℕ) (glyphs offsets bytes : List ℕ) (t : List ℕ) (c : ℕ) (are : AreCarets f count glyphs offsets bytes) (few : length glyphs ≤ 16380)
    (fit : AreOffsets (8 + length glyphs * 4) offsets) (low : count < 65536) (held : Holds (caret_list_text glyphs offsets bytes) t c) where
  rest2 : Holds (uint16 (length glyphs) ++ (offsets_text (8 + length glyphs * 4) offsets ++ (coverage_text glyphs ++ bytes))) t (c + 2)
  unfolding caret_list_text
  rest2 = holds-second (uint16 (4 + length glyphs * 2)) _ 2 (length-uint16 (4 + length glyphs * 2)) held

  cover-read : word t c ≡ 4 + length glyphs * 2
  unfolding caret_list_text
  cover-read = holds-word (4 + length glyphs * 2) (omega (arith, few)) (holds-first (uint16 (4 + length glyphs * 2)) _ held)

  many-read : word t (c + 2) ≡ length glyphs
  many-read = holds-word (length glyphs) (omega (arith, few)) (holds-first (uint16 (length glyphs)) _ rest2)

  rest4 : Holds (offsets_text (8 + length glyphs * 4) offsets ++ (coverage_text glyphs ++ bytes)) t (c + 2 + 2)
  rest4 = holds-second (uint16 (length glyphs)) _ 2 (length-uint16 (length glyphs)) rest2

  cover : Holds (coverage_text glyphs ++ bytes) t (c + (4 + length glyphs * 2))
  cover = subst (Holds (coverage_text glyphs ++ bytes) t) (omega arith)
      (holds-second (offsets_text (8 + length glyphs * 4) offsets) (coverage_text glyphs ++ bytes) (length glyphs * 2)
      (length-offsets (8 + length glyphs * 4) offsets ∙ ap (λ m. m * 2) are.same) rest4)

  tables : Holds bytes t (c + (8 + length glyphs * 4))
  tables = subst (Holds bytes t) (omega arith) (holds-second (coverage_text glyphs) bytes (4 + length glyphs * 2) (length-coverage glyphs) cover)

  covered : (x : ℕ) → Searched glyphs x (λ i. i) (coverage_index t (c + word t c) x)
  covered x = subst (λ m. Searched glyphs x (λ i. i) (coverage_index t (c + m) x)) (sym cover-read)
      (coverage-read t (c + (4 + length glyphs * 2)) glyphs x few (λ k less. (let small = are.fit k less in omega (arith, small, low)))
      (holds-first (coverage_text glyphs) bytes cover))

  there-read : (k : ℕ) → k < length glyphs → carets_covered t c (Some k) ≡ f (get_or glyphs k 0)
  there-read k less =
      let same = are.same in
      let has = are.each k less in
      let offset : word t (c + 4 + k * 2) ≡ 8 + length glyphs * 4 + get_or offsets k 0 =
      ap (word t) (omega arith) ∙ offsets-read t (c + 2 + 2) (8 + length glyphs * 4) offsets k (omega (arith, same, less)) fit
      (holds-first (offsets_text (8 + length glyphs * 4) offsets) (coverage_text glyphs ++ bytes) rest4) in
      ap (λ (b : Bool). if b then carets_in t (c + word t (c + 4 + k * 2)) else []) (lt-ltb k (word t (c + 2)) (let many = many-read in omega (arith, many, less)))
      ∙ ap (carets_in t) {x = c + word t (c + 4 + k * 2)} {y = c + (8 + length glyphs * 4) + get_or offsets k 0} (omega (arith, offset))
      ∙ carets-read (f (get_or glyphs k 0)) t (c + (8 + length glyphs * 4) + get_or offsets k 0)
      (record { some = has.some; few = has.few; small = has.small; there = holds-in tables has.there })

  pub list-read : (x : ℕ) → x < count → carets_covered t c (coverage_index t (c + word t c) x) ≡ f x
  list-read x less = by (coverage_index t (c + word t c) x) (covered x)
    where
      by : (index : Option ℕ) → Searched glyphs x (λ i. i) index → carets_covered t c index ≡ f x
      by _ (missing none) = elim (are.all x less) [
        | inl empty ↦ sym empty
        | inr there ↦ absurd (none there.0 there.1 (any-default glyphs there.0 0 x there.1 ∙ there.2))
      ]
      by _ (present k within is) = there-read k within ∙ ap f is

  pub list-none : (x : ℕ) → count ≤ x → carets_covered t c (coverage_index t (c + word t c) x) ≡ []
  list-none x far = by (coverage_index t (c + word t c) x) (covered x)
    where
      by : (index : Option ℕ) → Searched glyphs x (λ i. i) index → carets_covered t c index ≡ []
      by _ (missing none) = refl
      by _ (present k within is) = (let small = are.fit k within in absurd (omega (arith, small, is, far)))
