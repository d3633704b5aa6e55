-- The lines, columns and values of pairs by classes.
use Rattle.std.proofs.Common.{◌≡◌, refl, sym, ap, subst, ◌∙◌, inl, inr, ℕ, suc, ◌+◌, ◌*◌, ◌≤◌, ◌<◌, List, [], ◌∷◌, ◌++◌, length, get_or, arith, add-one, true}
use Rattle.std.specs.Prelude.{Some, ◌⊎◌, ◌≢◌, slice_set}
use Rattle.std.specs.List.{Contains}
use Rattle.std.proofs.Math.Nat.{mul-le-mul_right, suc-mul}
use Rattle.std.proofs.lemmas.List.{append_assoc, get_or_append_left, get_or_past, get_or_push, get_or-set_other, get_or-set_same, length_push}
use Rattle.std.proofs.lemmas.List.Elements.{Contains-append_left, Contains-push}
use Rattle.postscript_layout_write.specs.ClassPairs.{AddsFirst, AreAdvances, AreColumns, AreFirsts, AreRows, AreRowsIfOpen, AreValues, HasClasses, IsClassText, PutsValues, advance}
use Rattle.postscript_layout_write.specs.Entries.{AreEntries, entry, form_of}
use Rattle.postscript_layout_write.specs.Lines.{AddsLine, AreLines, cell}
use Rattle.postscript_layout_write.specs.RuleSets.{Begins}
use Rattle.postscript_layout_write.specs.Scopes.{new_pair, pair_by}
use Rattle.postscript_layout_write.specs.Values.{nothing}
use Rattle.postscript_layout_write.specs.declared.entries.Entry.{Entry}
use Rattle.postscript_layout_write.specs.declared.entries.Form.TheVariants.{Advance}
use Rattle.postscript_layout_write.specs.declared.lines.Lines.{Lines}
use Rattle.postscript_layout_write.specs.declared.scope.Scope.{Scope}
use Rattle.postscript_layout_write.specs.declared.values.Adjustment.{Adjustment}
use Rattle.postscript_layout_write.proofs.Collecting.{first-far, pair-far, pair-kept}
use Rattle.postscript_layout_write.proofs.Firsts.{nat_cases}
use Rattle.postscript_layout_write.proofs.Listing.{entries-as}
use Rattle.postscript_layout_write.proofs.Reading.{advance-is, any-default, is-nothing, same-adjustment, same-values}

-- a number of a line is among those of all lines
pub in-lines : (class count width k : ℕ) → class < count → k < width → class * width + k < count * width
in-lines class count width k less within =
    let all = mul-le-mul_right {m = suc class} {n = count} width (omega (arith, less)) in
    omega (arith, all, suc-mul class width, within)

begins-at : (old new : List ℕ) (k : ℕ) → Begins old new → k < length old → get_or new k 0 ≡ get_or old k 0
begins-at old new k begins less = ap (λ (xs : List ℕ). get_or xs k 0) begins.is ∙ get_or_append_left old begins.more 0 k less

-- equal or not
same-or-not : (a b : ℕ) → (a ≡ b) ⊎ (a ≢ b)
same-or-not a b = elim (nat_cases a b) [
  | inl less ↦ inr (λ same. omega (arith, less, same))
  | inr far ↦ elim (nat_cases b a) [
    | inl less ↦ inr (λ same. omega (arith, less, same))
    | inr near ↦ inl (omega (arith, far, near))
  ]
]

-- one more line
pub lines-more : (says : ℕ → ℕ → ℕ → Type 0) (count : ℕ) (line : ℕ → ℕ) (old new : Lines) → old.is_open ≡ true → AreLines says count old → AddsLine line old new →
    ((k : ℕ) → k < old.width → says count k (line k)) → AreLines says (count + 1) new
lines-more says count line old new is-open are adds said = record {
  many = ap length adds.classes ∙ length_push old.classes.items adds.class ∙ ap (λ n. n + 1) are.many;
  small = λ x less. elim (nat_cases x count) [
    | inl early ↦ (let small = are.small x early in let same = old-class x early in let more = adds.more in omega (arith, small, same, more))
    | inr late ↦ (let small = adds.small in let is : x ≡ count = omega (arith, less, late) in
        subst (λ y. get_or new.classes.items y 0 < length new.keys.items) (sym is) (let same = new-class in omega (arith, small, same)))
  ];
  same = λ x k less within. (let w = adds.width in let inside : k < old.width = omega (arith, within, w) in elim (nat_cases x count) [
    | inl early ↦ subst (says x k) (sym (old-cell x k early inside)) (are.same x k early inside)
    | inr late ↦ (let is : count ≡ x = omega (arith, less, late) in
        subst (λ y. says y k (cell new.cells.items new.width (get_or new.classes.items y 0) k)) is
        (subst (says count k) (sym (ap (λ c. cell new.cells.items new.width c k) new-class ∙ adds.same k within)) (said k inside)))
  ]);
}
  where
    old-class : (x : ℕ) → x < count → get_or new.classes.items x 0 ≡ get_or old.classes.items x 0
    old-class x less = let many = are.many in
        ap (λ (xs : List ℕ). get_or xs x 0) adds.classes ∙ get_or_append_left old.classes.items (adds.class ∷ []) 0 x (omega (arith, less, many))

    new-class : get_or new.classes.items count 0 ≡ adds.class
    new-class = ap (λ (xs : List ℕ). get_or xs count 0) adds.classes ∙ get_or_push old.classes.items adds.class 0 count are.many

    old-cell : (x k : ℕ) → x < count → k < old.width →
        cell new.cells.items new.width (get_or new.classes.items x 0) k ≡ cell old.cells.items old.width (get_or old.classes.items x 0) k
    old-cell x k less within =
        let full = old.full is-open in
        let inside = in-lines (get_or old.classes.items x 0) (length old.keys.items) old.width k (are.small x less) within in
        ap (λ c. cell new.cells.items new.width c k) (old-class x less) ∙ ap (λ w. cell new.cells.items w (get_or old.classes.items x 0) k) adds.width
        ∙ begins-at old.cells.items new.cells.items (get_or old.classes.items x 0 * old.width + k) adds.cells (omega (arith, full, inside))

-- values
pub puts-more : (columns : Lines) (r count : ℕ) (old items new : List ℕ) (value : ℕ) → value ≡ cell columns.cells.items columns.width count r →
    new ≡ items ++ value ∷ [] → PutsValues columns r count old items → PutsValues columns r (count + 1) old new
puts-more columns r count old items new value is text puts = record {
  begins = record {
    more = puts.begins.more ++ value ∷ [];
    is = text ∙ ap (λ (xs : List ℕ). xs ++ value ∷ []) puts.begins.is ∙ append_assoc old puts.begins.more (value ∷ []);
  };
  long = (let long = puts.long in let l = ap length text in omega (arith, l, long, length_push items value));
  each = λ c less. (let long = puts.long in elim (nat_cases c count) [
    | inl early ↦ ap (λ (xs : List ℕ). get_or xs (length old + c) 0) text
        ∙ get_or_append_left items (value ∷ []) 0 (length old + c) (omega (arith, long, early)) ∙ puts.each c early
    | inr late ↦ (let same : c ≡ count = omega (arith, less, late) in
        ap (λ (xs : List ℕ). get_or xs (length old + c) 0) text ∙ get_or_push items value 0 (length old + c) (omega (arith, long, same))
        ∙ is ∙ ap (λ d. cell columns.cells.items columns.width d r) (sym same))
  ]);
}

pub puts-none : (columns : Lines) (r : ℕ) (old : List ℕ) → Begins old old → PutsValues columns r 0 old old
puts-none columns r old begins = record { begins = begins; long = omega arith; each = λ c less. absurd (omega (arith, less)) }

pub values-more : (columns : Lines) (r : ℕ) (old new : List ℕ) → AreValues columns r old → PutsValues columns r (length columns.keys.items) old new →
    AreValues columns (r + 1) new
values-more columns r old new are puts = record {
  long = puts.long ∙ ap (λ n. n + width) are.long ∙ sym (ap (λ n. n * width) (add-one r) ∙ suc-mul r width);
  each = λ s c less within. elim (nat_cases s r) [
    | inl early ↦ (let inside = in-lines s r width c early within in let long = are.long in
        begins-at old new (s * width + c) puts.begins (omega (arith, inside, long)) ∙ are.each s c early within)
    | inr late ↦ (let same : r ≡ s = omega (arith, less, late) in
        subst (λ q. get_or new (q * width + c) 0 ≡ cell columns.cells.items columns.width c q) same
        (ap (λ n. get_or new (n + c) 0) (sym are.long) ∙ puts.each c within))
  ];
}
  where
    width : ℕ
    width = length columns.keys.items

-- first glyphs
pub firsts-less : (classes firsts : List ℕ) (x : ℕ) → AreFirsts classes x firsts → get_or classes x 0 ≡ 0 → AreFirsts classes (x + 1) firsts
firsts-less classes firsts x are is = record {
  right = λ i less. (let small = are.right i less in omega (arith, small));
  all = λ y less. elim (nat_cases y x) [
    | inl early ↦ are.all y early
    | inr late ↦ (let same : x ≡ y = omega (arith, less, late) in inl (subst (λ z. get_or classes z 0 ≡ 0) same is))
  ];
  few = (let few = are.few in omega (arith, few));
}

pub firsts-more : (classes firsts : List ℕ) (x : ℕ) → AreFirsts classes x firsts → AreFirsts classes (x + 1) (firsts ++ x ∷ [])
firsts-more classes firsts x are = record {
  right = λ i less. elim (nat_cases i (length firsts)) [
    | inl early ↦ (let small = are.right i early in let is = get_or_append_left firsts (x ∷ []) 0 i early in omega (arith, small, is))
    | inr late ↦ (let is = get_or_push firsts x 0 i (omega (arith, less, late, length_push firsts x)) in omega (arith, is))
  ];
  all = λ y less. elim (nat_cases y x) [
    | inl early ↦ elim (are.all y early) [
      | inl none ↦ inl none
      | inr there ↦ inr (Contains-append_left firsts (x ∷ []) y there)
    ]
    | inr late ↦ (let same : x ≡ y = omega (arith, less, late) in inr (subst (λ z. Contains (firsts ++ x ∷ []) z) same (Contains-push firsts x)))
  ];
  few = (let few = are.few in omega (arith, few, length_push firsts x));
}

-- the advances of the pairs of a first glyph
pub is-advance : (a : Adjustment) → form_of a ≡ Some Advance → a ≡ advance a.first.x_advance
is-advance a is =
    let c = advance-is a.first a.second is in
    same-adjustment a (advance a.first.x_advance) (same-values a.first (advance a.first.x_advance).first c.1 c.2 refl c.3) c.0

pub advance-set : (f : ℕ → Adjustment) (line : List ℕ) (s n y : ℕ) → s < length line → f s ≡ advance n →
    (get_or line y 0 ≡ 0) ⊎ (f y ≡ advance (get_or line y 0)) → (get_or (slice_set line s n) y 0 ≡ 0) ⊎ (f y ≡ advance (get_or (slice_set line s n) y 0))
advance-set f line s n y less is before = elim (same-or-not y s) [
  | inl same ↦ inr (ap f same ∙ is ∙ ap advance (sym (ap (λ k. get_or (slice_set line s n) k 0) same ∙ get_or-set_same line s n 0 less)))
  | inr other ↦ subst (λ m. (m ≡ 0) ⊎ (f y ≡ advance m)) (sym (get_or-set_other line s y n 0 other)) before
]

pub advance-kept : (f : ℕ → Adjustment) (line : List ℕ) (s n y : ℕ) → s < length line → f s ≡ advance n → f y ≡ advance (get_or line y 0) →
    f y ≡ advance (get_or (slice_set line s n) y 0)
advance-kept f line s n y less is before = elim (same-or-not y s) [
  | inl same ↦ ap f same ∙ is ∙ ap advance (sym (ap (λ k. get_or (slice_set line s n) k 0) same ∙ get_or-set_same line s n 0 less))
  | inr other ↦ before ∙ ap advance (sym (get_or-set_other line s y n 0 other))
]

pub advance-new : (f : ℕ → Adjustment) (line : List ℕ) (s n : ℕ) → s < length line → f s ≡ advance n → f s ≡ advance (get_or (slice_set line s n) s 0)
advance-new f line s n less is = is ∙ ap advance (sym (get_or-set_same line s n 0 less))

-- one more entry is done
module _ (f : ℕ → Adjustment) (entries : List Entry) (width : ℕ) (line : List ℕ) (i : ℕ) (none : Entry) (are : AreEntries f width entries) (less : i < length entries)
    (long : length line ≡ width) (is : form_of (get_or entries i none).adjustment ≡ Some Advance) where
  this : Entry
  this = get_or entries i none

  inside : this.second < length line
  unfolding this
  inside = let small = (are.right i none less).0 in omega (arith, small, long)

  said : f this.second ≡ advance this.adjustment.first.x_advance
  unfolding this
  said = sym (are.right i none less).1 ∙ is-advance this.adjustment is

  pub entry-done : ((j : ℕ) (d : Entry) → j < i → f (get_or entries j d).second ≡ advance (get_or line (get_or entries j d).second 0)) →
      (j : ℕ) (d : Entry) → j < i + 1 →
      f (get_or entries j d).second ≡ advance (get_or (slice_set line (get_or entries i none).second (get_or entries i none).adjustment.first.x_advance) (get_or entries j d).second 0)
  unfolding this
  entry-done done j d within = elim (nat_cases j i) [
    | inl early ↦ advance-kept f line this.second this.adjustment.first.x_advance (get_or entries j d).second inside said (done j d early)
    | inr late ↦ (let same : i ≡ j = omega (arith, within, late) in
        subst (λ (e : Entry). f e.second ≡ advance (get_or (slice_set line this.second this.adjustment.first.x_advance) e.second 0))
        (any-default entries i none d less ∙ ap (λ k. get_or entries k d) same)
        (advance-new f line this.second this.adjustment.first.x_advance inside said))
  ]

  pub entry-right : (y : ℕ) → (get_or line y 0 ≡ 0) ⊎ (f y ≡ advance (get_or line y 0)) →
      (get_or (slice_set line (get_or entries i none).second (get_or entries i none).adjustment.first.x_advance) y 0 ≡ 0)
      ⊎ (f y ≡ advance (get_or (slice_set line (get_or entries i none).second (get_or entries i none).adjustment.first.x_advance) y 0))
  unfolding this
  entry-right y before = advance-set f line this.second this.adjustment.first.x_advance y inside said before

pub advances-are : (entries : List Entry) (width : ℕ) (line : List ℕ) → length line ≡ width →
    ((f : ℕ → Adjustment) → AreEntries f width entries → (j : ℕ) (d : Entry) → j < length entries → f (get_or entries j d).second ≡ advance (get_or line (get_or entries j d).second 0)) →
    ((f : ℕ → Adjustment) → AreEntries f width entries → (y : ℕ) → (get_or line y 0 ≡ 0) ⊎ (f y ≡ advance (get_or line y 0))) →
    AreAdvances entries width line
advances-are entries width line long done right = record {
  long = long;
  each = λ f are y less. elim (are.all y less) [
    | inl none ↦ elim (right f are y) [
      | inl is-zero ↦ is-nothing (f y) none ∙ ap advance (sym is-zero)
      | inr is ↦ is
    ]
    | inr there ↦ (let d = done f are there.0 (entry y (f y)) there.1 in
        subst (λ (e : Entry). f e.second ≡ advance (get_or line e.second 0)) there.2 d)
  ];
}

-- a subtable that has all pairs
module _ (f : (x y : ℕ) → Adjustment) (rows columns : Lines) (values firsts bytes : List ℕ) (rows-open : rows.is_open ≡ true) (columns-open : columns.is_open ≡ true)
    (are : AreRows f rows.width rows) (beyond : (x y : ℕ) → (rows.width ≤ x) ⊎ (rows.width ≤ y) → f x y ≡ nothing)
    (wide : columns.width ≡ length rows.keys.items) (are-columns : AreColumns rows rows.width columns)
    (are-values : AreValues columns columns.width values) (are-firsts : AreFirsts rows.classes.items (length rows.classes.items) firsts)
    (is : IsClassText (length rows.keys.items) (length columns.keys.items) values firsts rows.classes.items columns.classes.items bytes) where
  row-of : ℕ → ℕ
  row-of x = get_or rows.classes.items x 0

  column-of : ℕ → ℕ
  column-of y = get_or columns.classes.items y 0

  within : (x : ℕ) → Contains firsts x → x < rows.width
  within x there = (let many = are.many in let small = are-firsts.right there.0 there.1 in
      let same : get_or firsts there.0 0 ≡ x = (any-default firsts there.0 0 x there.1 ∙ there.2) in omega (arith, small, same, many))

  row-small : (x : ℕ) → Contains firsts x → row-of x < length rows.keys.items
  unfolding row-of
  row-small x there = are.small x (within x there)

  column-none : (y : ℕ) → rows.width ≤ y → column-of y ≡ 0
  unfolding column-of
  column-none y far = let many = are-columns.many in get_or_past columns.classes.items y 0 (omega (arith, many, far))

  column-small : (y : ℕ) → column-of y < length columns.keys.items
  unfolding column-of
  column-small y = elim (nat_cases y rows.width) [
    | inl less ↦ are-columns.small y less
    | inr far ↦ (let none = column-none y far in let some = columns.some in omega (arith, none, some))
  ]

  value-at : (x y : ℕ) → Contains firsts x → get_or values (row-of x * length columns.keys.items + column-of y) 0 ≡ cell columns.cells.items columns.width (column-of y) (row-of x)
  value-at x y there = are-values.each (row-of x) (column-of y) (let small = row-small x there in omega (arith, small, wide)) (column-small y)

  pair-at : (x y : ℕ) → Contains firsts x → f x y ≡ advance (get_or values (row-of x * length columns.keys.items + column-of y) 0)
  unfolding row-of column-of
  pair-at x y there = elim (nat_cases y rows.width) [
    | inl less ↦ are.same x y (within x there) less ∙ ap advance (sym (value-at x y there
        ∙ are-columns.same y (row-of x) less (let small = row-small x there in omega (arith, small, wide))))
    | inr far ↦ beyond x y (inr far) ∙ ap advance (sym (value-at x y there ∙ ap (λ c. cell columns.cells.items columns.width c (row-of x)) (column-none y far)
        ∙ ap (λ n. get_or columns.cells.items n 0) {x = 0 * columns.width + row-of x} {y = row-of x} (omega arith)
        ∙ columns.zeros (row-of x) (let small = row-small x there in omega (arith, small, wide))))
  ]

  none-at : (x y : ℕ) → (Contains firsts x → ⊥) → f x y ≡ nothing
  unfolding row-of
  none-at x y never = elim (nat_cases x rows.width) [
    | inr far ↦ beyond x y (inl far)
    | inl less ↦ elim (nat_cases y rows.width) [
      | inr far ↦ beyond x y (inr far)
      | inl inside ↦ (let many = are.many in elim (are-firsts.all x (omega (arith, less, many))) [
        | inr there ↦ absurd (never there)
        | inl is-zero ↦ are.same x y less inside ∙ ap advance (ap (λ c. cell rows.cells.items rows.width c y) is-zero
            ∙ ap (λ n. get_or rows.cells.items n 0) {x = 0 * rows.width + y} {y = y} (omega arith) ∙ rows.zeros y inside)
      ])
    ]
  ]

  pub has-classes : HasClasses f bytes
  unfolding row-of column-of
  has-classes = record {
    row_count = length rows.keys.items;
    column_count = length columns.keys.items;
    values = values;
    firsts = firsts;
    rows = rows.classes.items;
    columns = columns.classes.items;
    is = is;
    row = row-small;
    column = column-small;
    place = λ x y there. (let long = are-values.long in
        let inside = in-lines (row-of x) columns.width (length columns.keys.items) (column-of y) (let small = row-small x there in omega (arith, small, wide)) (column-small y) in
        omega (arith, inside, long));
    pair = pair-at;
    others = none-at;
  }

-- a text with equal parts
pub text-as : (row_count column_count m n : ℕ) (values firsts rows columns vs fs rs cs bytes : List ℕ) → row_count ≡ m → column_count ≡ n → values ≡ vs → firsts ≡ fs →
    rows ≡ rs → columns ≡ cs → IsClassText row_count column_count values firsts rows columns bytes → IsClassText m n vs fs rs cs bytes
text-as row_count column_count m n values firsts rows columns vs fs rs cs bytes a b v g r c is =
    subst (λ k. IsClassText k n vs fs rs cs bytes) a (subst (λ k. IsClassText row_count k vs fs rs cs bytes) b
    (subst (λ (xs : List ℕ). IsClassText row_count column_count xs fs rs cs bytes) v (subst (λ (xs : List ℕ). IsClassText row_count column_count values xs rs cs bytes) g
    (subst (λ (xs : List ℕ). IsClassText row_count column_count values firsts xs cs bytes) r
    (subst (λ (xs : List ℕ). IsClassText row_count column_count values firsts rows xs bytes) c is)))))

-- the row of one more first glyph
pub rows-more : (scope : Scope) (gpos kept : List ℕ) (lookup x : ℕ) (es : List Entry) (old new : Lines) → x < length kept →
    AreEntries (λ y. pair_by scope gpos lookup (get_or kept x 0) (get_or kept y 0)) (length kept) es → (new.is_open ≡ true → old.is_open ≡ true) →
    (new.is_open ≡ true → (g : ℕ → Adjustment) → AreEntries g old.width es → AddsFirst g old new) →
    AreRowsIfOpen (new_pair scope gpos kept lookup) (length kept) x old → AreRowsIfOpen (new_pair scope gpos kept lookup) (length kept) (x + 1) new
rows-more scope gpos kept lookup x es old new less entries opens added rows = λ is-open. (
    let f = new_pair scope gpos kept lookup in
    let was = opens is-open in
    let before = rows was in
    let right = entries-as (λ y. pair_by scope gpos lookup (get_or kept x 0) (get_or kept y 0)) (f x) (length kept) es
    (λ y within. pair-kept scope gpos kept lookup x y less within) entries in
    let adds = added is-open (f x) (subst (λ n. AreEntries (f x) n es) (sym before.0) right) in
    (adds.adds.width ∙ before.0, lines-more (λ x y number. f x y ≡ advance number) x adds.line old new was before.1 adds.adds adds.is))

-- subtables by classes have the pairs of kept glyphs
pub classed-pairs : (scope : Scope) (gpos kept : List ℕ) (lookup : ℕ) (rows : Lines) (bytes : List ℕ) →
    AreRowsIfOpen (new_pair scope gpos kept lookup) (length kept) (length kept) rows →
    (rows.is_open ≡ true) × ((f : (x y : ℕ) → Adjustment) → AreRows f rows.width rows → ((x y : ℕ) → (rows.width ≤ x) ⊎ (rows.width ≤ y) → f x y ≡ nothing) → HasClasses f bytes) →
    HasClasses (new_pair scope gpos kept lookup) bytes
classed-pairs scope gpos kept lookup rows bytes are has =
    let f = new_pair scope gpos kept lookup in
    let facts = are has.0 in
    has.1 f (subst (λ n. AreRows f n rows) (sym facts.0) facts.1) (λ x y far. (let wide = facts.0 in elim far [
      | inl far-x ↦ first-far scope gpos kept lookup x y (omega (arith, far-x, wide))
      | inr far-y ↦ pair-far scope gpos kept lookup x y (omega (arith, far-y, wide))
    ]))
