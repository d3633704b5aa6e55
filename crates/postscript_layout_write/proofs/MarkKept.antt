-- Subtables that attach marks attach the kept marks as before.
use Rattle.std.proofs.Common.{◌≡◌, refl, sym, ap, subst, ◌∙◌, inl, inr, ℕ, ◌+◌, ◌*◌, ◌≤◌, ◌<◌, ◌==◌, ◌&&◌, List, [], ◌∷◌, ◌++◌, length, get_or, arith, Bool, true, false}
use Rattle.std.specs.Prelude.{Option, None, Some, nat_lt, if◌then◌else◌}
use Rattle.std.proofs.lemmas.Bool.{le-ltb, lt-ltb}
use Rattle.postscript_layout.specs.Numbers.{word}
use Rattle.postscript_layout_write.specs.Attaching.{AreRows, HasAttaching, IsArray, HasLigatureArray, HasLigatureOf, HasSecondArray, are_bases, are_ligatures, at_class, attaching_head, attaching_text, base_in, base_row, classes_of, ligature_at, mark_row, no_marks, row_covered, row_of}
use Rattle.postscript_layout_write.specs.Holds.{Holds}
use Rattle.postscript_layout_write.specs.Ligatures.{ToComponent, ligature_covered, ligature_of, to_component}
use Rattle.postscript_layout_write.specs.Ligatures.{by_subtable as ligature_by}
use Rattle.postscript_layout_write.specs.Marks.{Attachment, Mark, anchor_at, anchor_covered, anchor_in, anchor_of, attached, by_subtable, mark_covered, mark_of, met}
use Rattle.postscript_layout_write.specs.Ranges.{coverage_index}
use Rattle.postscript_layout_write.specs.Text.{array_text, coverage_text, uint16}
use Rattle.postscript_layout_write.specs.declared.anchors.Anchor.{Anchor}
use Rattle.postscript_layout_write.specs.declared.anchors.Side.TheVariants.{Bases, Marks}
use Rattle.postscript_layout_write.proofs.Firsts.{nat_cases}
use Rattle.postscript_layout_write.proofs.Holding.{holds-array, holds-first, holds-second}
use Rattle.postscript_layout_write.proofs.MarkReading.{and-false, bases-read, coverage-read, ligatures-read, marks-read, row-none}
use Rattle.postscript_layout_write.proofs.Reading.{length-coverage}
use Rattle.postscript_layout_write.proofs.Rows.{cells-in, rows-as}

-- the marks and the bases of a glyph of the old table
mark_at : List ℕ → Option ℕ → (glyph : ℕ) → Option Mark
mark_at gpos None glyph = None
mark_at gpos (Some subtable) glyph = mark_of gpos subtable glyph

bases_covered : List ℕ → (array classes : ℕ) → Option ℕ → Option (ℕ → Option Anchor)
bases_covered gpos array classes None = None
bases_covered gpos array classes (Some i) = base_in gpos array classes i

bases_at : List ℕ → Option ℕ → (glyph : ℕ) → Option (ℕ → Option Anchor)
bases_at gpos None glyph = None
bases_at gpos (Some subtable) glyph =
    bases_covered gpos (subtable + word gpos (subtable + 10)) (word gpos (subtable + 6)) (coverage_index gpos (subtable + word gpos (subtable + 4)) glyph)

mark-index : (gpos : List ℕ) (array classes : ℕ) (index : Option ℕ) → row_covered gpos array classes Marks index ≡ mark_row (mark_covered gpos array index)
mark-index gpos array classes None = refl
mark-index gpos array classes (Some i) = refl

mark-rows : (gpos : List ℕ) (subtable : Option ℕ) (glyph : ℕ) → row_of gpos subtable Marks glyph ≡ mark_row (mark_at gpos subtable glyph)
unfolding mark_at
mark-rows gpos None glyph = refl
mark-rows gpos (Some s) glyph = mark-index gpos (s + word gpos (s + 8)) (word gpos (s + 6)) (coverage_index gpos (s + word gpos (s + 2)) glyph)

base-index : (gpos : List ℕ) (array classes : ℕ) (index : Option ℕ) → row_covered gpos array classes Bases index ≡ base_row (bases_covered gpos array classes index)
unfolding bases_covered
base-index gpos array classes None = refl
base-index gpos array classes (Some i) = refl

base-rows : (gpos : List ℕ) (subtable : Option ℕ) (glyph : ℕ) → row_of gpos subtable Bases glyph ≡ base_row (bases_at gpos subtable glyph)
unfolding bases_at
base-rows gpos None glyph = refl
base-rows gpos (Some s) glyph = base-index gpos (s + word gpos (s + 10)) (word gpos (s + 6)) (coverage_index gpos (s + word gpos (s + 4)) glyph)

-- the anchors of a base
covered-anchor : (gpos : List ℕ) (array classes : ℕ) (index : Option ℕ) (class : ℕ) →
    anchor_covered gpos array classes index class ≡ at_class (bases_covered gpos array classes index) class
unfolding bases_covered
covered-anchor gpos array classes None class = refl
covered-anchor gpos array classes (Some i) class = by (nat_lt i (word gpos array)) refl
  where
    by : (b : Bool) → nat_lt i (word gpos array) ≡ b →
        anchor_in gpos array classes i class ≡ at_class (if b then Some (λ (c : ℕ). anchor_in gpos array classes i c) else None) class
    by true e = refl
    by false e = (let o = word gpos (array + 2 + (i * classes + class) * 2) in
        ap (λ (b : Bool). if b && nat_lt class classes then (if o == 0 then None else Some (anchor_at gpos array o)) else None) e)

covered-past : (gpos : List ℕ) (array classes : ℕ) (index : Option ℕ) (class : ℕ) → classes ≤ class → anchor_covered gpos array classes index class ≡ None
covered-past gpos array classes None class far = refl
covered-past gpos array classes (Some k) class far = (let o = word gpos (array + 2 + (k * classes + class) * 2) in
    ap (λ (b : Bool). if nat_lt k (word gpos array) && b then (if o == 0 then None else Some (anchor_at gpos array o)) else None) (le-ltb class classes far)
    ∙ ap (λ (b : Bool). if b then (if o == 0 then None else Some (anchor_at gpos array o)) else None) (and-false (nat_lt k (word gpos array))))

bases-past : (gpos : List ℕ) (subtable : Option ℕ) (glyph class : ℕ) → classes_of gpos subtable ≤ class → at_class (bases_at gpos subtable glyph) class ≡ None
unfolding bases_at
bases-past gpos None glyph class far = refl
bases-past gpos (Some s) glyph class far = (let index = coverage_index gpos (s + word gpos (s + 4)) glyph in
    sym (covered-anchor gpos (s + word gpos (s + 10)) (word gpos (s + 6)) index class)
    ∙ covered-past gpos (s + word gpos (s + 10)) (word gpos (s + 6)) index class far)

attached-same : (m : Option Mark) (g h : ℕ → Option Anchor) → ((class : ℕ) → g class ≡ h class) → attached m g ≡ attached m h
attached-same None g h same = refl
attached-same (Some mark) g h same = ap (met mark.anchor) (same mark.class)

old-attached : (gpos : List ℕ) (subtable : Option ℕ) (mark base : ℕ) →
    attached (mark_at gpos subtable mark) (λ class. at_class (bases_at gpos subtable base) class) ≡ by_subtable gpos subtable mark base
unfolding mark_at bases_at
old-attached gpos None mark base = refl
old-attached gpos (Some s) mark base = attached-same (mark_of gpos s mark)
    (λ class. at_class (bases_covered gpos (s + word gpos (s + 10)) (word gpos (s + 6)) (coverage_index gpos (s + word gpos (s + 4)) base)) class)
    (λ class. anchor_of gpos s base class)
    (λ class. sym (covered-anchor gpos (s + word gpos (s + 10)) (word gpos (s + 6)) (coverage_index gpos (s + word gpos (s + 4)) base) class))

kept-if : (p q : Bool) (m : Option Mark) (g : Option (ℕ → Option Anchor)) →
    attached (if p then m else None) (λ class. at_class (if q then g else None) class) ≡ (if p && q then attached m (λ class. at_class g class) else None)
kept-if true true m g = refl
kept-if true false None g = refl
kept-if true false (Some mark) g = refl
kept-if false q m g = refl

length-attaching : (classes m b size : ℕ) → length (attaching_head classes m b size) ≡ 12
unfolding attaching_head array_text uint16
length-attaching classes m b size = refl

-- the ligatures of the old table, with the classes of its subtable
old-ligature : (gpos : List ℕ) (subtable : Option ℕ) (mark ligature component : ℕ) →
    to_component gpos (classes_of gpos subtable) (mark_at gpos subtable mark) (ligature_at gpos subtable ligature) component
    ≡ ligature_by gpos subtable mark ligature component
unfolding mark_at
old-ligature gpos None mark ligature component = refl
old-ligature gpos (Some s) mark ligature component = refl

no-component : (gpos : List ℕ) (classes : ℕ) (o : Option ℕ) (component : ℕ) → to_component gpos classes None o component ≡ None
no-component gpos classes None component = refl
no-component gpos classes (Some l) component = refl

component-if : (gpos : List ℕ) (classes component : ℕ) (p q : Bool) (m : Option Mark) (o : Option ℕ) →
    to_component gpos classes (if p then m else None) (if q then o else None) component ≡ (if p && q then to_component gpos classes m o component else None)
component-if gpos classes component true true m o = refl
component-if gpos classes component true false m o = refl
component-if gpos classes component false q m o = no-component gpos classes (if q then o else None) component

-- a subtable
module _ (type : ℕ) (gpos : List ℕ) (subtable : Option ℕ) (kept t : List ℕ) (s : ℕ) (has : HasAttaching type gpos subtable kept t s) where
  f : ℕ → Option Mark
  f x = if nat_lt x (length kept) then mark_at gpos subtable (get_or kept x 0) else None

  g : ℕ → Option (ℕ → Option Anchor)
  g y = if nat_lt y (length kept) then bases_at gpos subtable (get_or kept y 0) else None

  h : ℕ → Option ℕ
  h y = if nat_lt y (length kept) then ligature_at gpos subtable (get_or kept y 0) else None

  head-held : Holds (attaching_head (classes_of gpos subtable) (length has.marks) (length has.bases) (length has.first)) t s
  unfolding attaching_text
  head-held = holds-first _ _ has.there

  number : (k w : ℕ) → k < 6 → get_or (1 ∷ 12 ∷ (16 + length has.marks * 2) ∷ classes_of gpos subtable ∷ (20 + length has.marks * 2 + length has.bases * 2)
      ∷ (20 + length has.marks * 2 + length has.bases * 2 + length has.first) ∷ []) k 0 ≡ w → w < 65536 → word t (s + k * 2) ≡ w
  unfolding attaching_head
  number k w less is small = holds-array _ s k less (omega (arith, is, small)) head-held ∙ is

  rest : Holds (coverage_text has.marks ++ (coverage_text has.bases ++ (has.first ++ has.second))) t (s + 12)
  unfolding attaching_text
  rest = holds-second (attaching_head (classes_of gpos subtable) (length has.marks) (length has.bases) (length has.first)) _ 12
      (length-attaching (classes_of gpos subtable) (length has.marks) (length has.bases) (length has.first)) has.there

  rest2 : Holds (coverage_text has.bases ++ (has.first ++ has.second)) t (s + (16 + length has.marks * 2))
  rest2 = subst (Holds (coverage_text has.bases ++ (has.first ++ has.second)) t) (omega arith)
      (holds-second (coverage_text has.marks) _ (4 + length has.marks * 2) (length-coverage has.marks) rest)

  rest3 : Holds (has.first ++ has.second) t (s + (20 + length has.marks * 2 + length has.bases * 2))
  rest3 = subst (Holds (has.first ++ has.second) t) (omega arith)
      (holds-second (coverage_text has.bases) _ (4 + length has.bases * 2) (length-coverage has.bases) rest2)

  rest4 : Holds has.second t (s + (20 + length has.marks * 2 + length has.bases * 2 + length has.first))
  rest4 = subst (Holds has.second t) (omega arith) (holds-second has.first has.second (length has.first) refl rest3)

  pub format-read : word t s ≡ 1
  format-read = ap (word t) (omega arith) ∙ number 0 1 (omega arith) refl (omega arith)

  classes-read : word t (s + 6) ≡ classes_of gpos subtable
  classes-read = number 3 (classes_of gpos subtable) (omega arith) refl has.fits.small

  bases-place : word t (s + 4) ≡ 16 + length has.marks * 2
  bases-place = (let few = has.fits.few_marks in number 2 (16 + length has.marks * 2) (omega arith) refl (omega (arith, few)))

  second-place : word t (s + 10) ≡ 20 + length has.marks * 2 + length has.bases * 2 + length has.first
  second-place = number 5 (20 + length has.marks * 2 + length has.bases * 2 + length has.first) (omega arith) refl has.fits.size

  -- marks
  marks-are : AreRows 2 (λ x. mark_row (f x)) (length kept) has.marks has.first_has.cells
  unfolding f
  marks-are = rows-as 2 (λ x. row_of gpos subtable Marks (get_or kept x 0)) (λ x. mark_row (f x)) (length kept) has.marks has.first_has.cells
      (λ x less. mark-rows gpos subtable (get_or kept x 0)
      ∙ ap (λ (t : Bool). mark_row (if t then mark_at gpos subtable (get_or kept x 0) else None)) (sym (lt-ltb x (length kept) less))) has.first_has.are

  mark-read : (x : ℕ) → mark_of t s x ≡ f x
  unfolding f
  mark-read x =
      let fit = has.fits.size in
      let small = has.small in
      let c : word t (s + 2) ≡ 12 = number 1 12 (omega arith) refl (omega arith) in
      let a : word t (s + 8) ≡ 20 + length has.marks * 2 + length has.bases * 2 =
      number 4 (20 + length has.marks * 2 + length has.bases * 2) (omega arith) refl (omega (arith, fit)) in
      ap (λ k. mark_covered t (s + word t (s + 8)) (coverage_index t (s + k) x)) c
      ∙ ap (λ k. mark_covered t (s + k) (coverage_index t (s + 12) x)) a
      ∙ marks-read t (length kept) has.marks has.first_has.cells (s + 12) (s + (20 + length has.marks * 2 + length has.bases * 2)) f marks-are
      (λ x far. ap (λ (t : Bool). if t then mark_at gpos subtable (get_or kept x 0) else None) (le-ltb x (length kept) far))
      (λ x. coverage-read t (s + 12) has.marks x has.fits.few_marks (λ k less. (let low = has.first_has.are.fit k less in omega (arith, low, small)))
      (holds-first (coverage_text has.marks) _ rest))
      (cells-in 0 (length has.marks) has.first_has.cells t has.first (s + (20 + length has.marks * 2 + length has.bases * 2)) (holds-first has.first has.second rest3) has.first_has.has)
      x

  -- without marks, nothing is attached
  no-mark : has.marks ≡ [] → (x : ℕ) → f x ≡ None
  unfolding f
  no-mark empty x = elim (nat_cases x (length kept)) [
    | inl less ↦ elim (marks-are.all x less) [
      | inl is ↦ row-none (f x) is
      | inr there ↦ (let within = there.1 in let none = ap length empty in absurd (omega (arith, within, none)))
    ]
    | inr far ↦ ap (λ (t : Bool). if t then mark_at gpos subtable (get_or kept x 0) else None) (le-ltb x (length kept) far)
  ]

  -- bases
  module _ (bases : IsArray Bases gpos subtable kept has.bases has.second) where
    bases-are : AreRows (classes_of gpos subtable) (λ y. base_row (g y)) (length kept) has.bases bases.cells
    unfolding g
    bases-are = rows-as (classes_of gpos subtable) (λ y. row_of gpos subtable Bases (get_or kept y 0)) (λ y. base_row (g y)) (length kept) has.bases bases.cells
        (λ y less. base-rows gpos subtable (get_or kept y 0)
        ∙ ap (λ (t : Bool). base_row (if t then bases_at gpos subtable (get_or kept y 0) else None)) (sym (lt-ltb y (length kept) less))) bases.are

    g-past : (y class : ℕ) → classes_of gpos subtable ≤ class → at_class (g y) class ≡ None
    unfolding g
    g-past y class far = by (nat_lt y (length kept))
      where
        by : (b : Bool) → at_class (if b then bases_at gpos subtable (get_or kept y 0) else None) class ≡ None
        by true = bases-past gpos subtable (get_or kept y 0) class far
        by false = refl

    base-read : (y class : ℕ) → anchor_of t s y class ≡ at_class (g y) class
    unfolding g
    base-read y class =
        let small = has.small in
        let cover = s + (16 + length has.marks * 2) in
        let array = s + (20 + length has.marks * 2 + length has.bases * 2 + length has.first) in
        ap (λ k. anchor_covered t (s + word t (s + 10)) (word t (s + 6)) (coverage_index t (s + k) y) class) bases-place
        ∙ ap (λ k. anchor_covered t (s + k) (word t (s + 6)) (coverage_index t cover y) class) second-place
        ∙ ap (λ k. anchor_covered t array k (coverage_index t cover y) class) classes-read
        ∙ bases-read t (length kept) (classes_of gpos subtable) has.bases bases.cells cover array g bases-are
        (λ y far. ap (λ (t : Bool). if t then bases_at gpos subtable (get_or kept y 0) else None) (le-ltb y (length kept) far)) g-past
        (λ y. coverage-read t cover has.bases y has.fits.few_bases (λ k less. (let low = bases.are.fit k less in omega (arith, low, small)))
        (holds-first (coverage_text has.bases) _ rest2))
        (cells-in 0 (length has.bases) bases.cells t has.second array rest4 bases.has)
        y class

  -- ligatures
  module _ (ligatures : HasLigatureArray gpos subtable kept has.bases has.second) where
    h-there : (y : ℕ) → y < length kept → h y ≡ ligature_at gpos subtable (get_or kept y 0)
    unfolding h
    h-there y less = ap (λ (t : Bool). if t then ligature_at gpos subtable (get_or kept y 0) else None) (lt-ltb y (length kept) less)

    ligature-covered : (y : ℕ) (mark : Option Mark) (component : ℕ) →
        to_component t (word t (s + 6)) mark (ligature_of t s y) component ≡ to_component gpos (classes_of gpos subtable) mark (h y) component
    unfolding h
    ligature-covered y mark component =
        let small = has.small in
        let are = ligatures.are in
        let cover = s + (16 + length has.marks * 2) in
        let array = s + (20 + length has.marks * 2 + length has.bases * 2 + length has.first) in
        ap (λ k. to_component t (word t (s + 6)) mark (ligature_covered t (s + word t (s + 10)) (coverage_index t (s + k) y)) component) bases-place
        ∙ ap (λ k. to_component t (word t (s + 6)) mark (ligature_covered t (s + k) (coverage_index t cover y)) component) second-place
        ∙ ap (λ k. to_component t k mark (ligature_covered t array (coverage_index t cover y)) component) classes-read
        ∙ ligatures-read gpos t (length kept) (classes_of gpos subtable) has.bases ligatures.offsets ligatures.bytes cover array h are.same
        (λ k less. subst (λ (o : Option ℕ). HasLigatureOf gpos o (classes_of gpos subtable) ligatures.bytes (get_or ligatures.offsets k 0))
        (sym (h-there (get_or has.bases k 0) (are.fit k less))) (are.each k less))
        (λ x less. elim (are.all x less) [
          | inl none ↦ inl (h-there x less ∙ none)
          | inr there ↦ inr there
        ])
        (λ y far. ap (λ (t : Bool). if t then ligature_at gpos subtable (get_or kept y 0) else None) (le-ltb y (length kept) far))
        (λ y. coverage-read t cover has.bases y has.fits.few_bases (λ k less. (let low = are.fit k less in omega (arith, low, small)))
        (holds-first (coverage_text has.bases) _ rest2))
        ligatures.is.few ligatures.is.fit (subst (λ (xs : List ℕ). Holds xs t array) ligatures.is.is rest4)
        y mark component

  -- attachments to bases
  new-attached : (type ≡ 5 → ⊥) → (x y : ℕ) → by_subtable t (Some s) x y ≡ attached (f x) (λ class. at_class (g y) class)
  new-attached not x y = by has.second_has
    where
      by : HasSecondArray type gpos subtable kept has.marks has.bases has.second → by_subtable t (Some s) x y ≡ attached (f x) (λ class. at_class (g y) class)
      by (no_marks empty) = ap (λ (o : Option Mark). attached o (λ class. anchor_of t s y class)) (mark-read x ∙ no-mark empty x)
          ∙ sym (ap (λ (o : Option Mark). attached o (λ class. at_class (g y) class)) (no-mark empty x))
      by (are_bases other bases) = ap (λ (o : Option Mark). attached o (λ class. anchor_of t s y class)) (mark-read x)
          ∙ attached-same (f x) (λ class. anchor_of t s y class) (λ class. at_class (g y) class) (base-read bases y)
      by (are_ligatures is ligatures) = absurd (not is)

  pub subtable-attached : (type ≡ 5 → ⊥) → (x y : ℕ) → by_subtable t (Some s) x y
      ≡ (if nat_lt x (length kept) && nat_lt y (length kept) then by_subtable gpos subtable (get_or kept x 0) (get_or kept y 0) else None)
  unfolding f g
  subtable-attached not x y = new-attached not x y
      ∙ kept-if (nat_lt x (length kept)) (nat_lt y (length kept)) (mark_at gpos subtable (get_or kept x 0)) (bases_at gpos subtable (get_or kept y 0))
      ∙ ap (λ (a : Option Attachment). if nat_lt x (length kept) && nat_lt y (length kept) then a else None) (old-attached gpos subtable (get_or kept x 0) (get_or kept y 0))

  -- attachments to components
  new-component : type ≡ 5 → (x y component : ℕ) →
      ligature_by t (Some s) x y component ≡ to_component gpos (classes_of gpos subtable) (f x) (h y) component
  new-component five x y component = by has.second_has
    where
      by : HasSecondArray type gpos subtable kept has.marks has.bases has.second →
          ligature_by t (Some s) x y component ≡ to_component gpos (classes_of gpos subtable) (f x) (h y) component
      by (no_marks empty) = ap (λ (o : Option Mark). to_component t (word t (s + 6)) o (ligature_of t s y) component) (mark-read x ∙ no-mark empty x)
          ∙ no-component t (word t (s + 6)) (ligature_of t s y) component
          ∙ sym (ap (λ (o : Option Mark). to_component gpos (classes_of gpos subtable) o (h y) component) (no-mark empty x)
          ∙ no-component gpos (classes_of gpos subtable) (h y) component)
      by (are_bases other bases) = absurd (other five)
      by (are_ligatures is ligatures) = ap (λ (o : Option Mark). to_component t (word t (s + 6)) o (ligature_of t s y) component) (mark-read x)
          ∙ ligature-covered ligatures y (f x) component

  pub subtable-component : type ≡ 5 → (x y component : ℕ) → ligature_by t (Some s) x y component
      ≡ (if nat_lt x (length kept) && nat_lt y (length kept) then ligature_by gpos subtable (get_or kept x 0) (get_or kept y 0) component else None)
  unfolding f h
  subtable-component five x y component = new-component five x y component
      ∙ component-if gpos (classes_of gpos subtable) component (nat_lt x (length kept)) (nat_lt y (length kept)) (mark_at gpos subtable (get_or kept x 0))
      (ligature_at gpos subtable (get_or kept y 0))
      ∙ ap (λ (a : Option ToComponent). if nat_lt x (length kept) && nat_lt y (length kept) then a else None)
      (old-ligature gpos subtable (get_or kept x 0) (get_or kept y 0) component)
