-- Subtables that were written are read as their pairs.
use Rattle.std.proofs.Common.{◌≡◌, refl, sym, ap, subst, ◌∙◌, ℕ, zero, suc, ◌+◌, ◌*◌, ◌≤◌, ◌<◌, ◌==◌, ◌&&◌, List, [], ◌∷◌, ◌++◌, length, length-append, get_or, arith, Bool, true, false}
use Rattle.std.specs.Prelude.{Option, None, Some, map, nat_eq, nat_lt, if◌then◌else◌}
use Rattle.std.specs.List.{Contains}
use Rattle.std.proofs.lemmas.Bool.{eq-eqb, eqb-true, lt-ltb}
use Rattle.std.proofs.lemmas.List.{get_or-map, length-map}
use Rattle.postscript_layout.specs.Numbers.{word}
use Rattle.postscript_layout_write.specs.Entries.{entry, form_by, form_of}
use Rattle.postscript_layout_write.specs.First.{first_some}
use Rattle.postscript_layout_write.specs.Holds.{Holds}
use Rattle.postscript_layout_write.specs.Pairs.{adjustment_by, adjustment_of, by_subtable, class_pair, index_of, listed_pair, record_of, sizes_of}
use Rattle.postscript_layout_write.specs.Ranges.{class_of, coverage_index, index_in, range_of}
use Rattle.postscript_layout_write.specs.Sets.{AreOffsets, HasSet, HasSubtable}
use Rattle.postscript_layout_write.specs.Text.{AdjustmentFits, ValuesFit, adjustment_text, array_text, coverage_text, entries_text, entry_text, format1, format2, formats_text, head_text, no_entry, offsets_text, or_zero, set_text, subtable_text, uint16, values_text}
use Rattle.postscript_layout_write.specs.Values.{adjustment_at, nothing, size_of, values_at, values_below, zero_values}
use Rattle.postscript_layout_write.specs.declared.entries.Entry.{Entry}
use Rattle.postscript_layout_write.specs.declared.entries.Form.{Form}
use Rattle.postscript_layout_write.specs.declared.entries.Form.TheVariants.{Advance, First, Both}
use Rattle.postscript_layout_write.specs.declared.values.Adjustment.{Adjustment}
use Rattle.postscript_layout_write.specs.declared.values.Values.{Values}
use Rattle.postscript_layout_write.proofs.Firsts.{Found, first-cases, none_found, some_found}
use Rattle.postscript_layout_write.proofs.Holding.{holds-array, holds-first, holds-in, holds-second, holds-word, length-array, length-uint16}

-- an element does not depend on the default
pub any-default : {X : Type 0} (xs : List X) (k : ℕ) (d e : X) → k < length xs → get_or xs k d ≡ get_or xs k e
any-default [] k d e less = absurd (omega (arith, less))
any-default (x ∷ xs) zero d e less = refl
any-default (x ∷ xs) (suc k) d e less = any-default xs k d e (omega (arith, less))

-- a search for the first key
pub data Searched {X : Type 0} (keys : List ℕ) (key : ℕ) (g : ℕ → X) : Option X → Type 0 where
  missing : ((k : ℕ) → k < length keys → get_or keys k 0 ≡ key → ⊥) → Searched keys key g None
  present : (k : ℕ) → k < length keys → get_or keys k 0 ≡ key → Searched keys key g (Some (g k))

pub same-there : {X : Type 0} (a b : ℕ) (x : X) → a ≡ b → (if a == b then Some x else None) ≡ Some x
same-there a b x same = ap (λ (t : Bool). if t then Some x else None) (eq-eqb a b same)

pub there-same : {X : Type 0} (a b : ℕ) (x y : X) → (if a == b then Some x else None) ≡ Some y → (a ≡ b) × (x ≡ y)
there-same a b x y is = by (nat_eq a b) refl is
  where
    by : (t : Bool) → nat_eq a b ≡ t → (if t then Some x else None) ≡ Some y → (a ≡ b) × (x ≡ y)
    by true e same = (eqb-true a b e, cc)
    by false e same = absurd (cc)

pub searched : {X : Type 0} (w : ℕ → ℕ) (keys : List ℕ) (key : ℕ) (g : ℕ → X) (n : ℕ) → n ≡ length keys →
    ((k : ℕ) → k < length keys → w k ≡ get_or keys k 0) →
    Searched keys key g (first_some (λ i. if w i == key then Some (g i) else None) n)
searched {X = X} w keys key g n many each = by (first_some (λ i. if w i == key then Some (g i) else None) n)
    (first-cases (λ i. if w i == key then Some (g i) else None) n)
  where
    by : (x : Option X) → Found (λ i. if w i == key then Some (g i) else None) n x → Searched keys key g x
    by _ (none_found none) = missing (λ k less is. (let never = none k (omega (arith, less, many)) in
        let there = same-there (w k) key (g k) (each k less ∙ is) in absurd (cc)))
    by _ (some_found i x less is) = (let same = there-same (w i) key (g i) x is in
        let within : i < length keys = omega (arith, less, many) in
        subst (λ y. Searched keys key g (Some y)) same.1 (present i within (sym (each i within) ∙ same.0)))

-- forms
advance-cases : (p q r s : Bool) → (if (p && q) && r then (if s then None else Some Advance) else Some First) ≡ Some Advance →
    (p ≡ true) × (q ≡ true) × (r ≡ true)
advance-cases true true true s is = (refl, refl, refl)
advance-cases true true false s is = absurd (cc)
advance-cases true false r s is = absurd (cc)
advance-cases false q r s is = absurd (cc)

nothing-cases : (p q r s : Bool) → (if (p && q) && r then (if s then None else Some Advance) else Some First) ≡ None →
    (p ≡ true) × (q ≡ true) × (r ≡ true) × (s ≡ true)
nothing-cases true true true true is = (refl, refl, refl, refl)
nothing-cases true true true false is = absurd (cc)
nothing-cases true true false s is = absurd (cc)
nothing-cases true false r s is = absurd (cc)
nothing-cases false q r s is = absurd (cc)

never-both : (p q r s : Bool) → (if (p && q) && r then (if s then None else Some Advance) else Some First) ≡ Some Both → ⊥
never-both true true true true is = absurd (cc)
never-both true true true false is = absurd (cc)
never-both true true false s is = absurd (cc)
never-both true false r s is = absurd (cc)
never-both false q r s is = absurd (cc)

-- records with the same fields
values-of : (x y w h : ℕ) → Values
values-of x y w h = record { x_placement = x; y_placement = y; x_advance = w; y_advance = h }

pub same-values : (a b : Values) → a.x_placement ≡ b.x_placement → a.y_placement ≡ b.y_placement → a.x_advance ≡ b.x_advance → a.y_advance ≡ b.y_advance → a ≡ b
unfolding values-of
same-values a b p q r s =
    ap (λ n. values-of n a.y_placement a.x_advance a.y_advance) p ∙ ap (λ n. values-of b.x_placement n a.x_advance a.y_advance) q
    ∙ ap (λ n. values-of b.x_placement b.y_placement n a.y_advance) r ∙ ap (λ n. values-of b.x_placement b.y_placement b.x_advance n) s

both-of : (v : Values) (second : Option Values) → Adjustment
both-of v second = record { first = v; second = second }

pub same-adjustment : (a b : Adjustment) → a.first ≡ b.first → a.second ≡ b.second → a ≡ b
unfolding both-of
same-adjustment a b p q = ap (λ v. both-of v a.second) p ∙ ap (λ v. both-of b.first v) q

-- an adjustment without a form is nothing
pub is-nothing : (a : Adjustment) → form_of a ≡ None → a ≡ nothing
is-nothing a none = by a.first a.second none
  where
    by : (v : Values) (second : Option Values) → form_by v second ≡ None → record { first = v; second = second } ≡ nothing
    by v (Some other) is = absurd (cc)
    by v None is =
        let c = nothing-cases (nat_eq v.x_placement 0) (nat_eq v.y_placement 0) (nat_eq v.y_advance 0) (nat_eq v.x_advance 0) is in
        same-adjustment (record { first = v; second = None }) nothing
        (same-values v zero_values (eqb-true v.x_placement 0 c.0) (eqb-true v.y_placement 0 c.1) (eqb-true v.x_advance 0 c.3) (eqb-true v.y_advance 0 c.2))
        refl

pub advance-is : (v : Values) (second : Option Values) → form_by v second ≡ Some Advance →
    (second ≡ None) × (v.x_placement ≡ 0) × (v.y_placement ≡ 0) × (v.y_advance ≡ 0)
advance-is v (Some other) is = absurd (cc)
advance-is v None is =
    let c = advance-cases (nat_eq v.x_placement 0) (nat_eq v.y_placement 0) (nat_eq v.y_advance 0) (nat_eq v.x_advance 0) is in
    (refl, eqb-true v.x_placement 0 c.0, eqb-true v.y_placement 0 c.1, eqb-true v.y_advance 0 c.2)

first-is : (v : Values) (second : Option Values) → form_by v second ≡ Some First → second ≡ None
first-is v (Some other) is = absurd (cc)
first-is v None is = refl

both-is : (v : Values) (second : Option Values) → form_by v second ≡ Some Both → second ≡ Some (or_zero second)
both-is v (Some other) is = refl
both-is v None is = absurd (never-both (nat_eq v.x_placement 0) (nat_eq v.y_placement 0) (nat_eq v.y_advance 0) (nat_eq v.x_advance 0) is)

-- value records
length-values : (v : Values) → length (values_text v) ≡ 8
unfolding values_text uint16
length-values v = refl

all-values : (t : List ℕ) (at : ℕ) → values_at t at 15 ≡ values-of (word t (at + 0)) (word t (at + 2)) (word t (at + 4)) (word t (at + 6))
unfolding values_below values-of
all-values t at = refl

one-value : (t : List ℕ) (at : ℕ) → values_at t at 4 ≡ values-of 0 0 (word t (at + 0)) 0
unfolding values_below values-of
one-value t at = refl

pub one-advance : (t : List ℕ) (at : ℕ) → values_at t at 4 ≡ record { x_placement = 0; y_placement = 0; x_advance = word t (at + 0); y_advance = 0 }
unfolding values-of
one-advance t at = one-value t at

pub size-15 : size_of 15 ≡ 8
unfolding values_below
size-15 = refl

-- a record with all four values
pub four-values : (t : List ℕ) (at : ℕ) (v : Values) → word t (at + 0) ≡ v.x_placement → word t (at + 2) ≡ v.y_placement → word t (at + 4) ≡ v.x_advance →
    word t (at + 6) ≡ v.y_advance → values_at t at 15 ≡ v
unfolding values-of
four-values t at v x y w h = all-values t at ∙ same-values _ v x y w h

values-read : (t : List ℕ) (at : ℕ) (v : Values) → ValuesFit v → Holds (values_text v) t at → values_at t at 15 ≡ v
unfolding values_text
values-read t at v fit h =
    let x = holds-word v.x_placement fit.x_placement (holds-first (uint16 v.x_placement) _ h) in
    let h2 = holds-second (uint16 v.x_placement) _ 2 (length-uint16 v.x_placement) h in
    let y = holds-word v.y_placement fit.y_placement (holds-first (uint16 v.y_placement) _ h2) in
    let h3 = holds-second (uint16 v.y_placement) _ 2 (length-uint16 v.y_placement) h2 in
    let w = holds-word v.x_advance fit.x_advance (holds-first (uint16 v.x_advance) _ h3) in
    let h4 = holds-second (uint16 v.x_advance) _ 2 (length-uint16 v.x_advance) h3 in
    let z = holds-word v.y_advance fit.y_advance h4 in
    four-values t at v (ap (word t) (omega arith) ∙ x) y (ap (word t) (omega arith) ∙ w) (ap (word t) (omega arith) ∙ z)

pub adjustment-read : (t : List ℕ) (at : ℕ) (form : Form) (a : Adjustment) → form_of a ≡ Some form → AdjustmentFits form a →
    Holds (adjustment_text form a) t at → adjustment_at t at (format1 form) (format2 form) ≡ a
unfolding adjustment_text values-of
adjustment-read t at Advance a is fit h =
    let c = advance-is a.first a.second is in
    let w = holds-word a.first.x_advance fit h in
    same-adjustment _ a (one-value t at ∙ same-values _ a.first (sym c.1) (sym c.2) (ap (word t) (omega arith) ∙ w) (sym c.3)) (sym c.0)
adjustment-read t at First a is fit h =
    same-adjustment _ a (values-read t at a.first fit h) (sym (first-is a.first a.second is))
adjustment-read t at Both a is fit h =
    let first = values-read t at a.first fit.0 (holds-first (values_text a.first) _ h) in
    let second = values-read t (at + 8) (or_zero a.second) fit.1 (holds-second (values_text a.first) _ 8 (length-values a.first) h) in
    same-adjustment _ a first (ap (λ n. Some (values_at t (at + n) 15)) size-15 ∙ ap (λ (v : Values). Some v) second ∙ sym (both-is a.first a.second is))

-- entries
pub form_size : Form → ℕ
form_size Advance = 2
form_size First = 8
form_size Both = 16

form-sizes : (form : Form) → size_of (format1 form) + size_of (format2 form) ≡ form_size form
unfolding values_below form_size
form-sizes Advance = refl
form-sizes First = refl
form-sizes Both = refl

length-adjustment : (form : Form) (a : Adjustment) → length (adjustment_text form a) ≡ form_size form
unfolding adjustment_text values_text uint16 form_size
length-adjustment Advance a = refl
length-adjustment First a = refl
length-adjustment Both a = refl

length-entry : (form : Form) (e : Entry) → length (entry_text form e) ≡ 2 + form_size form
unfolding entry_text
length-entry form e = let l = length-append (uint16 e.second) (adjustment_text form e.adjustment) in
    let m = length-adjustment form e.adjustment in omega (arith, l, m, length-uint16 e.second)

entry-held : (t : List ℕ) (form : Form) (es : List Entry) (at r : ℕ) → r < length es → Holds (entries_text form es) t at →
    Holds (entry_text form (get_or es r no_entry)) t (at + r * (2 + form_size form))
unfolding entries_text
entry-held t form [] at r less h = absurd (omega (arith, less))
entry-held t form (e ∷ es) at zero less h = subst (Holds (entry_text form e) t) (omega arith) (holds-first (entry_text form e) (entries_text form es) h)
entry-held t form (e ∷ es) at (suc r) less h =
    subst (Holds (entry_text form (get_or es r no_entry)) t) (omega arith)
    (entry-held t form es (at + (2 + form_size form)) r (omega (arith, less))
    (holds-second (entry_text form e) (entries_text form es) (2 + form_size form) (length-entry form e) h))

seconds : List Entry → List ℕ
seconds es = map (λ e. e.second) es

length-seconds : (es : List Entry) → length (seconds es) ≡ length es
unfolding seconds
length-seconds es = length-map es (λ e. e.second)

second-at : (es : List Entry) (r : ℕ) → r < length es → get_or (seconds es) r 0 ≡ (get_or es r no_entry).second
unfolding seconds
second-at es r less = get_or-map (λ e. e.second) es r no_entry 0 less

-- what is found for a second glyph in a set
pub data PairRead (t : List ℕ) (form : Form) (a : Adjustment) : Option ℕ → Type 0 where
  no_pair : (form_of a ≡ Some form → ⊥) → PairRead t form a None
  a_pair : (at : ℕ) → adjustment_at t at (format1 form) (format2 form) ≡ a → PairRead t form a (Some at)

module _ (t : List ℕ) (form : Form) (g : ℕ → Adjustment) (set : ℕ) (has : HasSet form g t set) where
  es : List Entry
  es = has.entries

  held : (r : ℕ) → r < length es → Holds (entry_text form (get_or es r no_entry)) t (set + 2 + r * (2 + form_size form))
  unfolding es set_text
  held r less = entry-held t form es (set + 2) r less (holds-second (uint16 (length es)) (entries_text form es) 2 (length-uint16 (length es)) has.there)

  set-searched : (y : ℕ) → Searched (seconds es) y (λ r. set + 2 + r * (2 + form_size form) + 2) (listed_pair t set (2 + form_size form) y)
  unfolding es set_text entry_text
  set-searched y = searched (λ r. word t (set + 2 + r * (2 + form_size form))) (seconds es) y (λ r. set + 2 + r * (2 + form_size form) + 2) (word t set)
      (holds-word (length es) has.few (holds-first (uint16 (length es)) (entries_text form es) has.there) ∙ sym (length-seconds es))
      (λ r less. (let within : r < length es = omega (arith, less, length-seconds es) in
      let e = get_or es r no_entry in
      let fits = has.fit r no_entry within in
      holds-word e.second fits.glyph (holds-first (uint16 e.second) (adjustment_text form e.adjustment) (held r within)) ∙ sym (second-at es r within)))

  pub pair-read : (y : ℕ) → PairRead t form (g y) (listed_pair t set (2 + form_size form) y)
  unfolding es entry_text
  pair-read y = by (listed_pair t set (2 + form_size form) y) (set-searched y)
    where
      by : (found : Option ℕ) → Searched (seconds es) y (λ r. set + 2 + r * (2 + form_size form) + 2) found → PairRead t form (g y) found
      by _ (missing none) = no_pair (λ is. (let there = has.all y is in
          let r = there.0 in
          let same = any-default es r (entry y (g y)) no_entry there.1 in
          none r (omega (arith, length-seconds es, there.1)) (second-at es r there.1 ∙ ap (λ (e : Entry). e.second) (sym same ∙ there.2))))
      by _ (present r less is) = (let within : r < length es = omega (arith, less, length-seconds es) in
          let e = get_or es r no_entry in
          let right = has.right r no_entry within in
          let fits = has.fit r no_entry within in
          let read = adjustment-read t (set + 2 + r * (2 + form_size form) + 2) form e.adjustment right.0 fits.adjustment
          (holds-second (uint16 e.second) (adjustment_text form e.adjustment) 2 (length-uint16 e.second) (held r within)) in
          a_pair _ (read ∙ right.1 ∙ ap g (sym (second-at es r within) ∙ is)))

-- what a subtable with some first glyphs says of a pair
pub data SubtableRead (form : Form) (firsts : List ℕ) (x : ℕ) (a : Adjustment) : Option Adjustment → Type 0 where
  not_there : (form_of a ≡ Some form → Contains firsts x → ⊥) → SubtableRead form firsts x a None
  there : SubtableRead form firsts x a (Some a)

-- the numbers of a subtable
pub record IsRead (t : List ℕ) (s : ℕ) (form : Form) (firsts offsets sets : List ℕ) : Type 0 where
  pub format : word t s ≡ 1
  pub coverage : word t (s + 2) ≡ 10 + length firsts * 2
  pub first : word t (s + 4) ≡ format1 form
  pub second : word t (s + 6) ≡ format2 form
  pub count : word t (s + 8) ≡ length firsts
  pub set : (k : ℕ) → k < length firsts → word t (s + 10 + k * 2) ≡ 14 + length firsts * 4 + get_or offsets k 0
  pub list : word t (s + (10 + length firsts * 2)) ≡ 1
  pub many : word t (s + (10 + length firsts * 2) + 2) ≡ length firsts
  pub glyph : (k : ℕ) → k < length firsts → word t (s + (10 + length firsts * 2) + 4 + k * 2) ≡ get_or firsts k 0
  pub behind : Holds sets t (s + (14 + length firsts * 4))

format1-small : (form : Form) → format1 form < 65536
format1-small Advance = omega arith
format1-small First = omega arith
format1-small Both = omega arith

format2-small : (form : Form) → format2 form < 65536
format2-small Advance = omega arith
format2-small First = omega arith
format2-small Both = omega arith

length-formats : (form : Form) → length (formats_text form) ≡ 4
unfolding formats_text uint16
length-formats form = refl

pub length-head : (form : Form) (count : ℕ) → length (head_text form count) ≡ 10
unfolding head_text formats_text uint16
length-head form count = refl

head-read : (t : List ℕ) (s : ℕ) (form : Form) (m : ℕ) → m ≤ 16380 → Holds (head_text form m) t s →
    (word t s ≡ 1) × (word t (s + 2) ≡ 10 + m * 2) × (word t (s + 4) ≡ format1 form) × (word t (s + 6) ≡ format2 form) × (word t (s + 8) ≡ m)
unfolding head_text formats_text
head-read t s form m few h =
    let h2 = holds-second (uint16 1) _ 2 (length-uint16 1) h in
    let h4 = holds-second (uint16 (10 + m * 2)) _ 2 (length-uint16 (10 + m * 2)) h2 in
    let f = holds-first (formats_text form) (uint16 m) h4 in
    let f2 = holds-second (uint16 (format1 form)) _ 2 (length-uint16 (format1 form)) f in
    let h8 = holds-second (formats_text form) (uint16 m) 4 (length-formats form) h4 in (
      holds-word 1 (omega arith) (holds-first (uint16 1) _ h),
      holds-word (10 + m * 2) (omega (arith, few)) (holds-first (uint16 (10 + m * 2)) _ h2),
      ap (word t) (omega arith) ∙ holds-word (format1 form) (format1-small form) (holds-first (uint16 (format1 form)) _ f),
      ap (word t) (omega arith) ∙ holds-word (format2 form) (format2-small form) f2,
      ap (word t) (omega arith) ∙ holds-word m (omega (arith, few)) h8,
    )

pub length-coverage : (glyphs : List ℕ) → length (coverage_text glyphs) ≡ 4 + length glyphs * 2
unfolding coverage_text
length-coverage glyphs =
    let a = length-append (uint16 1) (uint16 (length glyphs) ++ array_text glyphs) in
    let b = length-append (uint16 (length glyphs)) (array_text glyphs) in
    let c = length-array glyphs in
    omega (arith, a, b, c, length-uint16 1, length-uint16 (length glyphs))

pub length-offsets : (base : ℕ) (offsets : List ℕ) → length (offsets_text base offsets) ≡ length offsets * 2
length-offsets base offsets = length-array (map (λ offset. base + offset) offsets) ∙ ap (λ n. n * 2) (length-map offsets (λ offset. base + offset))

pub offsets-read : (t : List ℕ) (at base : ℕ) (offsets : List ℕ) (k : ℕ) → k < length offsets → AreOffsets base offsets →
    Holds (offsets_text base offsets) t at → word t (at + k * 2) ≡ base + get_or offsets k 0
offsets-read t at base offsets k less fit h =
    let is = get_or-map (λ offset. base + offset) offsets k 0 0 less in
    let small = fit k less in
    let within : k < length (map (λ offset. base + offset) offsets) = (let m = length-map offsets (λ offset. base + offset) in omega (arith, m, less)) in
    holds-array (map (λ offset. base + offset) offsets) at k within (omega (arith, is, small)) h ∙ is

pub subtable-numbers : (t : List ℕ) (s : ℕ) (form : Form) (firsts offsets sets : List ℕ) → length offsets ≡ length firsts → length firsts ≤ 16380 →
    ((k : ℕ) → k < length firsts → get_or firsts k 0 < 65536) →
    AreOffsets (14 + length firsts * 4) offsets → Holds (subtable_text form firsts offsets sets) t s → IsRead t s form firsts offsets sets
unfolding subtable_text coverage_text
subtable-numbers t s form firsts offsets sets same few glyphs fit h =
    let m = length firsts in
    let head = head-read t s form m few (holds-first (head_text form m) _ h) in
    let h10 = holds-second (head_text form m) _ 10 (length-head form m) h in
    let base = 14 + m * 4 in
    let offs = holds-first (offsets_text base offsets) _ h10 in
    let long = length-offsets base offsets in
    let rest = holds-second (offsets_text base offsets) (coverage_text firsts ++ sets) (m * 2) (omega (arith, long, same)) h10 in
    let cover = holds-first (coverage_text firsts) sets rest in
    let cover2 = holds-second (uint16 1) _ 2 (length-uint16 1) cover in
    let cover4 = holds-second (uint16 m) _ 2 (length-uint16 m) cover2 in
    record {
      format = head.0;
      coverage = head.1;
      first = head.2;
      second = head.3;
      count = head.4;
      set = λ k less. offsets-read t (s + 10) base offsets k (omega (arith, same, less)) fit offs;
      list = ap (word t) (omega arith) ∙ holds-word 1 (omega arith) (holds-first (uint16 1) _ cover);
      many = ap (word t) (omega arith) ∙ holds-word m (omega (arith, few)) (holds-first (uint16 m) _ cover2);
      glyph = λ k less. ap (word t) (omega arith) ∙ holds-array firsts (s + 10 + m * 2 + 2 + 2) k less (glyphs k less) cover4;
      behind = subst (Holds sets t) (omega arith) (holds-second (coverage_text firsts) sets (4 + m * 2) (length-coverage firsts) rest);
    }

-- a pair in a subtable
module _ (t : List ℕ) (s : ℕ) (form : Form) (f : (x y : ℕ) → Adjustment) (firsts : List ℕ) (has : HasSubtable form f firsts t s) where
  read : IsRead t s form firsts has.offsets has.sets
  read = subtable-numbers t s form firsts has.offsets has.sets has.are.same has.few has.are.fit has.fit has.there

  index-read : (x : ℕ) → Searched firsts x (λ i. i) (index_of t s x)
  index-read x =
      let c = s + (10 + length firsts * 2) in
      let is : index_of t s x ≡ first_some (λ i. if word t (c + 4 + i * 2) == x then Some i else None) (word t (c + 2)) =
      ap (λ n. coverage_index t (s + n) x) read.coverage
      ∙ ap (λ (b : Bool). if b then first_some (λ i. if word t (c + 4 + i * 2) == x then Some i else None) (word t (c + 2))
      else (if word t c == 2 then index_in t x (range_of t c x) else None)) (eq-eqb (word t c) 1 read.list) in
      subst (Searched firsts x (λ i. i)) (sym is) (searched (λ i. word t (c + 4 + i * 2)) firsts x (λ i. i) (word t (c + 2)) read.many read.glyph)

  sizes-read : 2 + sizes_of t s ≡ 2 + form_size form
  sizes-read = ap (λ n. 2 + (size_of n + size_of (word t (s + 6)))) read.first ∙ ap (λ n. 2 + (size_of (format1 form) + size_of n)) read.second
      ∙ ap (λ n. 2 + n) (form-sizes form)

  record-read : (k y : ℕ) → k < length firsts →
      record_of t s k (get_or firsts k 0) y ≡ listed_pair t (s + (14 + length firsts * 4) + get_or has.offsets k 0) (2 + form_size form) y
  record-read k y less =
      let here = s + word t (s + 10 + k * 2) in
      let place : here ≡ s + (14 + length firsts * 4) + get_or has.offsets k 0 = (let set = read.set k less in omega (arith, set)) in
      let within : nat_lt k (word t (s + 8)) ≡ true = lt-ltb k (word t (s + 8)) (let count = read.count in omega (arith, count, less)) in
      ap (λ (b : Bool). if b then (if nat_lt k (word t (s + 8)) then listed_pair t here (2 + sizes_of t s) y else None)
      else (if word t s == 2 then class_pair t s (sizes_of t s)
      (class_of t (s + word t (s + 8)) (get_or firsts k 0)) (class_of t (s + word t (s + 10)) y) else None)) (eq-eqb (word t s) 1 read.format)
      ∙ ap (λ (b : Bool). if b then listed_pair t here (2 + sizes_of t s) y else None) within
      ∙ ap (λ n. listed_pair t n (2 + sizes_of t s) y) place
      ∙ ap (λ n. listed_pair t (s + (14 + length firsts * 4) + get_or has.offsets k 0) n y) sizes-read

  set-held : (k : ℕ) → k < length firsts → HasSet form (f (get_or firsts k 0)) t (s + (14 + length firsts * 4) + get_or has.offsets k 0)
  set-held k less = (let set = has.are.each k less in record {
    entries = set.entries;
    right = set.right;
    all = set.all;
    fit = set.fit;
    few = set.few;
    there = holds-in read.behind set.there;
  })

  by-records : (found : Option ℕ) (x : ℕ) (a : Adjustment) → PairRead t form a found → SubtableRead form firsts x a (adjustment_by t s found)
  by-records _ x a (no_pair never) = not_there (λ is listed. never is)
  by-records _ x a (a_pair at is) = subst (λ (b : Adjustment). SubtableRead form firsts x a (Some b))
      (sym (ap (λ n. adjustment_at t at n (word t (s + 6))) read.first ∙ ap (λ n. adjustment_at t at (format1 form) n) read.second ∙ is)) there

  pub subtable-read : (x y : ℕ) → SubtableRead form firsts x (f x y) (by_subtable t s x y)
  subtable-read x y = by (index_of t s x) (index-read x)
    where
      by : (index : Option ℕ) → Searched firsts x (λ i. i) index → SubtableRead form firsts x (f x y) (adjustment_of t s index x y)
      by _ (missing none) = not_there (λ is listed. none listed.0 listed.1 (any-default firsts listed.0 0 x listed.1 ∙ listed.2))
      by _ (present k less is) =
          subst (λ z. SubtableRead form firsts z (f z y) (adjustment_by t s (record_of t s k z y))) is
          (subst (λ (r : Option ℕ). SubtableRead form firsts (get_or firsts k 0) (f (get_or firsts k 0) y) (adjustment_by t s r)) (sym (record-read k y less))
          (by-records _ (get_or firsts k 0) (f (get_or firsts k 0) y)
          (pair-read t form (f (get_or firsts k 0)) (s + (14 + length firsts * 4) + get_or has.offsets k 0) (set-held k less) y)))
