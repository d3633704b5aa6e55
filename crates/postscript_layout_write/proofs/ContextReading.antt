-- Contexts that were written are read as they were.
use Rattle.std.proofs.Common.{◌≡◌, refl, sym, ap, subst, ◌∙◌, inl, inr, ℕ, zero, suc, ◌+◌, ◌*◌, ◌≤◌, ◌<◌, ◌==◌, ◌&&◌, List, [], ◌∷◌, ◌++◌, length, length-append, get_or, take, arith, add-one, Bool, true, false}
use Rattle.std.specs.Prelude.{Option, None, Some, filter, is_none, is_some, map, nat_lt, slice_index, slice_index_or, if◌then◌else◌}
use Rattle.std.specs.List.{All, Contains, range_with_len}
use Rattle.std.proofs.lemmas.Bool.{eq-eqb}
use Rattle.std.proofs.lemmas.List.{ext_get_or, take_all, take_more}
use Rattle.std.proofs.lemmas.List.Elements.{All-append, All-cons, All-nil, Contains-append_left, Contains-push, filter_passes}
use Rattle.std.proofs.lemmas.List.FromFn.{get_or-map-range_with_len, get_or-range_with_len, length-map-range_with_len, length-range_with_len}
use Rattle.postscript_layout.specs.Numbers.{word, long, words}
use Rattle.postscript_layout_write.specs.Contexts.{actions_at, after_at, all_have_formats, context_of, contexts_at, contexts_in, has_format, input_at, parts_of, sets_at}
use Rattle.postscript_layout_write.specs.Sequences.{Context, can_apply, covered_of, covers, if_applies, kept_by}
use Rattle.postscript_layout_write.specs.declared.contexts.Parts.{Parts}
use Rattle.postscript_layout_write.specs.declared.labels.Role.{Role}
use Rattle.postscript_layout_write.specs.declared.labels.Role.TheVariants.{After, Before, Input, Start}
use Rattle.postscript_layout_write.specs.ContextRules.{by_rules, is_label, label_of, labelled, labelled_at, rule_context, rule_of, rule_parts, sets_of}
use Rattle.postscript_layout_write.specs.ContextRules.{rules_in as context_rules, set_of as context_set}
use Rattle.postscript_layout_write.specs.Coverages.{HasChained, HasContext, HasCoverage, HasEither, HasReverse, HaveCoverages, base_of, chained_text, context_text, counted_text, no_context}
use Rattle.postscript_layout_write.specs.First.{all_below, first_some}
use Rattle.postscript_layout_write.specs.Flags.{set_of, uses_set}
use Rattle.postscript_layout_write.specs.Holds.{Holds}
use Rattle.postscript_layout_write.specs.Marks.{type_at, typed_at}
use Rattle.postscript_layout_write.specs.PositionContexts.{contexts_by, is_context}
use Rattle.postscript_layout_write.specs.PositionContexts.{all_have_formats as position_formats, contexts_at as positions_at}
use Rattle.postscript_layout_write.specs.Ranges.{coverage_index, index_in, range_of}
use Rattle.postscript_layout_write.specs.Rules.{part_at}
use Rattle.postscript_layout_write.specs.Sets.{AreOffsets}
use Rattle.postscript_layout_write.specs.Text.{array_text, coverage_text, offsets_text, uint16}
use Rattle.postscript_layout_write.proofs.Covering.{filter-more, filter-same}
use Rattle.postscript_layout_write.proofs.Firsts.{first-none, nat_cases}
use Rattle.postscript_layout_write.proofs.Holding.{holds-array, holds-first, holds-in, holds-second, holds-word, length-array, length-uint16}
use Rattle.postscript_layout_write.proofs.Reading.{Searched, any-default, length-offsets, missing, offsets-read, present, searched}
use Rattle.postscript_layout_write.proofs.RuleReading.{words-read}
use Rattle.postscript_layout_write.proofs.RuleRows.{below-more}

-- a set of new numbers: those below a number that pass a test
pub record IsKeptSet (n : ℕ) (set : List ℕ) : Type 0 where
  pub test : ℕ → Bool
  pub is : set ≡ filter test (range_with_len 0 n)

pub passes-there : (p : ℕ → Bool) (n k : ℕ) → k < n → p k ≡ true → Contains (filter p (range_with_len 0 n)) k
passes-there p zero k less passes = absurd (omega (arith, less))
passes-there p (suc m) k less passes =
    let more : filter p (range_with_len 0 (suc m)) ≡ filter p (range_with_len 0 m) ++ (if p m then m ∷ [] else []) =
    ap (λ i. filter p (range_with_len 0 i)) (sym (add-one m)) ∙ filter-more p m in
    subst (λ (xs : List ℕ). Contains xs k) (sym more) (elim (nat_cases k m) [
      | inl early ↦ Contains-append_left (filter p (range_with_len 0 m)) (if p m then m ∷ [] else []) k (passes-there p m k early passes)
      | inr late ↦ (let same : m ≡ k = omega (arith, less, late) in
          subst (λ (b : Bool). Contains (filter p (range_with_len 0 m) ++ (if b then m ∷ [] else [])) k) (sym (ap p same ∙ passes))
          (subst (λ i. Contains (filter p (range_with_len 0 m) ++ m ∷ []) i) same (Contains-push (filter p (range_with_len 0 m)) m)))
    ])

-- the glyphs of a coverage table
module _ (t : List ℕ) (c : ℕ) (set : List ℕ) (has : HasCoverage set t c) where
  pub index-read : (x : ℕ) → Searched set x (λ i. i) (coverage_index t c x)
  unfolding coverage_text
  index-read x =
      let h = has.there in
      let few = has.few in
      let h2 = holds-second (uint16 1) _ 2 (length-uint16 1) h in
      let h4 = holds-second (uint16 (length set)) _ 2 (length-uint16 (length set)) h2 in
      let one = holds-word 1 (omega arith) (holds-first (uint16 1) _ h) in
      let many = holds-word (length set) (omega (arith, few)) (holds-first (uint16 (length set)) _ h2) in
      let is : coverage_index t c x ≡ first_some (λ i. if word t (c + 4 + i * 2) == x then Some i else None) (word t (c + 2)) =
      ap (λ (b : Bool). if b then first_some (λ i. if word t (c + 4 + i * 2) == x then Some i else None) (word t (c + 2))
      else (if word t c == 2 then index_in t x (range_of t c x) else None)) (eq-eqb (word t c) 1 one) in
      subst (Searched set x (λ i. i)) (sym is) (searched (λ i. word t (c + 4 + i * 2)) set x (λ i. i) (word t (c + 2)) many
      (λ k less. ap (word t) (omega arith) ∙ holds-array set (c + 2 + 2) k less (has.small k 0 less) h4))

  covers-read : (n : ℕ) (p : ℕ → Bool) → set ≡ filter p (range_with_len 0 n) → (k : ℕ) → k < n → covers t c k ≡ p k
  covers-read n p is k less = by (coverage_index t c k) (index-read k)
    where
      by : (x : Option ℕ) → Searched set k (λ i. i) x → is_some x ≡ p k
      by _ (missing none) = never (p k) refl
        where
          never : (b : Bool) → p k ≡ b → false ≡ b
          never true passes = (let there = subst (λ (xs : List ℕ). Contains xs k) (sym is) (passes-there p n k less passes) in
              absurd (none there.0 there.1 (any-default set there.0 0 k there.1 ∙ there.2)))
          never false fails = refl
      by _ (present j within same) = sym (subst (λ i. p i ≡ true) same
          (subst (λ (xs : List ℕ). All (λ x. p x ≡ true) xs) (sym is) (filter_passes p (range_with_len 0 n)) j 0 within))

  pub glyphs-read : (n : ℕ) → IsKeptSet n set → covered_of t (range_with_len 0 n) c ≡ set
  glyphs-read n kept =
      ap (λ m. filter (λ k. covers t c (slice_index (range_with_len 0 n) k)) (range_with_len 0 m)) (length-range_with_len 0 n)
      ∙ filter-same (λ k. covers t c (slice_index (range_with_len 0 n) k)) kept.test n
      (λ k less. ap (covers t c) (get_or-range_with_len 0 n k 0 less ∙ omega arith) ∙ covers-read n kept.test kept.is k less)
      ∙ sym kept.is

-- sets of an array of offsets
unfoldable pub AreKeptSets : (n : ℕ) (sets : List (List ℕ)) → Type 0
AreKeptSets n sets = (k : ℕ) → k < length sets → IsKeptSet n (slice_index_or sets k [])

pub sets-read : (t : List ℕ) (s base n array : ℕ) (sets : List (List ℕ)) (offsets tables : List ℕ) (count : ℕ) → count ≡ length offsets → HaveCoverages sets offsets tables →
    Holds tables t (s + base) → ((k : ℕ) → k < length offsets → word t (array + k * 2) ≡ base + get_or offsets k 0) → AreKeptSets n sets →
    sets_at t (range_with_len 0 n) s array count ≡ sets
unfolding AreKeptSets
sets-read t s base n array sets offsets tables count many have held places kept =
    let same = have.same in
    let f = λ (k : ℕ). covered_of t (range_with_len 0 n) (s + word t (array + k * 2)) in
    ext_get_or [] (sets_at t (range_with_len 0 n) s array count) sets (length-map-range_with_len f 0 count ∙ many ∙ same)
    (λ k less. (let within : k < length sets = omega (arith, less, length-map-range_with_len f 0 count, many, same) in
    let below : k < count = omega (arith, within, many, same) in
    let one = have.each k within in
    let place = places k (omega (arith, within, same)) in
    get_or-map-range_with_len f 0 count k k [] below (omega arith)
    ∙ ap (λ m. covered_of t (range_with_len 0 n) (s + m)) place
    ∙ glyphs-read t (s + (base + get_or offsets k 0)) (get_or sets k []) (record {
      few = one.few;
      small = one.small;
      there = subst (Holds (coverage_text (get_or sets k [])) t) (omega arith) (holds-in held one.there);
    }) n (kept k within)))

-- offsets after their number
pub length-counted : (base : ℕ) (offsets : List ℕ) → length (counted_text base offsets) ≡ 2 + length offsets * 2
unfolding counted_text
length-counted base offsets =
    omega (arith, length-append (uint16 (length offsets)) (offsets_text base offsets), length-uint16 (length offsets), length-offsets base offsets)

pub record IsCounted (t : List ℕ) (at base : ℕ) (offsets : List ℕ) : Type 0 where
  pub many : word t at ≡ length offsets
  pub each : (k : ℕ) → k < length offsets → word t (at + 2 + k * 2) ≡ base + get_or offsets k 0

pub counted-read : (t : List ℕ) (at base : ℕ) (offsets : List ℕ) → length offsets < 65536 → AreOffsets base offsets → Holds (counted_text base offsets) t at →
    IsCounted t at base offsets
unfolding counted_text
counted-read t at base offsets few fit h = record {
  many = holds-word (length offsets) few (holds-first (uint16 (length offsets)) _ h);
  each = λ k less. offsets-read t (at + 2) base offsets k less fit (holds-second (uint16 (length offsets)) _ 2 (length-uint16 (length offsets)) h);
}

context-with : (before input after : List (List ℕ)) (actions : List ℕ) → Context
context-with before input after actions = record { before = before; input = input; after = after; actions = actions }

pub same-context : (a b : Context) → a.before ≡ b.before → a.input ≡ b.input → a.after ≡ b.after → a.actions ≡ b.actions → a ≡ b
unfolding context-with
same-context a b p q r s =
    ap (λ xs. context-with xs a.input a.after a.actions) p ∙ ap (λ xs. context-with b.before xs a.after a.actions) q
    ∙ ap (λ xs. context-with b.before b.input xs a.actions) r ∙ ap (λ xs. context-with b.before b.input b.after xs) s

-- all sets of a context are sets of new numbers
pub record IsKeptContext (n : ℕ) (context : Context) : Type 0 where
  pub before : AreKeptSets n context.before
  pub input : AreKeptSets n context.input
  pub after : AreKeptSets n context.after

module _ (t : List ℕ) (s n : ℕ) (context : Context) (has : HasContext context t s) where
  base : ℕ
  base = base_of has.before has.input has.after context.actions

  record IsRead : Type 0 where
    format : word t s ≡ 3
    before-read : IsCounted t (s + 2) base has.before
    input-place : input_at t s ≡ s + 4 + length has.before * 2
    input-read : IsCounted t (s + 4 + length has.before * 2) base has.input
    after-place : after_at t s ≡ s + 6 + (length has.before + length has.input) * 2
    after-read : IsCounted t (s + 6 + (length has.before + length has.input) * 2) base has.after
    actions-place : actions_at t s ≡ s + 8 + (length has.before + length has.input + length has.after) * 2
    count-read : word t (s + 8 + (length has.before + length has.input + length has.after) * 2) ≡ has.count
    actions-read : words t (s + 10 + (length has.before + length has.input + length has.after) * 2) (has.count * 2) ≡ context.actions
    behind : Holds has.tables t (s + base)

  read : IsRead
  unfolding context_text base
  read =
      let a = length has.before in
      let b = length has.input in
      let d = length has.after in
      let near = has.fits.near in
      let many = has.fits.many in
      let tail3 : List ℕ = uint16 has.count ++ (array_text context.actions ++ has.tables) in
      let tail2 : List ℕ = counted_text base has.after ++ tail3 in
      let tail1 : List ℕ = counted_text base has.input ++ tail2 in
      let h2 = holds-second (uint16 3) (counted_text base has.before ++ tail1) 2 (length-uint16 3) has.there in
      let first = counted-read t (s + 2) base has.before (omega (arith, near)) has.fits.fit_before (holds-first (counted_text base has.before) tail1 h2) in
      let h-input = subst (Holds tail1 t) {x = s + 2 + (2 + a * 2)} {y = s + 4 + a * 2} (omega arith)
      (holds-second (counted_text base has.before) tail1 (2 + a * 2) (length-counted base has.before) h2) in
      let second = counted-read t (s + 4 + a * 2) base has.input (omega (arith, near)) has.fits.fit_input (holds-first (counted_text base has.input) tail2 h-input) in
      let h-after = subst (Holds tail2 t) {x = s + 4 + a * 2 + (2 + b * 2)} {y = s + 6 + (a + b) * 2} (omega arith)
      (holds-second (counted_text base has.input) tail2 (2 + b * 2) (length-counted base has.input) h-input) in
      let third = counted-read t (s + 6 + (a + b) * 2) base has.after (omega (arith, near)) has.fits.fit_after (holds-first (counted_text base has.after) tail3 h-after) in
      let h-count = subst (Holds tail3 t) {x = s + 6 + (a + b) * 2 + (2 + d * 2)} {y = s + 8 + (a + b + d) * 2} (omega arith)
      (holds-second (counted_text base has.after) tail3 (2 + d * 2) (length-counted base has.after) h-after) in
      let count = holds-word has.count (omega (arith, near, many)) (holds-first (uint16 has.count) (array_text context.actions ++ has.tables) h-count) in
      let h-actions = subst (Holds (array_text context.actions ++ has.tables) t) {x = s + 8 + (a + b + d) * 2 + 2} {y = s + 10 + (a + b + d) * 2} (omega arith)
      (holds-second (uint16 has.count) (array_text context.actions ++ has.tables) 2 (length-uint16 has.count) h-count) in
      let many1 = first.many in
      let many2 = second.many in
      let many3 = third.many in
      let at1 : input_at t s ≡ s + 4 + a * 2 = omega (arith, many1) in
      let at2 : after_at t s ≡ s + 6 + (a + b) * 2 = ap (λ k. k + 2 + word t k * 2) at1 ∙ omega (arith, many2) in
      let at3 : actions_at t s ≡ s + 8 + (a + b + d) * 2 = ap (λ k. k + 2 + word t k * 2) at2 ∙ omega (arith, many3) in
      record {
        format = holds-word 3 (omega arith) (holds-first (uint16 3) _ has.there);
        before-read = first;
        input-place = at1;
        input-read = second;
        after-place = at2;
        after-read = third;
        actions-place = at3;
        count-read = count;
        actions-read = words-read t (s + 10 + (a + b + d) * 2) context.actions (has.count * 2) (sym many) has.small
            (holds-first (array_text context.actions) has.tables h-actions);
        behind = subst (Holds has.tables t) (omega (arith, many))
            (holds-second (array_text context.actions) has.tables (length context.actions * 2) (length-array context.actions) h-actions);
      }

  pub format-read : word t s ≡ 3
  format-read = read.format

  pub context-read : IsKeptContext n context → context_of t (range_with_len 0 n) 6 s ≡ context
  unfolding base
  context-read kept =
      let r = read in
      same-context (context_of t (range_with_len 0 n) 6 s) context
      (sets-read t s base n (s + 4) context.before has.before has.tables (word t (s + 2)) r.before-read.many has.has_before r.behind
      (λ k less. ap (word t) (omega arith) ∙ r.before-read.each k less) kept.before)
      (sets-read t s base n (input_at t s + 2) context.input has.input has.tables (word t (input_at t s)) (ap (word t) r.input-place ∙ r.input-read.many) has.has_input r.behind
      (λ k less. ap (λ p. word t (p + 2 + k * 2)) r.input-place ∙ r.input-read.each k less) kept.input)
      (sets-read t s base n (after_at t s + 2) context.after has.after has.tables (word t (after_at t s)) (ap (word t) r.after-place ∙ r.after-read.many) has.has_after r.behind
      (λ k less. ap (λ p. word t (p + 2 + k * 2)) r.after-place ∙ r.after-read.each k less) kept.after)
      (ap (λ p. words t (p + 2) (word t p * 2)) r.actions-place
      ∙ ap (λ m. words t (s + 8 + (length has.before + length has.input + length has.after) * 2 + 2) (m * 2)) r.count-read
      ∙ ap (λ p. words t p (has.count * 2)) (omega arith) ∙ r.actions-read)

context-in : (context : Context) (t bytes : List ℕ) (at offset : ℕ) → Holds bytes t at → HasContext context bytes offset → HasContext context t (at + offset)
context-in context t bytes at offset h c = record {
  before = c.before;
  input = c.input;
  after = c.after;
  count = c.count;
  tables = c.tables;
  has_before = c.has_before;
  has_input = c.has_input;
  has_after = c.has_after;
  fits = c.fits;
  small = c.small;
  there = holds-in h c.there;
}

reverse-in : (context : Context) (t bytes : List ℕ) (at offset : ℕ) → Holds bytes t at → HasReverse context bytes offset → HasReverse context t (at + offset)
reverse-in context t bytes at offset h c = record {
  before = c.before;
  input = c.input;
  after = c.after;
  tables = c.tables;
  has_before = c.has_before;
  has_input = c.has_input;
  has_after = c.has_after;
  fits = c.fits;
  small = c.small;
  there = holds-in h c.there;
}

either-in : (reverse : Bool) (context : Context) (t bytes : List ℕ) (at offset : ℕ) → Holds bytes t at → HasEither reverse context bytes offset →
    HasEither reverse context t (at + offset)
either-in false context t bytes at offset h c = context-in context t bytes at offset h c
either-in true context t bytes at offset h c = reverse-in context t bytes at offset h c

-- lists of one item each, one after the other
pub all-one : {X : Type 0} (d : X) (xs : List X) (f : ℕ → List X) → ((k : ℕ) → k < length xs → f k ≡ get_or xs k d ∷ []) → (m : ℕ) → m ≤ length xs →
    all_below f m ≡ take m xs
all-one d xs f each zero less = refl
all-one d xs f each (suc m) less =
    let within : m < length xs = omega (arith, less) in
    ap (all_below f) (sym (add-one m)) ∙ below-more f m ∙ ap (λ ys. ys ++ f m) (all-one d xs f each m (omega (arith, less)))
    ∙ ap (λ ys. take m xs ++ ys) (each m within) ∙ sym (take_more xs m d within) ∙ ap (λ k. take k xs) (add-one m)

-- a lookup of chained contexts
record IsHead (t : List ℕ) (l type flag : ℕ) (offsets : List ℕ) : Type 0 where
  type-is : word t l ≡ type
  flag-is : word t (l + 2) ≡ flag
  count-is : word t (l + 4) ≡ length offsets
  offset-is : (k : ℕ) → k < length offsets → word t (l + 6 + k * 2) ≡ 6 + length offsets * 2 + get_or offsets k 0

module _ {reverse : Bool} (t : List ℕ) (l type flag set : ℕ) (contexts : List Context) (has : HasChained reverse type flag set contexts t l) where
  head : IsHead t l type flag has.offsets
  unfolding chained_text
  head =
      let m = length has.offsets in
      let few = has.few in
      let front = uint16 type ++ (uint16 flag ++ uint16 m) in
      let h = holds-first front _ has.there in
      let h2 = holds-second (uint16 type) _ 2 (length-uint16 type) h in
      let h4 = holds-second (uint16 flag) (uint16 m) 2 (length-uint16 flag) h2 in
      let long : length front ≡ 6 = omega (arith, length-append (uint16 type) (uint16 flag ++ uint16 m), length-append (uint16 flag) (uint16 m), length-uint16 type, length-uint16 flag, length-uint16 m) in
      let h6 = holds-second front _ 6 long has.there in
      record {
        type-is = holds-word type has.type_small (holds-first (uint16 type) _ h);
        flag-is = holds-word flag has.small (holds-first (uint16 flag) (uint16 m) h2);
        count-is = ap (word t) (omega arith) ∙ holds-word m (omega (arith, few)) h4;
        offset-is = λ k less. offsets-read t (l + 6) (6 + m * 2) has.offsets k less has.fit (holds-first (offsets_text (6 + m * 2) has.offsets) has.subtables h6);
      }

  subtables-held : Holds has.subtables t (l + (6 + length has.offsets * 2))
  unfolding chained_text
  subtables-held =
      let m = length has.offsets in
      let front = uint16 type ++ (uint16 flag ++ uint16 m) in
      let long : length front ≡ 6 = omega (arith, length-append (uint16 type) (uint16 flag ++ uint16 m), length-append (uint16 flag) (uint16 m), length-uint16 type, length-uint16 flag, length-uint16 m) in
      subst (Holds has.subtables t) (omega arith)
      (holds-second (offsets_text (6 + m * 2) has.offsets) has.subtables (m * 2) (length-offsets (6 + m * 2) has.offsets)
      (holds-second front _ 6 long has.there))

  pub place : ℕ → ℕ
  place k = l + (6 + length has.offsets * 2) + get_or has.offsets k 0

  -- the subtables are in the lookup itself
  pub part-word : (k : ℕ) → k < length has.offsets → l + word t (l + 6 + k * 2) ≡ place k
  unfolding place
  part-word k less = let at = head.offset-is k less in omega (arith, at)

  pub part-read : (k : ℕ) → k < length has.offsets → part_at t l type k ≡ Some (place k)
  part-read k less =
      let part = l + word t (l + 6 + k * 2) in
      ap (λ (b : Bool). if b then Some part else (if (word t l == 7) && (word t (part + 2) == type) then Some (part + long t (part + 4)) else None))
      (eq-eqb (word t l) type head.type-is)
      ∙ ap (λ m. Some m) (part-word k less)

  pub context-there : (k : ℕ) → k < length has.offsets → HasEither reverse (get_or contexts k no_context) t (place k)
  unfolding place
  context-there k less = (let same = has.have.same in
      either-in reverse (get_or contexts k no_context) t has.subtables (l + (6 + length has.offsets * 2)) (get_or has.offsets k 0) subtables-held
      (has.have.each k (omega (arith, less, same))))

  pub type-read : word t l ≡ type
  type-read = head.type-is

  pub flag-read : word t (l + 2) ≡ flag
  flag-read = head.flag-is

  pub many-read : word t (l + 4) ≡ length has.offsets
  many-read = head.count-is

  pub set-read : uses_set flag ≡ true → set_of t l ≡ set
  set-read uses =
      let at = l + (6 + length has.offsets * 2) in
      let text : Holds (uint16 set) t (at + 0) = subst (λ (b : Bool). Holds (if b then uint16 set else []) t (at + 0)) uses (holds-in subtables-held has.begins) in
      ap (λ n. word t (l + 6 + n * 2)) head.count-is ∙ ap (word t) (omega arith) ∙ holds-word set has.set_small text

  -- the subtables, as a reader of the type finds them
  pub all-there : (f : ℕ → List Context) → ((k : ℕ) → k < length contexts → k < length has.offsets → f k ≡ get_or contexts k no_context ∷ []) →
      all_below f (word t (l + 4)) ≡ contexts
  all-there f each =
      let same = has.have.same in
      ap (all_below f) (head.count-is ∙ same)
      ∙ all-one no_context contexts f (λ k less. each k less (omega (arith, less, same))) (length contexts) (omega arith)
      ∙ take_all (length contexts) contexts (omega arith)

module _ (t : List ℕ) (l type flag set : ℕ) (contexts : List Context) (has : HasChained false type flag set contexts t l) (part : ℕ → Option ℕ)
    (found : (k : ℕ) → k < length has.offsets → part k ≡ Some (place t l type flag set contexts has k)) where
  at : ℕ → ℕ
  at k = place t l type flag set contexts has k

  format-three : (k : ℕ) → k < length has.offsets → word t (at k) ≡ 3
  unfolding at
  format-three k less = format-read t (at k) 0 (get_or contexts k no_context) (context-there t l type flag set contexts has k less)

  pub format-there : (k : ℕ) → k < length has.offsets → has_format t (part k) ≡ true
  unfolding at
  format-there k less = ap (has_format t) (found k less) ∙ ap (λ w. nat_lt 0 w && nat_lt w 4) (format-three k less)

  module _ (n : ℕ) (kept : (k : ℕ) → k < length contexts → IsKeptContext n (get_or contexts k no_context))
      (apply : (k : ℕ) → k < length contexts → can_apply (get_or contexts k no_context) ≡ true) where
    one-read : (k : ℕ) → k < length contexts → k < length has.offsets → contexts_in t (range_with_len 0 n) 6 (part k) ≡ get_or contexts k no_context ∷ []
    unfolding at
    one-read k less within =
        let context = get_or contexts k no_context in
        ap (contexts_in t (range_with_len 0 n) 6) (found k within)
        ∙ ap (λ (b : Bool). if b then if_applies (context_of t (range_with_len 0 n) 6 (at k)) else by_rules t (range_with_len 0 n) 6 (at k))
        (eq-eqb (word t (at k)) 3 (format-three k within))
        ∙ ap if_applies (context-read t (at k) n context (context-there t l type flag set contexts has k within) (kept k less))
        ∙ ap (λ (b : Bool). if b then context ∷ [] else []) (apply k less)

    pub all-read : all_below (λ j. contexts_in t (range_with_len 0 n) 6 (part j)) (word t (l + 4)) ≡ contexts
    all-read = all-there t l type flag set contexts has (λ j. contexts_in t (range_with_len 0 n) 6 (part j)) one-read

-- contexts of substitutions
module _ (t : List ℕ) (l flag set : ℕ) (contexts : List Context) (has : HasChained false 6 flag set contexts t l) where
  sets-all : (m : ℕ) → m ≤ length has.offsets → all_have_formats t l 6 m ≡ true
  sets-all zero less = refl
  sets-all (suc m) less =
      ap (λ b. b && has_format t (part_at t l 6 m)) (sets-all m (omega (arith, less)))
      ∙ format-there t l 6 flag set contexts has (part_at t l 6) (part-read t l 6 flag set contexts has) m (omega (arith, less))

  pub have-sets : all_have_formats t l 6 (word t (l + 4)) ≡ true
  have-sets = ap (all_have_formats t l 6) (many-read t l 6 flag set contexts has) ∙ sets-all (length has.offsets) (omega arith)

  pub contexts-read : (n : ℕ) → ((k : ℕ) → k < length contexts → IsKeptContext n (get_or contexts k no_context)) →
      ((k : ℕ) → k < length contexts → can_apply (get_or contexts k no_context) ≡ true) → contexts_at t (range_with_len 0 n) l 6 ≡ contexts
  contexts-read n kept apply = all-read t l 6 flag set contexts has (part_at t l 6) (part-read t l 6 flag set contexts has) n kept apply

-- contexts of positions
module _ (t : List ℕ) (l flag set : ℕ) (contexts : List Context) (has : HasChained false 8 flag set contexts t l) where
  typed-read : (k : ℕ) → k < length has.offsets → typed_at t l 8 k ≡ Some (place t l 8 flag set contexts has k)
  typed-read k less =
      let part = l + word t (l + 6 + k * 2) in
      ap (λ (b : Bool). if b then Some part else (if (word t l == 9) && (word t (part + 2) == 8) then Some (part + long t (part + 4)) else None))
      (eq-eqb (word t l) 8 (type-read t l 8 flag set contexts has))
      ∙ ap (λ m. Some m) (part-word t l 8 flag set contexts has k less)

  pub type-eight : type_at t l ≡ 8
  type-eight = ap (λ k. if k == 9 then word t (l + word t (l + 6) + 2) else k) (type-read t l 8 flag set contexts has)

  formats-read : position_formats t l 8 ≡ true
  formats-read = ap is_none (first-none (λ j. if has_format t (typed_at t l 8 j) then None else Some j) (word t (l + 4))
      (λ j less. (let many = many-read t l 8 flag set contexts has in
      ap (λ (b : Bool). if b then None else Some j)
      (format-there t l 8 flag set contexts has (typed_at t l 8) typed-read j (omega (arith, less, many))))))

  pub positions-read : (n : ℕ) → ((k : ℕ) → k < length contexts → IsKeptContext n (get_or contexts k no_context)) →
      ((k : ℕ) → k < length contexts → can_apply (get_or contexts k no_context) ≡ true) → positions_at t (range_with_len 0 n) l ≡ contexts
  positions-read n kept apply =
      ap (λ k. if is_context k && position_formats t l k then contexts_by t (range_with_len 0 n) l k else []) type-eight
      ∙ ap (λ (b : Bool). if b then contexts_by t (range_with_len 0 n) l 8 else []) formats-read
      ∙ all-read t l 8 flag set contexts has (typed_at t l 8) typed-read n kept apply

-- the contexts of an old lookup
pub kept-sets : (kept : List ℕ) (f : ℕ → ℕ → Bool) (count : ℕ) → AreKeptSets (length kept) (map (λ p. kept_by kept (f p)) (range_with_len 0 count))
unfolding AreKeptSets
kept-sets kept f count k less =
    let g = λ (p : ℕ). kept_by kept (f p) in
    record {
      test = λ x. f k (slice_index kept x);
      is = get_or-map-range_with_len g 0 count k k [] (omega (arith, less, length-map-range_with_len g 0 count)) (omega arith);
    }

kept-cons : (n : ℕ) (set : List ℕ) (sets : List (List ℕ)) → IsKeptSet n set → AreKeptSets n sets → AreKeptSets n (set ∷ sets)
unfolding AreKeptSets
kept-cons n set sets first rest zero less = first
kept-cons n set sets first rest (suc k) less = rest k (omega (arith, less))

pub kept-of : (gsub kept : List ℕ) (type s : ℕ) → IsKeptContext (length kept) (context_of gsub kept type s)
kept-of gsub kept type s =
    let parts = parts_of gsub type s in
    record {
      before = kept-sets kept (λ p. covers gsub (s + word gsub (parts.before_at + p * 2))) parts.before;
      input = kept-sets kept (λ p. covers gsub (s + word gsub (parts.input_at + p * 2))) parts.input;
      after = kept-sets kept (λ p. covers gsub (s + word gsub (parts.after_at + p * 2))) parts.after;
    }

kept-rule : (gsub kept : List ℕ) (type s i : ℕ) (parts : Parts) → IsKeptContext (length kept) (rule_context gsub kept type s i parts)
kept-rule gsub kept type s i parts =
    let f : Role → ℕ → ℕ → Bool = λ role number glyph. is_label (label_of gsub type s role glyph) number in
    record {
      before = kept-sets kept (λ p. f Before (word gsub (parts.before_at + p * 2))) parts.before;
      input = kept-cons (length kept) (labelled gsub kept type s Start i) (labelled_at gsub kept type s Input parts.input_at parts.input)
          (record { test = λ k. f Start i (slice_index kept k); is = refl })
          (kept-sets kept (λ p. f Input (word gsub (parts.input_at + p * 2))) parts.input);
      after = kept-sets kept (λ p. f After (word gsub (parts.after_at + p * 2))) parts.after;
    }

-- what holds of each context of a lookup
pub applying-if : (P : Context → Type 0) (context : Context) → P context → All (λ c. P c × (can_apply c ≡ true)) (if_applies context)
applying-if P context is = by (can_apply context) refl
  where
    by : (b : Bool) → can_apply context ≡ b → All (λ c. P c × (can_apply c ≡ true)) (if b then context ∷ [] else [])
    by true applies = All-cons (λ c. P c × (can_apply c ≡ true)) context [] (is, applies) (All-nil (λ c. P c × (can_apply c ≡ true)))
    by false fails = All-nil (λ c. P c × (can_apply c ≡ true))

pub all-of-each : (P : Context → Type 0) (f : ℕ → List Context) (count : ℕ) → ((k : ℕ) → All P (f k)) → All P (all_below f count)
all-of-each P f zero each = All-nil P
all-of-each P f (suc n) each = All-append P (all_below f n) (f n) (all-of-each P f n each) (each n)

-- the subtables of the lookup are these
module _ (gsub kept : List ℕ) (type : ℕ) (part : ℕ → Option ℕ) where
  IsGood : Context → Type 0
  IsGood context = IsKeptContext (length kept) context × (can_apply context ≡ true)

  good-if : (context : Context) → IsKeptContext (length kept) context → All IsGood (if_applies context)
  unfolding IsGood
  good-if context kept-sets = applying-if (IsKeptContext (length kept)) context kept-sets

  good-set : (s i : ℕ) (set : Option ℕ) → All IsGood (context_rules gsub kept type s i set)
  good-set s i None = All-nil IsGood
  good-set s i (Some set) = all-of-each IsGood (λ r. if_applies (rule_context gsub kept type s i (rule_parts gsub type (rule_of gsub set r)))) (word gsub set)
      (λ r. good-if (rule_context gsub kept type s i (rule_parts gsub type (rule_of gsub set r))) (kept-rule gsub kept type s i (rule_parts gsub type (rule_of gsub set r))))

  good-in : (part : Option ℕ) → All IsGood (contexts_in gsub kept type part)
  good-in None = All-nil IsGood
  good-in (Some s) = by (word gsub s == 3)
    where
      by : (b : Bool) → All IsGood (if b then if_applies (context_of gsub kept type s) else by_rules gsub kept type s)
      by true = good-if (context_of gsub kept type s) (kept-of gsub kept type s)
      by false = all-of-each IsGood (λ i. context_rules gsub kept type s i (context_set gsub type s i)) (word gsub (sets_of gsub type s))
          (λ i. good-set s i (context_set gsub type s i))

  pub kept-context : (count k : ℕ) → k < length (all_below (λ j. contexts_in gsub kept type (part j)) count) →
      IsKeptContext (length kept) (get_or (all_below (λ j. contexts_in gsub kept type (part j)) count) k no_context)
  unfolding IsGood
  kept-context count k less = (all-of-each IsGood (λ j. contexts_in gsub kept type (part j)) count (λ j. good-in (part j)) k no_context less).0

  pub applying-context : (count k : ℕ) → k < length (all_below (λ j. contexts_in gsub kept type (part j)) count) →
      can_apply (get_or (all_below (λ j. contexts_in gsub kept type (part j)) count) k no_context) ≡ true
  unfolding IsGood
  applying-context count k less = (all-of-each IsGood (λ j. contexts_in gsub kept type (part j)) count (λ j. good-in (part j)) k no_context less).1
