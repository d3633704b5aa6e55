-- Reverse chaining subtables: what is kept of one, and what is read of one that was written.
use Rattle.std.proofs.Common.{◌≡◌, refl, sym, ap, subst, ◌∙◌, inl, inr, ℕ, zero, suc, ◌+◌, ◌*◌, ◌<◌, ◌==◌, List, [], ◌∷◌, ◌++◌, length, length-append, get_or, append-nil, arith, Bool, true, false}
use Rattle.std.specs.Prelude.{Option, None, Some, is_some, nat_lt, slice_index, if◌then◌else◌}
use Rattle.std.specs.List.{All, Contains, range_with_len}
use Rattle.std.proofs.lemmas.Bool.{eq-eqb, lt-ltb}
use Rattle.std.proofs.lemmas.List.{get_or_append_left, get_or_push}
use Rattle.std.proofs.lemmas.List.Elements.{All-append, All-cons, All-nil, Contains-append_left, Contains-push}
use Rattle.std.proofs.lemmas.List.FromFn.{get_or-range_with_len, length-range_with_len}
use Rattle.postscript_layout.specs.Numbers.{word}
use Rattle.postscript_layout.specs.Substitutions.{coverage_of, reverse_offset}
use Rattle.postscript_layout_write.specs.Coverages.{HasChained, HasCoverage, HasReverse, counted_text, no_context, reverse_base, reverse_text}
use Rattle.postscript_layout_write.specs.First.{all_below}
use Rattle.postscript_layout_write.specs.Holds.{Holds}
use Rattle.postscript_layout_write.specs.Ranges.{coverage_index}
use Rattle.postscript_layout_write.specs.Renumbering.{new_number}
use Rattle.postscript_layout_write.specs.Reverses.{ahead_at, if_some, new_substitute, number_of, reverse_of, reverses_at, reverses_in, substitute_at, substitute_of, substitutes}
use Rattle.postscript_layout_write.specs.Rules.{part_at}
use Rattle.postscript_layout_write.specs.Sequences.{Context, can_apply, covers, if_applies}
use Rattle.postscript_layout_write.specs.Text.{array_text, coverage_text, offsets_text, uint16}
use Rattle.postscript_layout_write.proofs.ContextReading.{AreKeptSets, IsCounted, all-of-each, all-there, applying-if, context-there, counted-read, index-read, kept-sets, length-counted, part-read, place, same-context, sets-read}
use Rattle.postscript_layout_write.proofs.Firsts.{nat_cases}
use Rattle.postscript_layout_write.proofs.Holding.{holds-array, holds-first, holds-in, holds-second, holds-word, length-array, length-uint16}
use Rattle.postscript_layout_write.proofs.Reading.{Searched, any-default, length-offsets, missing, offsets-read, present, searched}
use Rattle.postscript_layout_write.proofs.Renumbered.{number-small}

-- glyphs with substitutes, and the substitutes, by a function
abbrev keys : (ℕ → Option ℕ) → ℕ → List ℕ
keys q k = if is_some (q k) then k ∷ [] else []

abbrev values : (ℕ → Option ℕ) → ℕ → List ℕ
values q k = if_some (q k)

pub all-values : (P : ℕ → Type 0) (q : ℕ → Option ℕ) (n : ℕ) → ((k m : ℕ) → q k ≡ Some m → P m) → All P (all_below (λ k. if_some (q k)) n)
all-values P q zero each = All-nil P
all-values P q (suc n) each = All-append P (all_below (values q) n) (values q n) (all-values P q n each) (by (q n) refl)
  where
    by : (x : Option ℕ) → q n ≡ x → All P (if_some x)
    by None is = All-nil P
    by (Some m) is = All-cons P m [] (each n m is) (All-nil P)

-- the new number of a substitute is that of a kept glyph
pub substitute-small : (gsub kept : List ℕ) (subtable k m : ℕ) → new_substitute gsub kept subtable k ≡ Some m → m < length kept
substitute-small gsub kept subtable k m is = by (substitute_of gsub subtable (slice_index kept k)) is
  where
    by : (x : Option ℕ) → number_of kept x ≡ Some m → m < length kept
    by None h = absurd (cc)
    by (Some glyph) h = number-small kept glyph m h

pub substitutes-small : (gsub kept : List ℕ) (subtable : ℕ) → length kept < 65536 → All (λ n. n < 65536) (substitutes gsub kept subtable)
substitutes-small gsub kept subtable few = all-values (λ n. n < 65536) (new_substitute gsub kept subtable) (length kept)
    (λ k m is. (let low = substitute-small gsub kept subtable k m is in omega (arith, low, few)))

-- The glyphs with substitutes and the substitutes are in the same order, and no such glyph is missing.
record ArePaired (q : ℕ → Option ℕ) (n : ℕ) (ks vs : List ℕ) : Type 0 where
  many : length vs ≡ length ks
  pair : (j : ℕ) → j < length ks → q (get_or ks j 0) ≡ Some (get_or vs j 0)
  all : (k m : ℕ) → k < n → q k ≡ Some m → Contains ks k

one-more : (q : ℕ → Option ℕ) (n : ℕ) (ks vs : List ℕ) → ArePaired q n ks vs → (x : Option ℕ) → q n ≡ x →
    ArePaired q (suc n) (ks ++ (if is_some x then n ∷ [] else [])) (vs ++ if_some x)
one-more q n ks vs p None is =
    subst (λ (xs : List ℕ). ArePaired q (suc n) xs (vs ++ [])) (sym (append-nil ks))
    (subst (λ (xs : List ℕ). ArePaired q (suc n) ks xs) (sym (append-nil vs)) (record {
      many = p.many;
      pair = p.pair;
      all = λ k m less e. elim (nat_cases k n) [
        | inl early ↦ p.all k m early e
        | inr late ↦ (let same : k ≡ n = omega (arith, less, late) in let no = sym e ∙ ap q same ∙ is in absurd (cc))
      ];
    }))
one-more q n ks vs p (Some v) is =
    let many = p.many in
    record {
      many = omega (arith, many, length-append vs (v ∷ []), length-append ks (n ∷ []));
      pair = λ j less. elim (nat_cases j (length ks)) [
        | inl early ↦ ap q (get_or_append_left ks (n ∷ []) 0 j early) ∙ p.pair j early
            ∙ ap (λ m. Some m) (sym (get_or_append_left vs (v ∷ []) 0 j (omega (arith, early, many))))
        | inr late ↦ (let last : length ks ≡ j = omega (arith, less, late, length-append ks (n ∷ [])) in
            ap q (get_or_push ks n 0 j last) ∙ is ∙ ap (λ m. Some m) (sym (get_or_push vs v 0 j (omega (arith, last, many)))))
      ];
      all = λ k m less e. elim (nat_cases k n) [
        | inl early ↦ Contains-append_left ks (n ∷ []) k (p.all k m early e)
        | inr late ↦ (let same : n ≡ k = omega (arith, less, late) in subst (λ i. Contains (ks ++ n ∷ []) i) same (Contains-push ks n))
      ];
    }

paired : (q : ℕ → Option ℕ) (n : ℕ) → ArePaired q n (all_below (keys q) n) (all_below (values q) n)
paired q zero = record { many = refl; pair = λ j less. absurd (omega (arith, less)); all = λ k m less e. absurd (omega (arith, less)) }
paired q (suc n) = one-more q n (all_below (keys q) n) (all_below (values q) n) (paired q n) (q n) refl

below-same : {X : Type 0} (f g : ℕ → List X) (n : ℕ) → ((k : ℕ) → k < n → f k ≡ g k) → all_below f n ≡ all_below g n
below-same f g zero same = refl
below-same f g (suc n) same = ap (λ xs. xs ++ f n) (below-same f g n (λ k less. same k (omega (arith, less))))
    ∙ ap (λ xs. all_below g n ++ xs) (same n (omega arith))

-- a number below n is its own new number
own-number : (n m : ℕ) → m < n → new_number (range_with_len 0 n) m ≡ Some m
own-number n m less = by (new_number (range_with_len 0 n) m)
    (searched (λ k. slice_index (range_with_len 0 n) k) (range_with_len 0 n) m (λ i. i) (length (range_with_len 0 n)) refl (λ k below. refl))
  where
    by : (x : Option ℕ) → Searched (range_with_len 0 n) m (λ i. i) x → x ≡ Some m
    by _ (missing none) = absurd (none m (let long = length-range_with_len 0 n in omega (arith, less, long)) (get_or-range_with_len 0 n m 0 less ∙ omega arith))
    by _ (present k within is) = (let long = length-range_with_len 0 n in
        let at = get_or-range_with_len 0 n k 0 (omega (arith, within, long)) in
        ap (λ i. Some i) (omega (arith, at, is)))

-- a context of new numbers, whose substitutes are given by a function
pub record IsKeptReverse (n : ℕ) (context : Context) : Type 0 where
  pub q : ℕ → Option ℕ
  pub small : (k m : ℕ) → q k ≡ Some m → m < n
  pub before : AreKeptSets n context.before
  pub after : AreKeptSets n context.after
  pub input : context.input ≡ all_below (λ k. if is_some (q k) then k ∷ [] else []) n ∷ []
  pub actions : context.actions ≡ all_below (λ k. if_some (q k)) n

kept-reverse : (gsub kept : List ℕ) (s : ℕ) → IsKeptReverse (length kept) (reverse_of gsub kept s)
kept-reverse gsub kept s = record {
  q = new_substitute gsub kept s;
  small = λ k m is. substitute-small gsub kept s k m is;
  before = kept-sets kept (λ p. covers gsub (s + word gsub (s + 6 + p * 2))) (word gsub (s + 4));
  after = kept-sets kept (λ p. covers gsub (s + word gsub (ahead_at gsub s + 2 + p * 2))) (word gsub (ahead_at gsub s));
  input = refl;
  actions = refl;
}

-- the contexts of an old lookup
module _ (gsub kept : List ℕ) (part : ℕ → Option ℕ) (count k : ℕ) (less : k < length (all_below (λ j. reverses_in gsub kept (part j)) count)) where
  abbrev IsGood : Context → Type 0
  IsGood context = IsKeptReverse (length kept) context × (can_apply context ≡ true)

  good-in : (part : Option ℕ) → All IsGood (reverses_in gsub kept part)
  good-in None = All-nil IsGood
  good-in (Some s) = by (word gsub s == 1)
    where
      by : (b : Bool) → All IsGood (if b then if_applies (reverse_of gsub kept s) else [])
      by true = applying-if (IsKeptReverse (length kept)) (reverse_of gsub kept s) (kept-reverse gsub kept s)
      by false = All-nil IsGood

  pub good-reverse : IsKeptReverse (length kept) (get_or (all_below (λ j. reverses_in gsub kept (part j)) count) k no_context)
      × (can_apply (get_or (all_below (λ j. reverses_in gsub kept (part j)) count) k no_context) ≡ true)
  good-reverse = all-of-each IsGood (λ j. reverses_in gsub kept (part j)) count (λ j. good-in (part j)) k no_context less

module _ (t : List ℕ) (s n : ℕ) (context : Context) (has : HasReverse context t s) where
  base : ℕ
  base = reverse_base has.before has.after context.actions

  -- the offset of the number of substitutes
  list : ℕ
  list = s + 8 + (length has.before + length has.after) * 2

  record IsReverseRead : Type 0 where
    format : word t s ≡ 1
    coverage-read : word t (s + 2) ≡ base + get_or has.input 0 0
    before-read : IsCounted t (s + 4) base has.before
    ahead-place : ahead_at t s ≡ s + 6 + length has.before * 2
    after-read : IsCounted t (s + 6 + length has.before * 2) base has.after
    list-place : reverse_offset t s ≡ list
    count-read : word t list ≡ length context.actions
    action-read : (j : ℕ) → j < length context.actions → word t (list + 2 + j * 2) ≡ get_or context.actions j 0
    behind : Holds has.tables t (s + base)

  read : IsReverseRead
  unfolding reverse_text base list
  read =
      let b = length has.before in
      let a = length has.after in
      let near = has.fits.near in
      let one = has.fits.one in
      let actions = context.actions in
      let tail3 : List ℕ = uint16 (length actions) ++ (array_text actions ++ has.tables) in
      let tail2 : List ℕ = counted_text base has.after ++ tail3 in
      let tail1 : List ℕ = counted_text base has.before ++ tail2 in
      let tail0 : List ℕ = offsets_text base has.input ++ tail1 in
      let h2 = holds-second (uint16 1) tail0 2 (length-uint16 1) has.there in
      let h4 = subst (Holds tail1 t) {x = s + 2 + length has.input * 2} {y = s + 4} (omega (arith, one))
      (holds-second (offsets_text base has.input) tail1 (length has.input * 2) (length-offsets base has.input) h2) in
      let first = counted-read t (s + 4) base has.before (omega (arith, near)) has.fits.fit_before (holds-first (counted_text base has.before) tail2 h4) in
      let h-after = subst (Holds tail2 t) {x = s + 4 + (2 + b * 2)} {y = s + 6 + b * 2} (omega arith)
      (holds-second (counted_text base has.before) tail2 (2 + b * 2) (length-counted base has.before) h4) in
      let third = counted-read t (s + 6 + b * 2) base has.after (omega (arith, near)) has.fits.fit_after (holds-first (counted_text base has.after) tail3 h-after) in
      let h-count = subst (Holds tail3 t) {x = s + 6 + b * 2 + (2 + a * 2)} {y = s + 8 + (b + a) * 2} (omega arith)
      (holds-second (counted_text base has.after) tail3 (2 + a * 2) (length-counted base has.after) h-after) in
      let h-actions = holds-second (uint16 (length actions)) (array_text actions ++ has.tables) 2 (length-uint16 (length actions)) h-count in
      let many1 = first.many in
      let many3 = third.many in
      let at1 : ahead_at t s ≡ s + 6 + b * 2 = omega (arith, many1) in
      record {
        format = holds-word 1 (omega arith) (holds-first (uint16 1) tail0 has.there);
        coverage-read = ap (word t) (omega arith) ∙ offsets-read t (s + 2) base has.input 0 (omega (arith, one)) has.fits.fit_input
            (holds-first (offsets_text base has.input) tail1 h2);
        before-read = first;
        ahead-place = at1;
        after-read = third;
        list-place = ap (λ k. k + 2 + word t k * 2) at1 ∙ omega (arith, many3);
        count-read = holds-word (length actions) (omega (arith, near)) (holds-first (uint16 (length actions)) (array_text actions ++ has.tables) h-count);
        action-read = λ j less. holds-array actions (s + 8 + (b + a) * 2 + 2) j less (has.small j 0 less) (holds-first (array_text actions) has.tables h-actions);
        behind = subst (Holds has.tables t) (omega arith)
            (holds-second (array_text actions) has.tables (length actions * 2) (length-array actions) h-actions);
      }

  pub reverse-format : word t s ≡ 1
  reverse-format = read.format

  module _ (kept : IsKeptReverse n context) where
    set : List ℕ
    set = all_below (keys kept.q) n

    all : List ℕ
    all = range_with_len 0 n

    glyphs-there : HasCoverage set t (coverage_of t s)
    unfolding base set
    glyphs-there =
        let one = has.fits.one in
        let same = has.has_input.same in
        let there = subst (λ (xs : List (List ℕ)). HasCoverage (get_or xs 0 []) has.tables (get_or has.input 0 0)) kept.input
        (has.has_input.each 0 (omega (arith, one, same))) in
        let at = read.coverage-read in
        record {
          few = there.few;
          small = there.small;
          there = subst (Holds (coverage_text set) t) {x = s + base + get_or has.input 0 0} (omega (arith, at)) (holds-in read.behind there.there);
        }

    at-index : (j : ℕ) → j < length context.actions → substitute_at t s (Some j) ≡ Some (get_or context.actions j 0)
    at-index j less =
        let count = read.count-read in
        ap (λ p. if nat_lt j (word t p) then Some (word t (p + 2 + j * 2)) else None) read.list-place
        ∙ ap (λ (b : Bool). if b then Some (word t (list + 2 + j * 2)) else None) (lt-ltb j (word t list) (omega (arith, less, count)))
        ∙ ap (λ m. Some m) (read.action-read j less)

    substitute-read : (k : ℕ) → k < n → new_substitute t all s k ≡ kept.q k
    unfolding set all
    substitute-read k less =
        ap (λ g. number_of all (substitute_of t s g)) (get_or-range_with_len 0 n k 0 less ∙ omega arith)
        ∙ by (coverage_index t (coverage_of t s) k) (index-read t (coverage_of t s) set glyphs-there k)
      where
        by : (x : Option ℕ) → Searched set k (λ i. i) x → number_of all (substitute_at t s x) ≡ kept.q k
        by _ (missing none) = never (kept.q k) refl
          where
            never : (y : Option ℕ) → kept.q k ≡ y → None ≡ y
            never None e = refl
            never (Some m) e = (let there = (paired kept.q n).all k m less e in
                absurd (none there.0 there.1 (any-default set there.0 0 k there.1 ∙ there.2)))
        by _ (present j within same) =
            (let p = paired kept.q n in
            let many = p.many in
            let long = ap length kept.actions in
            let value = get_or (all_below (values kept.q) n) j 0 in
            let is : kept.q k ≡ Some value = ap kept.q (sym same) ∙ p.pair j within in
            ap (number_of all) (at-index j (omega (arith, within, many, long))) ∙ ap (λ (xs : List ℕ). new_number all (get_or xs j 0)) kept.actions
            ∙ own-number n value (kept.small k value is) ∙ sym is)

    pub reverse-read : reverse_of t (range_with_len 0 n) s ≡ context
    unfolding base set all
    reverse-read =
        let r = read in
        let q = kept.q in
        same-context (reverse_of t all s) context
        (sets-read t s base n (s + 6) context.before has.before has.tables (word t (s + 4)) r.before-read.many has.has_before r.behind
        (λ k less. ap (word t) (omega arith) ∙ r.before-read.each k less) kept.before)
        (ap (λ xs. xs ∷ []) (ap (all_below (keys (new_substitute t all s))) (length-range_with_len 0 n)
        ∙ below-same (keys (new_substitute t all s)) (keys q) n (λ k less. ap (λ (x : Option ℕ). if is_some x then k ∷ [] else []) (substitute-read k less)))
        ∙ sym kept.input)
        (sets-read t s base n (ahead_at t s + 2) context.after has.after has.tables (word t (ahead_at t s)) (ap (word t) r.ahead-place ∙ r.after-read.many) has.has_after r.behind
        (λ k less. ap (λ p. word t (p + 2 + k * 2)) r.ahead-place ∙ r.after-read.each k less) kept.after)
        (ap (all_below (values (new_substitute t all s))) (length-range_with_len 0 n)
        ∙ below-same (values (new_substitute t all s)) (values q) n (λ k less. ap if_some (substitute-read k less))
        ∙ sym kept.actions)

-- a lookup that was written is read as it was
module _ (t : List ℕ) (l flag set : ℕ) (contexts : List Context) (has : HasChained true 8 flag set contexts t l) where
  pub reverses-read : (n : ℕ) →
      ((k : ℕ) → k < length contexts → IsKeptReverse n (get_or contexts k no_context) × (can_apply (get_or contexts k no_context) ≡ true)) →
      reverses_at t (range_with_len 0 n) l ≡ contexts
  reverses-read n good = all-there t l 8 flag set contexts has (λ j. reverses_in t (range_with_len 0 n) (part_at t l 8 j)) one
    where
      one : (k : ℕ) → k < length contexts → k < length has.offsets → reverses_in t (range_with_len 0 n) (part_at t l 8 k) ≡ get_or contexts k no_context ∷ []
      one k less within =
          let s = place t l 8 flag set contexts has k in
          let context = get_or contexts k no_context in
          let there : HasReverse context t s = context-there t l 8 flag set contexts has k within in
          ap (reverses_in t (range_with_len 0 n)) (part-read t l 8 flag set contexts has k within)
          ∙ ap (λ (b : Bool). if b then if_applies (reverse_of t (range_with_len 0 n) s) else []) (eq-eqb (word t s) 1 (reverse-format t s n context there))
          ∙ ap if_applies (reverse-read t s n context there (good k less).0)
          ∙ ap (λ (b : Bool). if b then context ∷ [] else []) (good k less).1
