-- Marks of the glyphs that a coverage table has.
use Rattle.std.proofs.Common.{◌≡◌, refl, sym, ap, subst, ◌∙◌, ℕ, ◌+◌, ◌<◌, ◌≤◌, ◌==◌, ◌&&◌, ◌||◌, List, [], ◌∷◌, ◌++◌, zero, suc, length, append-nil, arith, add-one, Bool, true, false}
use Rattle.std.specs.List.{range_with_len}
use Rattle.std.specs.Prelude.{Option, None, Some, filter, is_some, nat_eq, nat_le, nat_lt, slice_index_or, slice_set, if◌then◌else◌}
use Rattle.std.proofs.lemmas.Bool.{eq-eqb, eqb-true, leb-false, leb-true, le-ltb, lt-ltb, ltb-false, ltb-true}
use Rattle.std.proofs.lemmas.List.{get_or-set_other, get_or-set_same, length-set}
use Rattle.std.proofs.lemmas.List.Elements.{filter-append}
use Rattle.postscript_layout_write.specs.Coverages.{AreMarked, is_between}
use Rattle.postscript_layout_write.specs.First.{first_some, or_else}

some-or : {X : Type 0} (x y : Option X) → is_some (or_else x y) ≡ (is_some x || is_some y)
some-or None y = refl
some-or (Some x) y = refl

pub some-more : {X : Type 0} (f : ℕ → Option X) (i : ℕ) → is_some (first_some f (i + 1)) ≡ (is_some (first_some f i) || is_some (f i))
some-more f i = rw add-one (some-or (first_some f i) (f i))

some-if : {X : Type 0} (b : Bool) (x : X) → is_some (if b then Some x else None) ≡ b
some-if true x = refl
some-if false x = refl

or-true : (b : Bool) → (b || true) ≡ true
or-true true = refl
or-true false = refl

or-false : (b : Bool) → (b || false) ≡ b
or-false true = refl
or-false false = refl

not-eq : (a b : ℕ) → nat_eq a b ≡ false → a ≡ b → ⊥
not-eq a b never same = let yes = eq-eqb a b same in absurd (cc)

-- one mark more
pub set-mark : (marks : List Bool) (g x : ℕ) → g < length marks → slice_index_or (slice_set marks g true) x false ≡ (slice_index_or marks x false || (g == x))
set-mark marks g x less = by (nat_eq g x) refl
  where
    by : (t : Bool) → nat_eq g x ≡ t → slice_index_or (slice_set marks g true) x false ≡ (slice_index_or marks x false || t)
    by true e = subst (λ y. slice_index_or (slice_set marks g true) y false ≡ true) (eqb-true g x e) (get_or-set_same marks g true false less)
        ∙ sym (or-true (slice_index_or marks x false))
    by false e = get_or-set_other marks g x true false (λ same. (let yes = eq-eqb g x (sym same) in absurd (cc))) ∙ sym (or-false (slice_index_or marks x false))

pub mark-more : {X : Type 0} (f : ℕ → ℕ → Option X) (i g : ℕ) (marks : List Bool) → g < 65536 → ((x : ℕ) → is_some (f x i) ≡ (g == x)) →
    AreMarked (λ x. is_some (first_some (f x) i)) marks → AreMarked (λ x. is_some (first_some (f x) (i + 1))) (slice_set marks g true)
mark-more f i g marks small here are = record {
  many = length-set marks g true ∙ are.many;
  each = λ x less. set-mark marks g x (let many = are.many in omega (arith, many, small)) ∙ ap (λ b. b || (g == x)) (are.each x less)
      ∙ ap (λ b. is_some (first_some (f x) i) || b) (sym (here x)) ∙ sym (some-more (f x) i);
}

pub listed-here : (w g : ℕ) (i : ℕ) (x : ℕ) → g ≡ w → is_some (if w == x then Some i else None) ≡ (g == x)
listed-here w g i x same = some-if (w == x) i ∙ ap (λ n. n == x) (sym same)

-- ranges of glyphs
pub between-none : (first last x : ℕ) (b : Bool) → last < first → b ≡ (b || is_between first last x)
between-none first last x b less = by (nat_le first x) refl (nat_le x last) refl
  where
    by : (s : Bool) → nat_le first x ≡ s → (t : Bool) → nat_le x last ≡ t → b ≡ (b || (s && t))
    by true d true e = absurd (let above = leb-true first x d in let below = leb-true x last e in omega (arith, less, above, below))
    by true d false e = sym (or-false b)
    by false d t e = sym (or-false b)

pub between-end : (first last end x : ℕ) → end ≡ last + 1 → (nat_le first x && nat_lt x end) ≡ is_between first last x
between-end first last end x is = ap (λ b. nat_le first x && b) (by (nat_le x last) refl)
  where
    by : (t : Bool) → nat_le x last ≡ t → nat_lt x end ≡ t
    by true e = lt-ltb x end (let below = leb-true x last e in omega (arith, is, below))
    by false e = le-ltb x end (let above = leb-false x last e in omega (arith, is, above))

pub between-more : (first x g : ℕ) (b : Bool) → first ≤ g → ((b || (nat_le first x && nat_lt x g)) || (g == x)) ≡ (b || (nat_le first x && nat_lt x (g + 1)))
between-more first x g true low = refl
between-more first x g false low = by (nat_le first x) refl (nat_lt x g) refl (nat_eq g x) refl
  where
    by : (r : Bool) → nat_le first x ≡ r → (s : Bool) → nat_lt x g ≡ s → (t : Bool) → nat_eq g x ≡ t → ((r && s) || t) ≡ (r && nat_lt x (g + 1))
    by true d true e t f = sym (lt-ltb x (g + 1) (let less = ltb-true x g e in omega (arith, less)))
    by true d false e true f = sym (lt-ltb x (g + 1) (let same = eqb-true g x f in omega (arith, same)))
    by true d false e false f = sym (le-ltb x (g + 1) (let past = ltb-false x g e in let other = not-eq g x f in omega (arith, past, other)))
    by false d s e true f = absurd (let same = eqb-true g x f in let above = leb-false first x d in omega (arith, low, same, above))
    by false d s e false f = refl

-- the elements of a range that pass a test
count-more : (n : ℕ) → range_with_len 0 (n + 1) ≡ range_with_len 0 n ++ n ∷ []
count-more n = go 0 n n (omega arith)
  where
    last : (a n j : ℕ) → a + n ≡ j → range_with_len a (suc n) ≡ range_with_len a n ++ j ∷ []
    last a zero j e = let same : a ≡ j = omega (arith, e) in ap (λ k. k ∷ []) same
    last a (suc n) j e = ap (λ l. a ∷ l) (last (a + 1) n j (omega (arith, e)))

    go : (a n j : ℕ) → a + n ≡ j → range_with_len a (n + 1) ≡ range_with_len a n ++ j ∷ []
    go a n j e = ap (range_with_len a) (add-one n) ∙ last a n j e

pub filter-more : (p : ℕ → Bool) (n : ℕ) → filter p (range_with_len 0 (n + 1)) ≡ filter p (range_with_len 0 n) ++ (if p n then n ∷ [] else [])
filter-more p n = ap (filter p) (count-more n) ∙ filter-append p (range_with_len 0 n) (n ∷ [])

pub filter-same : (p q : ℕ → Bool) (n : ℕ) → ((k : ℕ) → k < n → p k ≡ q k) → filter p (range_with_len 0 n) ≡ filter q (range_with_len 0 n)
filter-same p q zero same = refl
filter-same p q (suc m) same =
    ap (λ k. filter p (range_with_len 0 k)) (sym (add-one m)) ∙ filter-more p m
    ∙ ap (λ xs. xs ++ (if p m then m ∷ [] else [])) (filter-same p q m (λ k less. same k (omega (arith, less))))
    ∙ ap (λ b. filter q (range_with_len 0 m) ++ (if b then m ∷ [] else [])) (same m (omega arith))
    ∙ sym (filter-more q m) ∙ ap (λ k. filter q (range_with_len 0 k)) (add-one m)

pub filter-skips : (p : ℕ → Bool) (n : ℕ) → p n ≡ false → filter p (range_with_len 0 (n + 1)) ≡ filter p (range_with_len 0 n)
filter-skips p n fails = filter-more p n ∙ ap (λ b. filter p (range_with_len 0 n) ++ (if b then n ∷ [] else [])) fails ∙ append-nil (filter p (range_with_len 0 n))
