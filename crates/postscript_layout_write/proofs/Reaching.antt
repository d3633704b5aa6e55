-- Lists of lookups that grow.
use Rattle.std.proofs.Common.{◌≡◌, refl, sym, ap, subst, ◌∙◌, inl, inr, ℕ, zero, suc, ◌+◌, ◌≤◌, ◌<◌, ◌==◌, ◌||◌, List, [], ◌∷◌, ◌++◌, length, get_or, take, arith, Bool, true, false}
use Rattle.std.specs.Prelude.{◌⊎◌, nat_eq, slice_set}
use Rattle.std.specs.List.{Contains}
use Rattle.std.proofs.lemmas.Bool.{eq-eqb, eqb-true}
use Rattle.std.proofs.lemmas.List.{get_or_append_left, take_more}
use Rattle.std.proofs.lemmas.List.Elements.{All-contains, All-contains_itself, All-weaker, Contains-append_cases, Contains-append_left, Contains-get_or, Contains-push}
use Rattle.postscript_layout_write.specs.Calls.{Calls}
use Rattle.postscript_layout_write.specs.Reaching.{AddsOnly, AreFollowed, AreNoted, IsFollowed}
use Rattle.postscript_layout_write.specs.RuleSets.{Begins}
use Rattle.postscript_layout_write.specs.Substituting.{is_chosen}
use Rattle.postscript_layout_write.proofs.ContextCollecting.{begins-same, begins-trans}
use Rattle.postscript_layout_write.proofs.Covering.{set-mark}
use Rattle.postscript_layout_write.proofs.Firsts.{nat_cases}
use Rattle.postscript_layout_write.proofs.Reading.{any-default}

pub begins-has : (old new : List ℕ) (m : ℕ) → Begins old new → Contains old m → Contains new m
begins-has old new m b there = subst (λ (xs : List ℕ). Contains xs m) (sym b.is) (Contains-append_left old b.more m there)

pub adds-none : (P : ℕ → Type 0) (old : List ℕ) → ((m : ℕ) → P m → Contains old m) → AddsOnly P old old
adds-none P old there = record { begins = begins-same old; there = there; only = λ m is. inl is }

pub adds-so : (P Q : ℕ → Type 0) (old new : List ℕ) → ((m : ℕ) → P m → Q m) → ((m : ℕ) → Q m → P m) → AddsOnly P old new → AddsOnly Q old new
adds-so P Q old new pq qp a = record {
  begins = a.begins;
  there = λ m q. a.there m (qp m q);
  only = λ m is. elim (a.only m is) [
    | inl was ↦ inl was
    | inr p ↦ inr (pq m p)
  ];
}

pub adds-more : (P Q : ℕ → Type 0) (a b c : List ℕ) → AddsOnly P a b → AddsOnly Q b c → AddsOnly (λ m. P m ⊎ Q m) a c
adds-more P Q a b c x y = record {
  begins = begins-trans a b c x.begins y.begins;
  there = λ m either. elim either [
    | inl p ↦ begins-has b c m y.begins (x.there m p)
    | inr q ↦ y.there m q
  ];
  only = λ m is. elim (y.only m is) [
    | inl was ↦ elim (x.only m was) [
      | inl old ↦ inl old
      | inr p ↦ inr (inl p)
    ]
    | inr q ↦ inr (inr q)
  ];
}

-- one number more of those below a count
pub below-step : (P : ℕ → ℕ → Type 0) (k : ℕ) (a b c : List ℕ) → AddsOnly (λ m. (r : ℕ) × (r < k) × P r m) a b → AddsOnly (P k) b c →
    AddsOnly (λ m. (r : ℕ) × (r < k + 1) × P r m) a c
below-step P k a b c x y = adds-so (λ m. ((r : ℕ) × (r < k) × P r m) ⊎ P k m) (λ m. (r : ℕ) × (r < k + 1) × P r m) a c
    (λ m either. elim either [
      | inl early ↦ (early.0, (let less = early.1 in omega (arith, less)), early.2)
      | inr now ↦ (k, omega arith, now)
    ])
    (λ m one. elim (nat_cases one.0 k) [
      | inl early ↦ inl (one.0, early, one.2)
      | inr late ↦ (let less = one.1 in let same : one.0 ≡ k = omega (arith, less, late) in inr (subst (λ i. P i m) same one.2))
    ])
    (adds-more (λ m. (r : ℕ) × (r < k) × P r m) (P k) a b c x y)

pub below-none : (P : ℕ → ℕ → Type 0) (a : List ℕ) → AddsOnly (λ m. (r : ℕ) × (r < 0) × P r m) a a
below-none P a = adds-none (λ m. (r : ℕ) × (r < 0) × P r m) a (λ m one. (let less = one.1 in absurd (omega (arith, less))))

-- one item more of a list
take-cases : (xs : List ℕ) (k m : ℕ) → k < length xs → Contains (take (k + 1) xs) m → Contains (take k xs) m ⊎ (m ≡ get_or xs k 0)
take-cases xs k m less there =
    elim (Contains-append_cases (take k xs) (get_or xs k 0 ∷ []) m (subst (λ (ys : List ℕ). Contains ys m) (take_more xs k 0 less) there)) [
      | inl early ↦ inl early
      | inr now ↦ inr (one now)
    ]
  where
    one : Contains (get_or xs k 0 ∷ []) m → m ≡ get_or xs k 0
    one (zero, within, is) = sym is
    one (suc i, within, is) = absurd (omega (arith, within))

pub take-step : (xs : List ℕ) (k : ℕ) (a b c : List ℕ) → k < length xs → AddsOnly (λ m. Contains (take k xs) m) a b → AddsOnly (λ m. m ≡ get_or xs k 0) b c →
    AddsOnly (λ m. Contains (take (k + 1) xs) m) a c
take-step xs k a b c less x y = adds-so (λ m. Contains (take k xs) m ⊎ (m ≡ get_or xs k 0)) (λ m. Contains (take (k + 1) xs) m) a c
    (λ m either. subst (λ (ys : List ℕ). Contains ys m) (sym (take_more xs k 0 less)) (elim either [
      | inl early ↦ Contains-append_left (take k xs) (get_or xs k 0 ∷ []) m early
      | inr now ↦ subst (λ n. Contains (take k xs ++ get_or xs k 0 ∷ []) n) (sym now) (Contains-push (take k xs) (get_or xs k 0))
    ]))
    (λ m there. take-cases xs k m less there)
    (adds-more (λ m. Contains (take k xs) m) (λ m. m ≡ get_or xs k 0) a b c x y)

-- lookups that are noted
chosen-more : (xs : List ℕ) (x m : ℕ) → is_chosen (xs ++ x ∷ []) m ≡ (is_chosen xs m || (x == m))
chosen-more [] x m = by (nat_eq x m)
  where
    by : (b : Bool) → (b || false) ≡ b
    by true = refl
    by false = refl
chosen-more (y ∷ xs) x m = ap (λ b. (y == m) || b) (chosen-more xs x m) ∙ by (nat_eq y m)
  where
    by : (b : Bool) → (b || (is_chosen xs m || (x == m))) ≡ ((b || is_chosen xs m) || (x == m))
    by true = refl
    by false = refl

pub chosen-there : (xs : List ℕ) (m : ℕ) → is_chosen xs m ≡ true → Contains xs m
chosen-there [] m is = absurd (cc)
chosen-there (x ∷ xs) m is = by (nat_eq x m) refl is (chosen-there xs m)
  where
    by : (b : Bool) → nat_eq x m ≡ b → (b || is_chosen xs m) ≡ true → (is_chosen xs m ≡ true → Contains xs m) → Contains (x ∷ xs) m
    by true same h more = (0, omega arith, eqb-true x m same)
    by false other h more = (let rest = more h in let within = rest.1 in (suc rest.0, omega (arith, within), rest.2))

pub there-chosen : (xs : List ℕ) (m k : ℕ) → k < length xs → get_or xs k 0 ≡ m → is_chosen xs m ≡ true
there-chosen [] m k less is = absurd (omega (arith, less))
there-chosen (x ∷ xs) m zero less is = ap (λ b. b || is_chosen xs m) (eq-eqb x m is)
there-chosen (x ∷ xs) m (suc k) less is = ap (λ b. (x == m) || b) (there-chosen xs m k (omega (arith, less)) is) ∙ by (nat_eq x m)
  where
    by : (b : Bool) → (b || true) ≡ true
    by true = refl
    by false = refl

pub noted-more : (marks : List Bool) (xs : List ℕ) (x : ℕ) → x < length marks → AreNoted marks xs → AreNoted (slice_set marks x true) (xs ++ x ∷ [])
noted-more marks xs x less noted m = set-mark marks x m less ∙ ap (λ b. b || (x == m)) (noted m) ∙ sym (chosen-more xs x m)

-- lookups whose calls were followed
pub followed-none : (gsub kept given : List ℕ) → IsFollowed gsub kept given 0 given
followed-none gsub kept given = record {
  begins = begins-same given;
  called = λ k m less calls. absurd (omega (arith, less));
  least = λ other closed holds. holds;
}

pub followed-more : (gsub kept given : List ℕ) (k : ℕ) (old new : List ℕ) → k < length old → AddsOnly (Calls gsub kept (get_or old k 0)) old new →
    IsFollowed gsub kept given k old → IsFollowed gsub kept given (k + 1) new
followed-more gsub kept given k old new less a f = record {
  begins = begins-trans given old new f.begins a.begins;
  called = λ n m below calls. elim (nat_cases n k) [
    | inl early ↦ begins-has old new m a.begins (f.called n m early (subst (λ i. Calls gsub kept i m) (same n (omega (arith, early, less))) calls))
    | inr late ↦ (let this : n ≡ k = omega (arith, below, late) in
        a.there m (subst (λ i. Calls gsub kept i m) (same n (omega (arith, this, less)) ∙ ap (λ i. get_or old i 0) this) calls))
  ];
  least = λ other closed holds.
      let were = f.least other closed holds in
      All-weaker (Contains new) (Contains other) (λ i there. elim (a.only i there) [
        | inl was ↦ All-contains (Contains other) old i were was
        | inr calls ↦ closed (get_or old k 0) i (All-contains (Contains other) old (get_or old k 0) were (Contains-get_or old k 0 less)) calls
      ]) new (All-contains_itself new);
}
  where
    same : (n : ℕ) → n < length old → get_or new n 0 ≡ get_or old n 0
    same n within = ap (λ (xs : List ℕ). get_or xs n 0) a.begins.is ∙ get_or_append_left old a.begins.more 0 n within

pub followed-all : (gsub kept given : List ℕ) (k : ℕ) (all : List ℕ) → length all ≤ k → IsFollowed gsub kept given k all → AreFollowed gsub kept given all
followed-all gsub kept given k all past f = record {
  begins = f.begins;
  called = λ i m there calls. (let within = there.1 in
      f.called there.0 m (omega (arith, within, past))
      (subst (λ n. Calls gsub kept n m) (sym (any-default all there.0 0 i there.1 ∙ there.2)) calls));
  least = f.least;
}
