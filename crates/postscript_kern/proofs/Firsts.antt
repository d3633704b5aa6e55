-- The first of several values that may be missing.
use Rattle.std.proofs.Common.{◌≡◌, refl, subst, ap, ◌∙◌, inl, inr, ℕ, zero, suc, ◌+◌, ◌<◌, ◌≤◌, arith, add-one, Bool, true, false}
use Rattle.std.specs.Prelude.{Option, None, Some, ◌⊎◌, nat_lt}
use Rattle.std.proofs.lemmas.Bool.{ltb-true, ltb-false}
use Rattle.postscript_kern.specs.First.{first_some, or_else}

pub nat_cases : (a b : ℕ) → (a < b) ⊎ (b ≤ a)
nat_cases a b = by (nat_lt a b) refl
  where
    by : (t : Bool) → nat_lt a b ≡ t → (a < b) ⊎ (b ≤ a)
    by true e = inl (ltb-true a b e)
    by false e = inr (ltb-false a b e)

pub option_cases : {X : Type 0} (x : Option X) → (x ≡ None) ⊎ ((y : X) × (x ≡ Some y))
option_cases None = inl refl
option_cases (Some y) = inr (y, refl)

pub first-more : {X : Type 0} (f : ℕ → Option X) (i : ℕ) → first_some f (i + 1) ≡ or_else (first_some f i) (f i)
first-more f i = rw add-one refl

pub first-none-more : {X : Type 0} (f : ℕ → Option X) (i : ℕ) → first_some f i ≡ None → f i ≡ None → first_some f (i + 1) ≡ None
first-none-more f i before here = first-more f i ∙ ap (λ x. or_else x (f i)) before ∙ here

pub first-found : {X : Type 0} (f : ℕ → Option X) (i n : ℕ) (x : X) → first_some f i ≡ None → f i ≡ Some x → i < n → first_some f n ≡ Some x
first-found f i zero x before here less = absurd (omega (arith, less))
first-found f i (suc m) x before here less = elim (nat_cases i m) [
  | inl early ↦ ap (λ y. or_else y (f m)) (first-found f i m x before here early)
  | inr late ↦ (let same : i ≡ m = omega (arith, less, late) in
      ap (λ y. or_else y (f m)) (subst (λ k. first_some f k ≡ None) same before) ∙ subst (λ k. f k ≡ Some x) same here)
]

pub first-none : {X : Type 0} (f : ℕ → Option X) (n : ℕ) → ((k : ℕ) → k < n → f k ≡ None) → first_some f n ≡ None
first-none f zero none = refl
first-none f (suc m) none = ap (λ y. or_else y (f m)) (first-none f m (λ k less. none k (omega (arith, less)))) ∙ none m (omega arith)

-- either no value is there, or the first one that is
pub data Found {X : Type 0} (f : ℕ → Option X) (n : ℕ) : Option X → Type 0 where
  none_found : ((k : ℕ) → k < n → f k ≡ None) → Found f n None
  some_found : (i : ℕ) (x : X) → i < n → f i ≡ Some x → Found f n (Some x)

pub first-cases : {X : Type 0} (f : ℕ → Option X) (n : ℕ) → Found f n (first_some f n)
first-cases f zero = none_found (λ k less. absurd (omega (arith, less)))
first-cases f (suc m) = more (first_some f m) (first-cases f m) (f m) refl
  where
    more : (x : Option _) → Found f m x → (y : Option _) → f m ≡ y → Found f (suc m) (or_else x y)
    more _ (none_found none) None e = none_found (λ k less. elim (nat_cases k m) [
      | inl early ↦ none k early
      | inr late ↦ (let same : m ≡ k = omega (arith, less, late) in subst (λ j. f j ≡ None) same e)
    ])
    more _ (none_found none) (Some y) e = some_found m y (omega arith) e
    more _ (some_found i x less is) y e = some_found i x (omega (arith, less)) is

-- the same values have the same first one
pub first-same : {X : Type 0} (f g : ℕ → Option X) (n : ℕ) → ((k : ℕ) → k < n → f k ≡ g k) → first_some f n ≡ first_some g n
first-same f g zero same = refl
first-same f g (suc m) same = ap (λ x. or_else x (f m)) (first-same f g m (λ k less. same k (omega (arith, less))))
    ∙ ap (λ y. or_else (first_some g m) y) (same m (omega arith))
