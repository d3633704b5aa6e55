-- What the tests on lists of characters say.
use Rattle.std.proofs.Common.{◌≡◌, refl, sym, ap, subst, ◌∙◌, ◌⊎◌, inl, inr, ℕ, zero, suc, ◌<◌, ◌≤◌, List, [], ◌∷◌, ◌++◌, Bool, true, false, length, get_or, arith, Result, Ok, Err, MatchResult}
use Rattle.std.specs.Prelude.{◌&&◌, ◌||◌, is_ok, nat_eq, flat_map, cond}
use Rattle.std.specs.List.{All, Contains, filter, list_all, list_any}
use Rattle.std.proofs.lemmas.Bool.{eq-eqb, eqb-true, false≢true}
use Rattle.std.proofs.lemmas.List.{get_or_default}
use Rattle.std.proofs.lemmas.List.Elements.{All-nil, All-cons, Contains-append_left, Contains-append_right, Contains-append_cases}
use Rattle.std.proofs.lemmas.List.Folds.{Any-from_list_any, list_any-from_Any}
use Rattle.postscript_shaping.specs.Computing.{has, is_some}

pub or-cases : (a b : Bool) → (a || b) ≡ true → (a ≡ true) ⊎ (b ≡ true)
or-cases true b h = inl refl
or-cases false b h = inr h

pub and-both : (a b : Bool) → (a && b) ≡ true → (a ≡ true) × (b ≡ true)
and-both true b h = (refl, h)
and-both false b h = absurd (false≢true h)

pub both-and : (a b : Bool) → a ≡ true → b ≡ true → (a && b) ≡ true
both-and true b p q = q
both-and false b p q = absurd (false≢true p)

pub left-or : (a b : Bool) → a ≡ true → (a || b) ≡ true
left-or true b p = refl
left-or false b p = absurd (false≢true p)

pub right-or : (a b : Bool) → b ≡ true → (a || b) ≡ true
right-or true b p = refl
right-or false b p = p

pub never-true : (b : Bool) → (b ≡ true → ⊥) → b ≡ false
never-true true h = absurd (h refl)
never-true false h = refl

pub there-any : (p : ℕ → Bool) (xs : List ℕ) (x : ℕ) → Contains xs x → p x ≡ true → list_any p xs ≡ true
there-any p xs x h t = list_any-from_Any p xs (h.0, x, h.1, h.2, t)

pub any-there : (p : ℕ → Bool) (xs : List ℕ) → list_any p xs ≡ true → (x : ℕ) × Contains xs x × (p x ≡ true)
any-there p xs h = let w = Any-from_list_any p xs h in (w.1, (w.0, w.2, w.3), w.4)

pub has-there : (xs : List ℕ) (char : ℕ) → has xs char ≡ true → Contains xs char
has-there xs char h =
    let w = any-there (λ y. nat_eq y char) xs h in
    subst (λ z. Contains xs z) (eqb-true w.0 char w.2) w.1

pub there-has : (xs : List ℕ) (char : ℕ) → Contains xs char → has xs char ≡ true
there-has xs char h = there-any (λ y. nat_eq y char) xs char h (eq-eqb char char refl)

pub all-there : (p : ℕ → Bool) (P : ℕ → Type 0) → ((x : ℕ) → p x ≡ true → P x) → (xs : List ℕ) → list_all p xs ≡ true → All P xs
all-there p P each [] h = All-nil P
all-there p P each (x ∷ xs) h =
    let both = and-both (p x) (list_all p xs) h in
    All-cons P x xs (each x both.0) (all-there p P each xs both.1)

pub there-all : (p : ℕ → Bool) (P : ℕ → Type 0) → ((x : ℕ) → P x → p x ≡ true) → (xs : List ℕ) → All P xs → list_all p xs ≡ true
there-all p P each [] h = refl
there-all p P each (x ∷ xs) h =
    both-and (p x) (list_all p xs) (each x (h 0 x (omega arith))) (there-all p P each xs (λ k d less. h (suc k) d (omega (arith, less))))

pub some-not : (xs : List ℕ) → is_some xs ≡ true → xs ≡ [] → ⊥
some-not xs h e = false≢true (sym (ap is_some e) ∙ h)

pub not-some : (xs : List ℕ) → (xs ≡ [] → ⊥) → is_some xs ≡ true
not-some [] h = absurd (h refl)
not-some (x ∷ xs) h = refl

pub some-there : (xs : List ℕ) → is_some xs ≡ true → (x : ℕ) × Contains xs x
some-there [] h = absurd (false≢true h)
some-there (x ∷ xs) h = (x, (0, omega arith, refl))

pub there-some : (xs : List ℕ) (x : ℕ) → Contains xs x → is_some xs ≡ true
there-some [] x h = let w = h.1 in absurd (omega (arith, w))
there-some (y ∷ ys) x h = refl

cons-cases : (y : ℕ) (ys : List ℕ) (x : ℕ) → Contains (y ∷ ys) x → (y ≡ x) ⊎ Contains ys x
cons-cases y ys x (zero, less, is) = inl is
cons-cases y ys x (suc k, less, is) = inr (k, omega (arith, less), is)

cons-first : (y : ℕ) (ys : List ℕ) (x : ℕ) → y ≡ x → Contains (y ∷ ys) x
cons-first y ys x is = (0, omega arith, is)

cons-later : (y : ℕ) (ys : List ℕ) (x : ℕ) → Contains ys x → Contains (y ∷ ys) x
cons-later y ys x h = (suc h.0, let w = h.1 in omega (arith, w), h.2)

none-there : (x : ℕ) → Contains [] x → ⊥
none-there x h = let w = h.1 in absurd (omega (arith, w))

kept-first : (b : Bool) (y : ℕ) (ys : List ℕ) (x : ℕ) → b ≡ true → y ≡ x → Contains (cond b (y ∷ ys) ys) x
kept-first true y ys x t is = cons-first y ys x is
kept-first false y ys x t is = absurd (false≢true t)

kept-later : (b : Bool) (y : ℕ) (ys : List ℕ) (x : ℕ) → Contains ys x → Contains (cond b (y ∷ ys) ys) x
kept-later true y ys x h = cons-later y ys x h
kept-later false y ys x h = h

kept-cases : (b : Bool) (y : ℕ) (ys : List ℕ) (x : ℕ) → Contains (cond b (y ∷ ys) ys) x → ((b ≡ true) × (y ≡ x)) ⊎ Contains ys x
kept-cases true y ys x h = elim (cons-cases y ys x h) [
  | inl is ↦ inl (refl, is)
  | inr later ↦ inr later
]
kept-cases false y ys x h = inr h

pub there-filter : (f : ℕ → Bool) (xs : List ℕ) (x : ℕ) → Contains xs x → f x ≡ true → Contains (filter f xs) x
there-filter f [] x h t = absurd (none-there x h)
there-filter f (y ∷ ys) x h t = elim (cons-cases y ys x h) [
  | inl is ↦ kept-first (f y) y (filter f ys) x (ap f is ∙ t) is
  | inr later ↦ kept-later (f y) y (filter f ys) x (there-filter f ys x later t)
]

pub filter-there : (f : ℕ → Bool) (xs : List ℕ) (x : ℕ) → Contains (filter f xs) x → Contains xs x × (f x ≡ true)
filter-there f [] x h = absurd (none-there x h)
filter-there f (y ∷ ys) x h = elim (kept-cases (f y) y (filter f ys) x h) [
  | inl here ↦ (cons-first y ys x here.1, sym (ap f here.1) ∙ here.0)
  | inr later ↦ let w = filter-there f ys x later in (cons-later y ys x w.0, w.1)
]

pub there-flat : (f : ℕ → List ℕ) (xs : List ℕ) (x y : ℕ) → Contains xs x → Contains (f x) y → Contains (flat_map f xs) y
there-flat f [] x y h t = absurd (none-there x h)
there-flat f (z ∷ zs) x y h t = elim (cons-cases z zs x h) [
  | inl is ↦ Contains-append_left (f z) (flat_map f zs) y (subst (λ w. Contains (f w) y) (sym is) t)
  | inr later ↦ Contains-append_right (f z) (flat_map f zs) y (there-flat f zs x y later t)
]

pub flat-there : (f : ℕ → List ℕ) (xs : List ℕ) (y : ℕ) → Contains (flat_map f xs) y → (x : ℕ) × Contains xs x × Contains (f x) y
flat-there f [] y h = absurd (none-there y h)
flat-there f (z ∷ zs) y h = elim (Contains-append_cases (f z) (flat_map f zs) y h) [
  | inl here ↦ (z, cons-first z zs z refl, here)
  | inr later ↦ let w = flat-there f zs y later in (w.0, cons-later z zs w.0 w.1, w.2)
]

split : (k i : ℕ) → (k < i) ⊎ (i ≤ k)
split zero zero = inr (omega arith)
split zero (suc i) = inl (omega arith)
split (suc k) zero = inr (omega arith)
split (suc k) (suc i) = elim (split k i) [
  | inl less ↦ inl (omega (arith, less))
  | inr more ↦ inr (omega (arith, more))
]

-- what a search by halves finds
pub searched-has : (xs : List ℕ) (char : ℕ) (r : Result ℕ ℕ) → MatchResult r (λ i. (i < length xs) × (get_or xs i 0 ≡ char))
    (λ i. (i ≤ length xs) × ((k : ℕ) → k < i → get_or xs k 0 < char) × ((k : ℕ) → i ≤ k → k < length xs → char < get_or xs k 0)) →
    is_ok r ≡ has xs char
searched-has xs char (Ok i) h = sym (there-has xs char (i, h.0, get_or_default xs i char 0 h.0 ∙ h.1))
searched-has xs char (Err i) h = sym (never-true (has xs char) (λ t. let w = has-there xs char t in
    let is : get_or xs w.0 0 ≡ char = sym (get_or_default xs w.0 char 0 w.1) ∙ w.2 in
    let below = h.1 w.0 in let above = λ (le : i ≤ w.0). h.2 w.0 le w.1 in
    elim (split w.0 i) [
      | inl less ↦ let a = below less in absurd (omega (arith, a, is))
      | inr more ↦ let a = above more in absurd (omega (arith, a, is))
    ]))
