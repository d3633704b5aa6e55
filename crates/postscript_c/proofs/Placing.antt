-- Coordinates of one axis after the other.
use Rattle.std.proofs.Common.{◌≡◌, refl, ap, sym, subst, ◌∙◌, ℕ, zero, suc, ◌+◌, ◌<◌, ◌⊎◌, inl, inr, ℤ, List, [], ◌∷◌, ◌++◌, length, length-append, Option, Some, slice_get, arith}
use Rattle.postscript_c.specs.Placed.{AreAlong, coordinate_of}
use Rattle.postscript_variation.specs.declared.axes.Axes.{Axes}
use Rattle.postscript_variation.specs.declared.maps.Maps.{Maps}

pub stays : {X : Type 0} (xs : List X) (x : X) (i : ℕ) → i < length xs → slice_get (xs ++ x ∷ []) i ≡ slice_get xs i
stays [] x i h = absurd (omega (arith, h))
stays (y ∷ ys) x zero h = refl
stays (y ∷ ys) x (suc i) h = stays ys x i (omega (arith, h))

pub last : {X : Type 0} (xs : List X) (x : X) → slice_get (xs ++ x ∷ []) (length xs) ≡ Some x
last [] x = refl
last (y ∷ ys) x = last ys x

pub either : (i n : ℕ) → i < n + 1 → (i < n) ⊎ (i ≡ n)
either i n h = grind (arith)

-- A list that tells what a function tells of each number below a bound, and one more.
pub added : {X : Type 0} (f : ℕ → X) (n : ℕ) (xs : List X) (x : X) → length xs ≡ n → ((i : ℕ) → i < n → slice_get xs i ≡ Some (f i)) →
    x ≡ f n →
    (length (xs ++ x ∷ []) ≡ n + 1) × ((i : ℕ) → i < n + 1 → slice_get (xs ++ x ∷ []) i ≡ Some (f i))
added f n xs x many each is =
    let long = length-append xs (x ∷ []) in
    let at_end : slice_get (xs ++ x ∷ []) n ≡ Some x = subst (λ k. slice_get (xs ++ x ∷ []) k ≡ Some x) many (last xs x) in (
      omega (arith, many, long),
      λ i h. elim (either i n h) [
        | inl less ↦ stays xs x i (omega (arith, less, many)) ∙ each i less
        | inr same ↦ ap (slice_get (xs ++ x ∷ [])) same ∙ at_end ∙ ap Some is ∙ ap (λ k. Some (f k)) (sym same)
      ],
    )

pub no_axes : (axes : Axes) (maps : Option Maps) (values : List ℤ) → AreAlong axes maps values 0 []
no_axes axes maps values = record { counted = refl; each = λ i h. absurd (omega (arith, h)) }

pub one_axis : (axes : Axes) (maps : Option Maps) (values : List ℤ) (n : ℕ) (xs : List ℤ) (x : ℤ) → AreAlong axes maps values n xs →
    x ≡ coordinate_of axes maps values n →
    AreAlong axes maps values (n + 1) (xs ++ x ∷ [])
one_axis axes maps values n xs x are is =
    let both = added (coordinate_of axes maps values) n xs x are.counted are.each is in
    record { counted = both.0; each = both.1 }
