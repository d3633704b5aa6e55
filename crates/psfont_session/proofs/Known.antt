-- Words that are known.
use Rattle.std.proofs.Common.{◌≡◌, refl, ℕ, List, [], ◌∷◌, ◌≤◌, ◌<◌, length, slice_index_or, arith}

-- a list of two is its two items
pub of_two : {A : Type 0} (items : List A) (first second : A) → 2 ≤ length items → length items < 3 →
    first ≡ slice_index_or items 0 first → second ≡ slice_index_or items 1 second → items ≡ first ∷ second ∷ []
of_two [] a b least below first second = grind (arith, least)
of_two (x ∷ []) a b least below first second = grind (arith, least)
of_two (x ∷ y ∷ []) a b least below first second = rw (first, second) refl
of_two (x ∷ y ∷ z ∷ items) a b least below first second = grind (arith, below)
