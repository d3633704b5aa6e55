-- Clones of lists.
use Rattle.std.proofs.Common.{◌≡◌, refl, ℕ, List, [], ◌∷◌, map, Vec, Global, vec_len}
use Rattle.std.specs.List.{AllZip, each_same}

-- what is seen of the clones is what is seen of what they are clones of
pub same_seen : {A B : Type 0} (seen : A → B) (xs ys : List A) → AllZip (λ x y. seen y ≡ seen x) xs ys → map seen ys ≡ map seen xs
same_seen seen [] [] h = refl
same_seen seen [] (y ∷ ys) h = absurd h
same_seen seen (x ∷ xs) [] h = absurd h
same_seen seen (x ∷ xs) (y ∷ ys) h = let rest = same_seen seen xs ys h.1 in rw (h.0, rest) refl

-- the clones have the bytes of what they are clones of
pub same_bytes : (xs ys : List (Vec ℕ Global)) → AllZip (λ v w. AllZip (λ x y. y ≡ x) v.items w.items × (vec_len w ≡ vec_len v)) xs ys →
    map (λ v. v.items) ys ≡ map (λ v. v.items) xs
same_bytes [] [] h = refl
same_bytes [] (y ∷ ys) h = absurd h
same_bytes (x ∷ xs) [] h = absurd h
same_bytes (x ∷ xs) (y ∷ ys) h = let first = each_same x.items y.items h.0.0 in let rest = same_bytes xs ys h.1 in rw (first, rest) refl
