-- Lists that grow.
use Rattle.std.proofs.Common.{◌≡◌, sym, subst, inl, inr, ℕ, ◌+◌, ◌<◌, List, [], ◌∷◌, ◌++◌, length, get_or, arith}
use Rattle.std.proofs.lemmas.List.{get_or_append_left, get_or_push}
use Rattle.postscript_layout_write.proofs.Firsts.{nat_cases}

-- one more element, with a property of each
pub push-each : {X : Type 0} (P : ℕ → X → Type 0) (xs : List X) (x d : X) (n : ℕ) → length xs ≡ n → ((j : ℕ) → j < n → P j (get_or xs j d)) → P n x →
    (j : ℕ) → j < n + 1 → P j (get_or (xs ++ x ∷ []) j d)
push-each P xs x d n many each here j less = elim (nat_cases j n) [
  | inl early ↦ subst (P j) (sym (get_or_append_left xs (x ∷ []) d j (omega (arith, many, early)))) (each j early)
  | inr late ↦ (let same : j ≡ n = omega (arith, less, late) in
      subst (P j) (sym (get_or_push xs x d j (omega (arith, many, same)))) (subst (λ k. P k x) (sym same) here))
]
