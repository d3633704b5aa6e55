-- New numbers of glyphs, listed one after the other.
use Rattle.std.proofs.Common.{inl, inr, refl, sym, ap, subst, ℕ, ◌+◌, ◌<◌, List, length, get_or, arith, get_or-set_other, get_or-set_same}
use Rattle.std.specs.Prelude.{slice_set}
use Rattle.std.proofs.lemmas.Bool.{cases_eq}
use Rattle.postscript_files.specs.Origins.{IsOrigin}
use Rattle.postscript_files.specs.Renumbered.{IsNumbered}

pub numbered-more : (origins numbers : List ℕ) (i : ℕ) → i < length origins → get_or origins i 0 < length numbers →
    ((k : ℕ) → k < i → IsNumbered origins numbers (get_or origins k 0)) →
    (k : ℕ) → k < i + 1 → IsNumbered origins (slice_set numbers (get_or origins i 0) i) (get_or origins k 0)
numbered-more origins numbers i there room before k below =
    let here : IsNumbered origins (slice_set numbers (get_or origins i 0) i) (get_or origins i 0) =
    let e = get_or-set_same numbers (get_or origins i 0) i 0 room in
    subst (λ n. IsOrigin origins n (get_or origins i 0)) (sym e) (record { there = there; is = refl }) in
    elim (cases_eq (get_or origins k 0) (get_or origins i 0)) [
      | inl same ↦ subst (IsNumbered origins (slice_set numbers (get_or origins i 0) i)) (sym same) here
      | inr other ↦ elim (cases_eq k i) [
        | inl equal ↦ absurd (other (ap (λ j. get_or origins j 0) equal))
        | inr apart ↦
            let e = get_or-set_other numbers (get_or origins i 0) (get_or origins k 0) i 0 other in
            subst (λ n. IsOrigin origins n (get_or origins k 0)) (sym e) (before k (omega (arith, below, apart)))
      ]
    ]
