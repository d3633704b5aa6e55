-- Lists that grow by one at the end.
use Rattle.std.proofs.Common.{◌≡◌, refl, ap, sym, subst, ◌∙◌, ℕ, zero, suc, ◌+◌, ◌<◌, ◌⊎◌, inl, inr, ℤ, List, [], ◌∷◌, ◌++◌, length, length-append, Some, slice_get, Vec, arith}
use Rattle.std.specs.declared.alloc.Global.{Global}
use Rattle.postscript_variation.specs.Lent.{HasNoTable, scalar_at, table_count}
use Rattle.postscript_variation.specs.declared.store.Data.{Data}
use Rattle.postscript_variation.specs.declared.store.Store.{Store}
use Rattle.postscript_variable_font.specs.Places.{AreScalars, AreScalarsOf, AreTables, LacksData}

-- what stands there already stays, and the new one is the last
stays : {X : Type 0} (xs : List X) (x : X) (i : ℕ) → i < length xs → slice_get (xs ++ x ∷ []) i ≡ slice_get xs i
stays [] x i h = absurd (omega (arith, h))
stays (y ∷ ys) x zero h = refl
stays (y ∷ ys) x (suc i) h = stays ys x i (omega (arith, h))

last : {X : Type 0} (xs : List X) (x : X) → slice_get (xs ++ x ∷ []) (length xs) ≡ Some x
last [] x = refl
last (y ∷ ys) x = last ys x

either : (i n : ℕ) → i < n + 1 → (i < n) ⊎ (i ≡ n)
either i n h = grind (arith)

pub no_scalars : (table : Data) (coordinates : List ℤ) → AreScalars table coordinates 0 []
no_scalars table coordinates = record { counted = refl; each = λ j h. absurd (omega (arith, h)) }

pub one_scalar : (table : Data) (coordinates : List ℤ) (n : ℕ) (xs : List ℕ) (x : ℕ) → AreScalars table coordinates n xs →
    x ≡ scalar_at table coordinates n →
    AreScalars table coordinates (n + 1) (xs ++ x ∷ [])
one_scalar table coordinates n xs x are is =
    let many = are.counted in
    let long = length-append xs (x ∷ []) in
    let at_end : slice_get (xs ++ x ∷ []) n ≡ Some x = subst (λ k. slice_get (xs ++ x ∷ []) k ≡ Some x) many (last xs x) in
    record {
      counted = omega (arith, many, long);
      each = λ j h. elim (either j n h) [
        | inl less ↦ stays xs x j (omega (arith, less, many)) ∙ are.each j less
        | inr same ↦ ap (slice_get (xs ++ x ∷ [])) same ∙ at_end ∙ ap Some is ∙ ap (λ k. Some (scalar_at table coordinates k)) (sym same)
      ];
    }

pub no_tables : (store : Store) (coordinates : List ℤ) → AreTables store coordinates 0 []
no_tables store coordinates = record { counted = refl; each = λ j h. absurd (omega (arith, h)) }

pub one_table : (store : Store) (coordinates : List ℤ) (n : ℕ) (xs : List (Vec ℕ Global)) (x : Vec ℕ Global) →
    AreTables store coordinates n xs →
    AreScalarsOf store coordinates n x.items → AreTables store coordinates (n + 1) (xs ++ x ∷ [])
one_table store coordinates n xs x are is =
    let many = are.counted in
    let long = length-append xs (x ∷ []) in
    let at_end : slice_get (xs ++ x ∷ []) n ≡ Some x = subst (λ k. slice_get (xs ++ x ∷ []) k ≡ Some x) many (last xs x) in
    record {
      counted = omega (arith, many, long);
      each = λ j h. elim (either j n h) [
        | inl less ↦ let old = are.each j less in (old.0, stays xs x j (omega (arith, less, many)) ∙ old.1, old.2)
        | inr same ↦ (x, ap (slice_get (xs ++ x ∷ [])) same ∙ at_end, subst (λ k. AreScalarsOf store coordinates k x.items) (sym same) is)
      ];
    }

-- item variation data of which the first lack
pub lacking : (store : Store) (coordinates : List ℤ) (n : ℕ) (tables : List (Vec ℕ Global)) → AreTables store coordinates n tables →
    n < table_count store → HasNoTable store n →
    LacksData store n
lacking store coordinates n tables are there lacks = record {
  there = there;
  lacks = lacks;
  before = λ k less. let all = are.each k less in (all.2.table, all.2.stands);
}
