-- What tests tell.
use Rattle.std.proofs.Common.{◌≡◌, ℕ, ◌<◌, ℤ, ◌<ℤ◌, ◌≤ℤ◌, Bool, true, false, refl, arith}
use Rattle.std.proofs.lemmas.Bool.{both_ways}
use Rattle.std.proofs.lemmas.Int.{ints}
use Rattle.std.specs.Ordering.{int_eq}
use Rattle.std.specs.Prelude.{◌&&◌, ◌==◌, nat_lt, int_lt, if◌then◌else◌}

-- ---- coordinates

pub below : (a b : ℤ) → a <ℤ b → int_lt a b ≡ true
below a b h = grind (arith, ints)

pub not_below : (a b : ℤ) → b ≤ℤ a → int_lt a b ≡ false
not_below a b h = grind (arith, ints)

pub same : (a b : ℤ) → a ≡ b → int_eq a b ≡ true
same a b h = grind (arith, ints)

pub not_same : (a b : ℤ) → (a ≡ b → ⊥) → int_eq a b ≡ false
not_same a b h = grind (arith, ints)

pub equal : (a b : ℤ) → int_eq a b ≡ true → a ≡ b
equal a b h = grind (arith, ints)

-- ---- numbers

pub less : (i count : ℕ) → i < count → nat_lt i count ≡ true
less i count h = grind arith

pub is_less : (i count : ℕ) → nat_lt i count ≡ true → i < count
is_less i count h = grind arith

pub not_last : (i count : ℕ) → i < count → (i == count) ≡ false
not_last i count h = grind arith

-- ---- both of two, and one of two

pub split : (a b : Bool) → (a && b) ≡ true → (a ≡ true) × (b ≡ true)
split true b h = (refl, h)
split false b h = absurd (both_ways false refl h)

pub by_test : {P : Type 0} (b : Bool) → (b ≡ true → P) → (b ≡ false → P) → P
by_test true f g = f refl
by_test false f g = g refl

pub chosen : {A : Type 0} (b : Bool) (x y : A) → (b ≡ true → x ≡ y) → (if b then x else y) ≡ y
chosen true x y h = h refl
chosen false x y h = refl
