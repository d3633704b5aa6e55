-- How far sums of deltas are from the exact ones.
use Rattle.std.proofs.Common.{◌≡◌, ◌⊎◌, inl, inr, ℕ, zero, suc, ◌+◌, ◌*◌, ◌<◌, ◌≤◌, ℤ, pos, negsuc, neg_ℤ, ◌+ℤ◌, ◌*ℤ◌, ◌≤ℤ◌, List, sym, subst, nat_lt, if◌then◌else◌, arith}
use Rattle.std.proofs.lemmas.Bool.Decides.{nat_tests}
use Rattle.std.proofs.lemmas.Int.{ints}
use Rattle.std.proofs.lemmas.Nat.{mul-le}
use Rattle.std.proofs.Math.Nat.{mul-le-mul_right, mul-pos}
use Rattle.std.specs.Int.{int_div_euclid}
use Rattle.std.specs.Prelude.{unsigned_abs}
use Rattle.postscript_variation.specs.Lent.{delta_count, region_of, scalar_at}
use Rattle.postscript_variation.specs.LentAdvances.{in_whole}
use Rattle.postscript_variation.specs.LentDeltas.{item_place, share_of, sum_by}
use Rattle.postscript_variation.specs.ScalarLaws.{IsWithinHalves}
use Rattle.postscript_variation.specs.SumLaws.{ExactVariationsAre, IsExactScalar, IsExactVariation, IsNear, IsNearestWhole, IsWithin, SumsAreNear, VariationsAreNear, WholesAreNear, WholesAreNearest, delta_of}
use Rattle.postscript_variation.specs.SumLaws.IsExactScalar.{of_region, of_none as of_no_region}
use Rattle.postscript_variation.specs.SumLaws.IsExactVariation.{of_none, by_delta}
use Rattle.postscript_variation.specs.declared.store.Data.{Data}
use Rattle.postscript_variation.proofs.Fractions.{above, associate, below, distribute, opposite, times}
use Rattle.postscript_variation.proofs.NearScalars as regions

-- ---- one region

listed : (region count s : ℕ) → region < count → (if nat_lt region count then s else 0) ≡ s
listed region count s h = grind (arith, nat_tests)

unlisted : (region count s : ℕ) → count ≤ region → (if nat_lt region count then s else 0) ≡ 0
unlisted region count s h = grind (arith, nat_tests)

pub scalar_near : (table : Data) (coordinates : List ℤ) (j part whole rounded : ℕ) → IsExactScalar table coordinates j part whole rounded
    → IsWithinHalves (scalar_at table coordinates j) part whole rounded
scalar_near table coordinates j part whole rounded (of_region _ _ _ there is) =
    subst (λ s. IsWithinHalves s part whole rounded) (sym (listed (region_of table j) table.regions.count _ there))
    (regions.near _ _ _ _ _ _ part whole rounded is)
scalar_near table coordinates j _ _ _ (of_no_region past) =
    subst (λ s. IsWithinHalves s 0 1 0) (sym (unlisted (region_of table j) table.regions.count _ past))
    (record { some = omega arith; above = omega arith; below = omega arith })

-- ---- one delta

turned : (a x : ℤ) (w k : ℕ) → IsWithin a x w k → IsWithin (neg_ℤ a) (neg_ℤ x) w k
turned a x w k near =
    let p = near.above in
    let q = near.below in
    let e = opposite a (2 * w) in
    let f = opposite x 131072 in
    record { some = near.some; above = omega (arith, ints, q, e, f); below = omega (arith, ints, p, e, f) }

size_near : (n scalar part whole rounded : ℕ) → IsWithinHalves scalar part whole rounded → IsWithin (pos (n * scalar))
    (pos (n * part)) whole (n * rounded)
size_near n scalar part whole rounded near =
    let a : 2 * scalar * whole * n ≤ (2 * (65536 * part) + rounded * whole) * n = mul-le-mul_right n near.above in
    let b : 2 * (65536 * part) * n ≤ (2 * scalar * whole + rounded * whole) * n = mul-le-mul_right n near.below in
    record { some = near.some; above = omega (arith, ints, a); below = omega (arith, ints, b) }

delta_near : (delta : ℤ) (scalar part whole rounded : ℕ) → IsWithinHalves scalar part whole rounded
    → IsWithin (delta *ℤ pos scalar) (delta *ℤ pos part) whole (unsigned_abs delta * rounded)
delta_near (pos n) scalar part whole rounded near = size_near n scalar part whole rounded near
delta_near (negsuc n) scalar part whole rounded near =
    turned (pos (suc n * scalar)) (pos (suc n * part)) whole (suc n * rounded) (size_near (suc n) scalar part whole rounded near)

-- ---- one delta more

more : (total part delta : ℤ) (whole halves scalar p w rounded : ℕ) → IsWithin total part whole halves → IsWithinHalves scalar p w rounded
    → IsWithin (total +ℤ (delta *ℤ pos scalar)) ((part *ℤ pos w) +ℤ ((delta *ℤ pos p) *ℤ pos whole)) (whole * w)
    (halves + unsigned_abs delta * rounded)
more total part delta whole halves scalar p w rounded before one =
    let other = delta_near delta scalar p w rounded one in
    let size = unsigned_abs delta * rounded in
    record {
      some = mul-pos before.some one.some;
      above = above 2 131072 total part (delta *ℤ pos scalar) (delta *ℤ pos p) whole w halves size before.above other.above;
      below = below 2 131072 total part (delta *ℤ pos scalar) (delta *ℤ pos p) whole w halves size before.below other.below;
    }

by_so_many : (table : Data) (coordinates : List ℤ) (item count : ℕ) (part : ℤ) (whole halves : ℕ) →
    IsExactVariation table coordinates item count part whole halves
    → IsWithin (sum_by table coordinates (item_place table item) count) part whole halves
unfolding share_of
by_so_many table coordinates item _ _ _ _ of_none = record { some = omega arith; above = omega (arith, ints); below = omega (arith, ints) }
by_so_many table coordinates item _ _ _ _ (by_delta j part whole halves p w rounded before one) =
    more (sum_by table coordinates (item_place table item) j) part (delta_of table item j) whole halves
    (scalar_at table coordinates j) p w rounded
    (by_so_many table coordinates item j part whole halves before) (scalar_near table coordinates j p w rounded one)

pub sums : SumsAreNear
sums table coordinates item part whole halves is = by_so_many table coordinates item (delta_count table) part whole halves is

pub variations : VariationsAreNear
variations store number item coordinates total part whole halves varies is =
    subst (λ t. IsWithin t part whole halves) (sym varies.sum) (sums varies.table coordinates item part whole halves is)

-- ---- there is an exact sum

pub record HasExactScalar (table : Data) (coordinates : List ℤ) (j : ℕ) : Type 0 where
  pub part : ℕ
  pub whole : ℕ
  pub rounded : ℕ
  pub is : IsExactScalar table coordinates j part whole rounded
  pub most : rounded ≤ table.regions.axes

in_order : (a b : ℕ) → (a < b) ⊎ (b ≤ a)
in_order a b = grind arith

pub exact_scalar : (table : Data) (coordinates : List ℤ) (j : ℕ) → HasExactScalar table coordinates j
exact_scalar table coordinates j = by_place (in_order (region_of table j) table.regions.count)
  where
    by_place : (region_of table j < table.regions.count) ⊎ (table.regions.count ≤ region_of table j) → HasExactScalar table coordinates j
    by_place (inl there) =
        let one = regions.exact table.regions.bytes.now table.regions.place table.regions.axes
        (region_of table j) coordinates table.regions.axes in
        record {
          part =
              one.part;
          whole = one.whole;
          rounded = one.rounded;
          is = of_region one.part one.whole one.rounded there one.is;
          most = one.most;
        }
    by_place (inr past) = record { part = 0; whole = 1; rounded = 0; is = of_no_region past; most = omega arith }

bounded : (halves count size axes delta rounded : ℕ) → halves ≤ count * (size * axes) → delta ≤ size → rounded ≤ axes →
    halves + delta * rounded ≤ suc count * (size * axes)
bounded halves count size axes delta rounded before d r = omega (arith, mul-le delta rounded size axes d r)

pub exact : ExactVariationsAre
exact table coordinates item zero = record { part = pos 0; whole = 1; halves = 0; is = of_none; most = λ size each. omega arith }
exact table coordinates item (suc j) =
    let before = exact table coordinates item j in
    let one = exact_scalar table coordinates j in
    record {
      part = (before.part *ℤ pos one.whole) +ℤ ((delta_of table item j *ℤ pos one.part) *ℤ pos before.whole);
      whole = before.whole * one.whole;
      halves = before.halves + unsigned_abs (delta_of table item j) * one.rounded;
      is = by_delta j before.part before.whole before.halves one.part one.whole one.rounded before.is one.is;
      most = λ size each. bounded before.halves j size table.regions.axes (unsigned_abs (delta_of table item j)) one.rounded
          (before.most size (λ k room. each k (omega (arith, room)))) (each j (omega arith)) one.most;
    }

-- ---- the nearest whole number

is_nearest : (n : ℤ) → IsNearestWhole (n +ℤ negsuc 32767) (int_div_euclid n (pos 65536))
is_nearest (pos n) = record { not_above = omega (arith, ints); not_below = omega (arith, ints) }
is_nearest (negsuc n) = record { not_above = omega (arith, ints); not_below = omega (arith, ints) }

of_total : (total : ℤ) → IsNearestWhole total (in_whole total)
of_total total =
    let same : (total +ℤ pos 32768) +ℤ negsuc 32767 ≡ total = omega (arith, ints) in
    subst (λ t. IsNearestWhole t (in_whole total)) same (is_nearest (total +ℤ pos 32768))

only : (total a b : ℤ) → IsNearestWhole total a → IsNearestWhole total b → a ≡ b
only total a b p q = omega (arith, ints, p.not_above, p.not_below, q.not_above, q.not_below)

pub nearest : WholesAreNearest
nearest total whole = (λ e. subst (IsNearestWhole total) e (of_total total), λ is. only total (in_whole total) whole (of_total total) is)

whole_near : (total part nearest : ℤ) (whole halves : ℕ) → IsWithin total part whole halves → IsNearestWhole total nearest
    → IsNear nearest part whole (65536 + halves)
whole_near total part nearest whole halves near is =
    let high = times whole (nearest *ℤ pos 131072) ((total *ℤ pos 2) +ℤ pos 65536) is.not_above in
    let low : ((total *ℤ pos 2) *ℤ pos whole) ≤ℤ (((nearest *ℤ pos 131072) +ℤ pos 65536) *ℤ pos whole) = times whole _ _
    (omega (arith, ints, is.not_below)) in
    let high-more = distribute (total *ℤ pos 2) (pos 65536) whole in
    let low-more = distribute (nearest *ℤ pos 131072) (pos 65536) whole in
    let n = associate nearest 131072 whole in
    let t = associate total 2 whole in
    record {
      some = near.some;
      above = omega (arith, ints, high, high-more, n, t, near.above);
      below = omega (arith, ints, low, low-more, n, t, near.below);
    }

pub wholes : WholesAreNear
wholes total part whole halves near = whole_near total part (in_whole total) whole halves near (of_total total)
