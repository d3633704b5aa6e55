-- Segment maps as they are computed.
use Rattle.std.proofs.Common.{◌≡◌, ◌↔◌, ◌⊎◌, inl, inr, ℕ, zero, suc, ◌+◌, ◌-◌, ◌<◌, ℤ, pos, negsuc, ◌-ℤ◌, ◌<ℤ◌, List, true, false, refl, ap, sym, subst, ◌∙◌, arith}
use Rattle.std.proofs.lemmas.Bool.{both_ways, cases_eq, cases_lt}
use Rattle.std.proofs.lemmas.Int.{ints, by_lt_z}
use Rattle.std.specs.Ordering.{int_eq}
use Rattle.std.specs.Prelude.{◌&&◌, ◌==◌, nat_lt}
use Rattle.postscript_variation.specs.Maps.{AreBelow, HasRequired, IsFirst, IsKept, IsMapped, counts, first_above, first_from, from_at, keeps, lifted, mapped, moved, moved_between, to_at, weighted}
use Rattle.postscript_variation.specs.Maps.IsMapped.{not_required, of_entry, before_all, behind_all, moved_on}
use Rattle.postscript_variation.specs.Scalars.{apart}
use Rattle.postscript_variation.proofs.AxisScalars.{nearest-is, nearest-only}
use Rattle.postscript_variation.proofs.Deciding.{below, by_test, chosen, equal, is_less, less, not_below, not_last, not_same, same, split}

-- ---- the first entry that is not below a coordinate

walk : (bytes : List ℕ) (place : ℕ) (at : ℤ) (i left n : ℕ) → i + left ≡ n → AreBelow bytes place at i
    → (AreBelow bytes place at n × (first_from bytes place at i left ≡ n)) ⊎ IsFirst bytes place n at (first_from bytes place at i left)
walk bytes place at i zero n e b = inl ((λ k h. b k (omega (arith, h, e))), omega (arith, e))
walk bytes place at i (suc left) n e b =
    by_lt_z (from_at bytes place i) at
    (λ h. rw (below (from_at bytes place i) at h) (walk bytes place at (i + 1) left n (omega (arith, e)) (λ k l.
    elim (cases_eq k i) [
      | inl s ↦ rw s h
      | inr o ↦ b k (omega (arith, o, l))
    ])))
    (λ h. rw (not_below (from_at bytes place i) at h) (inr (record { listed = omega (arith, e); not_below = h; others = b })))

first_is : (bytes : List ℕ) (place count : ℕ) (at : ℤ)
    → (AreBelow bytes place at count × (first_above bytes place count at ≡ count)) ⊎ IsFirst bytes place
    count at (first_above bytes place count at)
first_is bytes place count at = walk bytes place at 0 count count (omega arith) (λ k h. absurd (omega (arith, h)))

one_first : (bytes : List ℕ) (place count : ℕ) (at : ℤ) (i j : ℕ) → IsFirst bytes place count at i → IsFirst bytes place count at j → i ≡ j
one_first bytes place count at i j a b =
    elim (cases_lt i j) [
      | inl h ↦ absurd (omega (arith, ints, a.not_below, b.others i h))
      | inr h ↦ elim (cases_lt j i) [
        | inl k ↦ absurd (omega (arith, ints, b.not_below, a.others j k))
        | inr k ↦ omega (arith, h, k)
      ]
    ]

first_only : (bytes : List ℕ) (place count : ℕ) (at : ℤ) (i : ℕ) → IsFirst bytes place count at i → first_above bytes place count at ≡ i
first_only bytes place count at i is =
    elim (first_is bytes place count at) [
      | inl all ↦ absurd (omega (arith, ints, is.not_below, all.0 i is.listed))
      | inr other ↦ one_first bytes place count at (first_above bytes place count at) i other is
    ]

none_above : (bytes : List ℕ) (place count : ℕ) (at : ℤ) → AreBelow bytes place at count → first_above bytes place count at ≡ count
none_above bytes place count at b =
    elim (first_is bytes place count at) [
      | inl all ↦ all.1
      | inr other ↦ absurd (omega (arith, ints, other.not_below, b (first_above bytes place count at) other.listed))
    ]

-- ---- tests

not_zero : (i : ℕ) → (suc i == 0) ≡ false
not_zero i = grind arith

one_less : (i : ℕ) → suc i - 1 ≡ i
one_less i = omega arith

last : (count : ℕ) → (count == count) ≡ true
last count = grind arith

keeps_so : (bytes : List ℕ) (place count : ℕ) (at : ℤ) → IsKept bytes place count at → keeps bytes place count at ≡ true
unfolding keeps
keeps_so bytes place count at is =
    rw (first_only bytes place count at is.entry is.first)
    (rw (less is.entry count is.first.listed)
    (rw (same (from_at bytes place is.entry) at is.from) (rw (same (to_at bytes place is.entry) at is.to) refl)))

kept_entry : (bytes : List ℕ) (place count : ℕ) (at : ℤ) → first_above bytes place count at < count
    → IsFirst bytes place count at (first_above bytes place count at)
kept_entry bytes place count at h =
    elim (first_is bytes place count at) [
      | inl all ↦ absurd (omega (arith, h, all.1))
      | inr is ↦ is
    ]

is_kept : (bytes : List ℕ) (place count : ℕ) (at : ℤ) → keeps bytes place count at ≡ true → IsKept bytes place count at
unfolding keeps
is_kept bytes place count at h =
    let i : ℕ = first_above bytes place count at in
    let k = split (nat_lt i count) (int_eq (from_at bytes place i) at && int_eq (to_at bytes place i) at) h in
    let m = split (int_eq (from_at bytes place i) at) (int_eq (to_at bytes place i) at) k.1 in
    record {
      entry =
          i;
      first = kept_entry bytes place count at (is_less i count k.0);
      from = equal (from_at bytes place i) at m.0;
      to = equal (to_at bytes place i) at m.1;
    }

counts_so : (bytes : List ℕ) (place count : ℕ) → HasRequired bytes place count → counts bytes place count ≡ true
unfolding counts
counts_so bytes place count r =
    rw (keeps_so bytes place count (negsuc 65535) r.0)
    (rw (keeps_so bytes place count (pos 0) r.1) (rw (keeps_so bytes place count (pos 65536) r.2) refl))

has_required : (bytes : List ℕ) (place count : ℕ) → counts bytes place count ≡ true → HasRequired bytes place count
unfolding counts
has_required bytes place count h =
    let k = split (keeps bytes place count (negsuc 65535)) (keeps bytes place count (pos 0) && keeps bytes place count (pos 65536)) h in
    let m = split (keeps bytes place count (pos 0)) (keeps bytes place count (pos 65536)) k.1 in
    (is_kept bytes place count (negsuc 65535) k.0, is_kept bytes place count (pos 0) m.0, is_kept bytes place count (pos 65536) m.1)

-- ---- what is computed

by_first : (bytes : List ℕ) (place count : ℕ) (at : ℤ) (i : ℕ) → HasRequired bytes place count → first_above bytes place count at ≡ i
    → mapped bytes place count at ≡ moved bytes place count i at
unfolding mapped
by_first bytes place count at i r e = rw (counts_so bytes place count r) (ap (λ i. moved bytes place count i at) e)

moved_entry : (bytes : List ℕ) (place count : ℕ) (at : ℤ) (i : ℕ) → i < count → from_at bytes place i ≡ at →
    moved bytes place count i at ≡ to_at bytes place i
unfolding moved
moved_entry bytes place count at i h e = rw (not_last i count h) (rw (same (from_at bytes place i) at e) refl)

moved_first : (bytes : List ℕ) (place count : ℕ) (at : ℤ) → 0 < count → at <ℤ from_at bytes place 0 → moved bytes place count 0 at ≡ at
unfolding moved
moved_first bytes place count at h k =
    rw (not_last 0 count h) (rw (not_same (from_at bytes place 0) at (λ e. omega (arith, ints, e, k))) refl)

moved_none : (bytes : List ℕ) (place count : ℕ) (at : ℤ) → moved bytes place count count at ≡ at
unfolding moved
moved_none bytes place count at = rw (last count) refl

moved_further : (bytes : List ℕ) (place count : ℕ) (at : ℤ) (i : ℕ) → suc i < count → at <ℤ from_at bytes place (suc i)
    → moved bytes place count (suc i) at
    ≡ (pos (weighted (lifted (to_at bytes place i)) (apart (from_at bytes place (suc i)) at) (lifted (to_at bytes place (suc i)))
    (apart at (from_at bytes place i))) -ℤ pos 131072)
unfolding moved moved_between
moved_further bytes place count at i h k =
    rw (not_last (suc i) count h)
    (rw (not_same (from_at bytes place (suc i)) at (λ e. omega (arith, ints, e, k))) (rw (not_zero i) (rw (one_less i) refl)))

whole : (from at : ℤ) (other : ℕ) → at <ℤ from → 0 < apart from at + other
whole from at other h = omega (arith, ints)

computed : (bytes : List ℕ) (place count : ℕ) (at result : ℤ) → IsMapped bytes place count at result → mapped bytes place count at ≡ result
unfolding mapped
computed bytes place count at result (not_required n e) =
    chosen (counts bytes place count)
    (moved bytes place count (first_above bytes place count at) at) at (λ t. absurd (n (has_required bytes place count t))) ∙ sym e
computed bytes place count at result (of_entry r i is f e) =
    by_first bytes place count at i r (first_only bytes place count at i is) ∙ moved_entry bytes place count at i is.listed f ∙ sym e
computed bytes place count at result (before_all r is h e) =
    by_first bytes place count at 0 r (first_only bytes place count at 0 is) ∙ moved_first bytes place count at is.listed h ∙ sym e
computed bytes place count at result (behind_all r b e) =
    by_first bytes place count at count r (none_above bytes place count at b) ∙ moved_none bytes place count at ∙ sym e
computed bytes place count at result (moved_on r i far is h near e) =
    by_first bytes place count at (suc i) r (first_only bytes place count at (suc i) is) ∙ moved_further bytes place count at i is.listed h
    ∙ ap (λ n. pos n -ℤ pos 131072) (nearest-only _ _ far (whole (from_at bytes place (suc i)) at _ h) near) ∙ sym e

-- ---- each coordinate becomes something

record BecomesSome (bytes : List ℕ) (place count : ℕ) (at : ℤ) : Type 0 where
  pub result : ℤ
  pub is : IsMapped bytes place count at result

by_entry : (bytes : List ℕ) (place count : ℕ) (at : ℤ) (i : ℕ) → HasRequired bytes place count → IsFirst bytes place count at i
    → at <ℤ from_at bytes place i → BecomesSome bytes place count at
by_entry bytes place count at zero r is h = record { result = at; is = before_all r is h refl }
by_entry bytes place count at (suc i) r is h =
    let n : ℕ = weighted (lifted (to_at bytes place i)) (apart (from_at bytes place (suc i)) at) (lifted (to_at bytes place (suc i)))
    (apart at (from_at bytes place i)) in
    record { result = pos n -ℤ pos 131072; is = moved_on r i n is h (nearest-is _ _ (whole (from_at bytes place (suc i)) at _ h)) refl }

with_required : (bytes : List ℕ) (place count : ℕ) (at : ℤ) → HasRequired bytes place count → BecomesSome bytes place count at
with_required bytes place count at r =
    elim (first_is bytes place count at) [
      | inl all ↦ record { result = at; is = behind_all r all.0 refl }
      | inr is ↦ by_lt_z at (from_at bytes place (first_above bytes place count at))
          (λ h. by_entry bytes place count at (first_above bytes place count at) r is h)
          (λ h. let e : from_at bytes place (first_above bytes place count at) ≡ at = omega (arith, ints, h, is.not_below) in
          record {
            result =
                to_at bytes place (first_above bytes place count at);
            is = of_entry r (first_above bytes place count at) is e refl;
          })
    ]

becomes_some : (bytes : List ℕ) (place count : ℕ) (at : ℤ) → BecomesSome bytes place count at
becomes_some bytes place count at =
    by_test (counts bytes place count)
    (λ t. with_required bytes place count at (has_required bytes place count t))
    (λ f. record { result = at; is = not_required (λ r. both_ways (counts bytes place count) f (counts_so bytes place count r)) refl })

pub maps : (bytes : List ℕ) (place count : ℕ) (at result : ℤ) →
    (mapped bytes place count at ≡ result) ↔ IsMapped bytes place count at result
maps bytes place count at result = (
  (λ e. let one = becomes_some bytes place count at in
      subst (IsMapped bytes place count at) (sym (computed bytes place count at one.result one.is) ∙ e) one.is),
  computed bytes place count at result,
)

-- ---- what every map leaves as it is

stays : (bytes : List ℕ) (place count : ℕ) (at : ℤ) → (HasRequired bytes place count → IsKept bytes place count at) →
    mapped bytes place count at ≡ at
stays bytes place count at kept =
    by_test (counts bytes place count)
    (λ t. let r = has_required bytes place count t in let k = kept r in
    computed bytes place count at at (of_entry r k.entry k.first k.from (sym k.to)))
    (λ f. computed bytes place
    count at at (not_required (λ r. both_ways (counts bytes place count) f (counts_so bytes place count r)) refl))

pub minima : (bytes : List ℕ) (place count : ℕ) → mapped bytes place count (negsuc 65535) ≡ negsuc 65535
minima bytes place count = stays bytes place count (negsuc 65535) (λ r. r.0)

pub defaults : (bytes : List ℕ) (place count : ℕ) → mapped bytes place count (pos 0) ≡ pos 0
defaults bytes place count = stays bytes place count (pos 0) (λ r. r.1)

pub maxima : (bytes : List ℕ) (place count : ℕ) → mapped bytes place count (pos 65536) ≡ pos 65536
maxima bytes place count = stays bytes place count (pos 65536) (λ r. r.2)
