-- Axis scalars as they are computed.
use Rattle.std.proofs.Common.{◌≡◌, ◌⊎◌, inl, inr, ℕ, ◌*◌, ◌<◌, ◌≤◌, ℤ, pos, ◌<ℤ◌, ◌≤ℤ◌, true, false, refl, arith}
use Rattle.std.proofs.lemmas.Int.{ints, by_lt_z}
use Rattle.std.proofs.Math.Nat.{div-eq_of_lt-le}
use Rattle.postscript_variation.specs.Scalars.{IsAxisScalar, IsIgnored, IsNearest, apart, is_outside, is_passed_over, nearest, scaled}
use Rattle.postscript_variation.specs.Scalars.IsIgnored.{start_behind, end_before, both_sides, default_peak}
use Rattle.postscript_variation.specs.Scalars.IsAxisScalar.{ignored, outside, at_peak, rising, falling}
use Rattle.postscript_variation.proofs.Deciding.{below, not_below, not_same, same}

-- ---- the nearest number

pub nearest-is : (n d : ℕ) → 0 < d → IsNearest n d (nearest n d)
nearest-is n d h = record { not_above = omega arith; not_below = omega arith }

pub nearest-only : (n d r : ℕ) → 0 < d → IsNearest n d r → nearest n d ≡ r
nearest-only n d r h is = div-eq_of_lt-le {k = r} d (omega (arith, is.not_above)) (omega (arith, is.not_below))

-- ---- whether an axis counts

pub passed_over : (start peak last : ℤ) → IsIgnored start peak last → is_passed_over start peak last ≡ true
unfolding is_passed_over
passed_over start peak last (start_behind h) = rw (below peak start h) refl
passed_over start peak last (end_before h) = let e = below last peak h in grind (arith, ints, e)
passed_over start peak last (both_sides h k) = let e = below start (pos 0) h in let f = below (pos 0) last k in grind (arith, e, f)
passed_over start peak last (default_peak h) = let e = same peak (pos 0) h in grind (arith, e)

passed_over_not : (start peak last : ℤ) → start ≤ℤ peak → peak ≤ℤ last → ((pos 0 ≤ℤ start) ⊎ (last ≤ℤ pos 0)) → (peak ≡ pos 0 → ⊥)
    → is_passed_over start peak last ≡ false
unfolding is_passed_over
passed_over_not start peak last h k (inl m) n =
    let a = not_below peak start h in let b = not_below last peak k in let d = not_below start (pos 0) m in
    let e = not_same peak (pos 0) n in
    rw a (rw b (rw d (rw e refl)))
passed_over_not start peak last h k (inr m) n =
    let a = not_below peak start h in let b = not_below last peak k in let d = not_below (pos 0) last m in
    let e = not_same peak (pos 0) n in
    grind (arith, a, b, d, e)

-- what is so where an axis counts
pub record Counts (start peak last : ℤ) : Type 0 where
  pub rises : start ≤ℤ peak
  pub falls : peak ≤ℤ last
  pub one_side : (pos 0 ≤ℤ start) ⊎ (last ≤ℤ pos 0)
  pub some : peak ≡ pos 0 → ⊥

pub counts_of : (start peak last : ℤ) → (IsIgnored start peak last → ⊥) → Counts start peak last
counts_of start peak last never = record {
  rises = by_lt_z peak start (λ h. absurd (never (start_behind h))) (λ h. h);
  falls = by_lt_z last peak (λ h. absurd (never (end_before h))) (λ h. h);
  one_side = by_lt_z start (pos 0) (λ h. by_lt_z (pos 0) last (λ k. absurd (never (both_sides h k))) inr) inl;
  some = λ e. never (default_peak e);
}

not_ignored : (start peak last : ℤ) → Counts start peak last → IsIgnored start peak last → ⊥
not_ignored start peak last c (start_behind h) = omega (arith, ints, c.rises)
not_ignored start peak last c (end_before h) = omega (arith, ints, c.falls)
not_ignored start peak last c (both_sides h k) = omega (arith, ints, c.one_side)
not_ignored start peak last c (default_peak h) = c.some h

same_or_not : (a b : ℤ) → (a ≡ b) ⊎ (a ≡ b → ⊥)
same_or_not a b =
    by_lt_z a b (λ h. inr (λ e. omega (arith, ints, e, h)))
    (λ h. by_lt_z b a (λ k. inr (λ e. omega (arith, ints, e, k))) (λ k. inl (omega (arith, ints))))

pub ignored_or_not : (start peak last : ℤ) → IsIgnored start peak last ⊎ Counts start peak last
ignored_or_not start peak last =
    by_lt_z peak start (λ h. inl (start_behind h)) (λ a. by_lt_z last peak (λ h. inl (end_before h)) (λ b.
    elim (same_or_not peak (pos 0)) [
      | inl e ↦ inl (default_peak e)
      | inr n ↦ by_lt_z start (pos 0)
          (λ h. by_lt_z (pos 0) last (λ k. inl (both_sides h k)) (λ k. inr (record { rises = a; falls = b; one_side = inr k; some = n })))
          (λ h. inr (record { rises = a; falls = b; one_side = inl h; some = n }))
    ]))

counted : (start peak last : ℤ) → Counts start peak last → is_passed_over start peak last ≡ false
counted start peak last c = passed_over_not start peak last c.rises c.falls c.one_side c.some

-- ---- what is computed

outside_true : (start last at : ℤ) → (at <ℤ start) ⊎ (last <ℤ at) → is_outside start last at ≡ true
unfolding is_outside
outside_true start last at (inl h) = rw (below at start h) refl
outside_true start last at (inr h) = let e = below last at h in grind (arith, e)

outside_false : (start last at : ℤ) → start ≤ℤ at → at ≤ℤ last → is_outside start last at ≡ false
unfolding is_outside
outside_false start last at h k = rw (not_below at start h) (rw (not_below last at k) refl)

by_one : (n : ℕ) → n ≡ nearest (n * 1) 1
by_one n = omega arith

pub computed : (scalar : ℕ) (start peak last at : ℤ) (part whole : ℕ) → IsAxisScalar start peak last at part whole
    → scaled scalar start peak last at ≡ nearest (scalar * part) whole
unfolding scaled
computed scalar start peak last at part whole (ignored i p w) = rw p (rw w (rw (passed_over start peak last i) (by_one scalar)))
computed scalar start peak last at part whole (outside n o p w) =
    let c = counts_of start peak last n in
    rw p (rw w (rw (counted start peak last c) (rw (outside_true start last at o) (omega arith))))
computed scalar start peak last at part whole (at_peak n e p w) =
    let c = counts_of start peak last n in
    rw p (rw w (rw (counted start peak last c) (rw (outside_false start last at (rw e c.rises) (rw e c.falls))
    (rw (not_below at peak (omega (arith, ints, e))) (rw (not_below peak at (omega (arith, ints, e))) (by_one scalar))))))
computed scalar start peak last at part whole (rising n h k p w) =
    let c = counts_of start peak last n in
    rw p (rw w (rw (counted start peak last c) (rw (outside_false start last at h (omega (arith, ints, k, c.falls)))
    (rw (below at peak k) refl))))
computed scalar start peak last at part whole (falling n h k p w) =
    let c = counts_of start peak last n in
    rw p (rw w (rw (counted start peak last c) (rw (outside_false start last at (omega (arith, ints, h, c.rises)) k)
    (rw (not_below at peak (omega (arith, ints, h))) (rw (below peak at h) refl)))))

-- ---- the fraction

pub some : (start peak last at : ℤ) (part whole : ℕ) → IsAxisScalar start peak last at part whole → 0 < whole
some start peak last at part whole (ignored i p w) = omega arith
some start peak last at part whole (outside n o p w) = omega arith
some start peak last at part whole (at_peak n e p w) = omega arith
some start peak last at part whole (rising n h k p w) = omega (arith, ints)
some start peak last at part whole (falling n h k p w) = omega (arith, ints)

pub at_most_one : (start peak last at : ℤ) (part whole : ℕ) → IsAxisScalar start peak last at part whole → part ≤ whole
at_most_one start peak last at part whole (ignored i p w) = omega arith
at_most_one start peak last at part whole (outside n o p w) = omega arith
at_most_one start peak last at part whole (at_peak n e p w) = omega arith
at_most_one start peak last at part whole (rising n h k p w) = omega (arith, ints)
at_most_one start peak last at part whole (falling n h k p w) = omega (arith, ints)

pub record HasAxisScalar (start peak last at : ℤ) : Type 0 where
  pub part : ℕ
  pub whole : ℕ
  pub is : IsAxisScalar start peak last at part whole

counted_one : (start peak last at : ℤ) → Counts start peak last → HasAxisScalar start peak last at
counted_one start peak last at c =
    let no = not_ignored start peak last c in
    by_lt_z at start (λ h. record { part = 0; whole = 1; is = outside no (inl h) refl refl }) (λ a.
    by_lt_z last at (λ h. record { part = 0; whole = 1; is = outside no (inr h) refl refl }) (λ b.
    by_lt_z at peak (λ h. record { part = apart at start; whole = apart peak start; is = rising no a h refl refl }) (λ h.
    by_lt_z peak at (λ k. record { part = apart last at; whole = apart last peak; is = falling no k b refl refl }) (λ k.
    record { part = 1; whole = 1; is = at_peak no (omega (arith, ints)) refl refl }))))

pub has_one : (start peak last at : ℤ) → HasAxisScalar start peak last at
has_one start peak last at =
    elim (ignored_or_not start peak last) [
      | inl i ↦ record { part = 1; whole = 1; is = ignored i refl refl }
      | inr c ↦ counted_one start peak last at c
    ]
