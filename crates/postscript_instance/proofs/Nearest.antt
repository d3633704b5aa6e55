-- The nearest whole units.
use Rattle.std.proofs.Common.{◌≡◌, refl, ap, sym, subst, ◌∙◌, ◌/◌, ℤ, pos, negsuc, ◌+ℤ◌, ◌-ℤ◌, ◌*ℤ◌, ◌≤ℤ◌, ◌<ℤ◌, arith}
use Rattle.std.proofs.lemmas.Int.{ints}
use Rattle.std.specs.Int.{int_rem_euclid}
use Rattle.postscript_type2.specs.Program.StackRules.{IsHeld}
use Rattle.postscript_instance.specs.Far.{IsStep}
use Rattle.postscript_instance.specs.Nearest.{nearest, rounded}

pub at-origin : nearest (pos 0) ≡ pos 0
unfolding nearest
at-origin = refl

-- the rest is below a whole unit
euclid-low : (z : ℤ) → pos 0 ≤ℤ int_rem_euclid z (pos 65536)
euclid-low (pos n) = omega (arith, ints)
euclid-low (negsuc n) = omega (arith, ints)

euclid-high : (z : ℤ) → int_rem_euclid z (pos 65536) <ℤ pos 65536
euclid-high (pos n) = omega (arith, ints)
euclid-high (negsuc n) = omega (arith, ints)

-- and the others are whole units
euclid-whole : (z : ℤ) → (n : ℤ) × (z -ℤ int_rem_euclid z (pos 65536) ≡ n *ℤ pos 65536)
euclid-whole (pos n) = (pos (n / 65536), omega (arith, ints))
euclid-whole (negsuc n) = (negsuc (n / 65536), omega (arith, ints))

pub is-whole : (bits : ℤ) → (n : ℤ) × (nearest bits ≡ n *ℤ pos 65536)
unfolding nearest
is-whole bits = euclid-whole (bits +ℤ pos 32768)

pub above-low : (bits : ℤ) → (bits -ℤ pos 32768) <ℤ nearest bits
unfolding nearest
above-low bits = let high = euclid-high (bits +ℤ pos 32768) in omega (arith, ints, high)

pub below-high : (bits : ℤ) → nearest bits ≤ℤ (bits +ℤ pos 32768)
unfolding nearest
below-high bits = let low = euclid-low (bits +ℤ pos 32768) in omega (arith, ints, low)

-- a step from places that were found, and none
pub step-found : (from distance start to end way : ℤ) → start ≡ nearest from → IsHeld (nearest from) → to ≡ from +ℤ distance →
    IsHeld (from +ℤ distance) → end ≡ nearest to → IsHeld (nearest to) →
    way ≡ end -ℤ start → IsHeld (end -ℤ start) → (way ≡ rounded from distance) × IsStep from distance
step-found from distance start to end way hs held_s ht held_t he held_e hw held_w =
    let at_end : nearest to ≡ nearest (from +ℤ distance) = ap nearest ht in
    let whole : end -ℤ start ≡ rounded from distance = ap (λ z. z -ℤ start) (he ∙ at_end) ∙ ap (λ z. nearest (from +ℤ distance) -ℤ z) hs in
    (hw ∙ whole, record { start = held_s; place = held_t; end = subst IsHeld at_end held_e; way = subst IsHeld whole held_w })

pub no-way-held : (from distance start to end : ℤ) → start ≡ nearest from → to ≡ from +ℤ distance → end ≡ nearest to →
    ¬ IsHeld (end -ℤ start) → ¬ IsStep from distance
no-way-held from distance start to end hs ht he far is =
    far (subst IsHeld (sym (ap (λ z. z -ℤ start) (he ∙ ap nearest ht) ∙ ap (λ z. nearest (from +ℤ distance) -ℤ z) hs)) is.way)

pub no-end-held : (from distance to : ℤ) → to ≡ from +ℤ distance → ¬ IsHeld (nearest to) → ¬ IsStep from distance
no-end-held from distance to ht far is = far (subst IsHeld (ap nearest (sym ht)) is.end)
