-- From where to where a curve comes, from whole numbers to coordinates.
use Rattle.std.proofs.Common.{◌≡◌, ℕ, suc, ◌+◌, ◌*◌, ◌^◌, ◌-◌, ◌≤◌, ℤ, pos, negsuc, ◌+ℤ◌, ◌*ℤ◌, min, max, arith, ap}
use Rattle.std.proofs.lemmas.Int.{clamps, ints}
use Rattle.std.proofs.Math.IntN.{negsuc-*ℤ-pos}
use Rattle.postscript_outline.specs.Arcs.{Reaches, bezier}
use Rattle.postscript_outline.specs.declared.curve.Curve.{Curve}
use Rattle.postscript_outline.specs.declared.curve.Span.{Span}
use Rattle.postscript_outline.specs.Halves.{IsCurveWithin, Spans, height}

-- so many from the least coordinate on
abbrev Raised : ℤ → ℕ → Type 0
Raised z n = z +ℤ pos (2 ^ 31) ≡ pos n

-- and so often
times : (z : ℤ) (n k w : ℕ) → z +ℤ pos k ≡ pos n → z *ℤ pos w +ℤ pos (k * w) ≡ pos (n * w)
times (pos a) n k w e = let s : a + k ≡ n = omega (arith, ints) in let t : (a + k) * w ≡ n * w = ap (λ v. v * w) s in omega (arith, ints)
times (negsuc a) n k w e =
    let s : k ≡ n + suc a = omega (arith, ints) in
    let t : k * w ≡ (n + suc a) * w = ap (λ v. v * w) s in
    omega (arith, ints, negsuc-*ℤ-pos a w)

raised : (c : Curve) (p q r s : ℤ) (m n : ℕ) → Raised p c.from → Raised q c.first → Raised r c.second → Raised s c.to
    → bezier p q r s m n +ℤ pos (2 ^ 31 * ((m + n) * (m + n) * (m + n))) ≡ pos (height c m n)
raised c p q r s m n a b d e =
    let f = times p c.from (2 ^ 31) (m * m * m) a in
    let g = times q c.first (2 ^ 31) (3 * (m * m * n)) b in
    let h = times r c.second (2 ^ 31) (3 * (m * n * n)) d in
    let i = times s c.to (2 ^ 31) (n * n * n) e in
    omega (arith, ints)

pub spans-reaches : (c : Curve) (span : Span) (low high p q r s : ℤ) → Raised p c.from → Raised q c.first → Raised r c.second →
    Raised s c.to
    → Raised low span.low → Raised high span.high → Spans span 1 c → Reaches low high p q r s
spans-reaches c span low high p q r s a b d e l h is = record {
  above = λ m n. let v = raised c p q r s m n a b d e in let w = times low span.low (2 ^ 31) ((m + n) * (m + n) * (m + n)) l in
      let i = is.above m n in omega (arith, ints);
  below = λ m n. let v = raised c p q r s m n a b d e in let w = times high span.high (2 ^ 31) ((m + n) * (m + n) * (m + n)) h in
      let i = is.below m n in omega (arith, ints);
  dips =
      let m = is.dips.0 in let n = is.dips.1 in
      let v = raised c p q r s m n a b d e in
      let f : Raised (low +ℤ pos 2) (span.low + 2) = omega (arith, ints) in
      let w = times (low +ℤ pos 2) (span.low + 2) (2 ^ 31) ((m + n) * (m + n) * (m + n)) f in
      let i = is.dips.3 in
      (m, n, is.dips.2, omega (arith, ints));
  rises =
      let m = is.rises.0 in let n = is.rises.1 in
      let v = raised c p q r s m n a b d e in
      let w = times high span.high (2 ^ 31) ((m + n) * (m + n) * (m + n)) h in
      let i = is.rises.3 in
      (m, n, is.rises.2, omega (arith, ints));
  low_within =
      let k = min (min (min c.from c.first) c.second) c.to in
      let i = is.least k (omega arith) (omega arith) (omega arith) (omega arith) in omega (arith, ints, clamps);
  high_within =
      let k = max (max (max c.from c.first) c.second) c.to in
      let i = is.greatest k (omega arith) (omega arith) (omega arith) (omega arith) in omega (arith, ints, clamps);
}

pub spans-low : (c : Curve) (span : Span) → c.from ≤ 2 ^ 32 - 1 → Spans span 1 c → span.low ≤ 2 ^ 32 - 1
spans-low c span h is = let i = is.above 1 0 in omega arith

pub spans-high : (c : Curve) (span : Span) → IsCurveWithin (2 ^ 32 - 1) c → Spans span 1 c → span.high ≤ 2 ^ 32 - 1
spans-high c span h is = is.greatest (2 ^ 32 - 1) (omega arith) (omega arith) (omega arith) (omega arith)
