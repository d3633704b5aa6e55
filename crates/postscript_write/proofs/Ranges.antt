-- Ranges of a char set, one behind another.
use Rattle.std.proofs.Common.{◌≡◌, ◌⊎◌, refl, ℕ, ◌+◌, ◌*◌, ◌/◌, ◌≤◌, ◌<◌, List, length, inl, inr, arith, below_more}
use Rattle.std.proofs.lemmas.Bool.{cases_lt}
use Rattle.std.proofs.Math.Nat.{lt_of_mul-lt-mul_right, le-div_iff_mul-le}
use Rattle.postscript_view.specs.CharSet.{covered, more_of}
use Rattle.postscript_view.proofs.Covering.{covered_none, covered_more}
use Rattle.postscript_write.specs.Whole.{RangesEnd}

-- so many glyphs are left behind the ranges before range r, and none of these covers the last one
pub record AreLeft (ranges : List ℕ) (size glyphs r left : ℕ) : Type 0 where
  pub sum : left + covered ranges size r ≡ glyphs
  pub some : 0 < left
  pub before : (k : ℕ) → k < r + 1 → covered ranges size k < glyphs

pub at_first : (ranges : List ℕ) (size glyphs : ℕ) → 0 < glyphs → AreLeft ranges size glyphs 0 glyphs
at_first ranges size glyphs some =
    let none = covered_none ranges size in
    record {
      sum = omega (arith, none);
      some = some;
      before = below_more (λ k. covered ranges size k < glyphs) 0 (λ k less. absurd (omega (arith, less))) (omega (arith, none, some));
    }

pub one_more : (ranges : List ℕ) (size glyphs r left more now : ℕ) → more ≡ more_of ranges size r → now + (more + 1) ≡ left → 0 < now →
    AreLeft ranges size glyphs r left → AreLeft ranges size glyphs (r + 1) now
one_more ranges size glyphs r left more now is taken some are =
    let next = covered_more ranges size r in
    let before_sum = are.sum in
    let sum : now + covered ranges size (r + 1) ≡ glyphs = omega (arith, next, is, taken, before_sum) in
    record {
      sum = sum;
      some = some;
      before = below_more (λ k. covered ranges size k < glyphs) (r + 1) are.before (omega (arith, sum, some));
    }

pub last_range : (ranges : List ℕ) (size glyphs r left more : ℕ) → more ≡ more_of ranges size r → left ≤ more + 1 →
    AreLeft ranges size glyphs r left → RangesEnd ranges size glyphs ((r + 1) * (2 + size))
last_range ranges size glyphs r left more is enough are =
    let next = covered_more ranges size r in
    let sum = are.sum in
    record {
      needed = λ k less. are.before k (lt_of_mul-lt-mul_right (2 + size) less);
      enough = inl (r + 1, refl, omega (arith, next, is, enough, sum));
    }

within : (width k n : ℕ) → 0 < width → k * width ≤ n → k ≤ n / width
within width k n some less = (le-div_iff_mul-le some).1 less

-- so many ranges are among the bytes
pub among : (width k n : ℕ) → 0 < width → k ≤ n / width → k * width ≤ n
among width k n some less = (le-div_iff_mul-le some).0 less

no_less : (ranges : List ℕ) (size glyphs a b : ℕ) → RangesEnd ranges size glyphs a → RangesEnd ranges size glyphs b → b ≤ length ranges →
    a < b → ⊥
no_less ranges size glyphs a b ends others within less = by ends.enough
  where
    by : ((r : ℕ) × (a ≡ r * (2 + size)) × (glyphs ≤ covered ranges size r)) ⊎ (a ≡ length ranges) → ⊥
    by (inl (r, is, enough)) =
        let needed = others.needed r (omega (arith, is, less)) in
        absurd (omega (arith, needed, enough))
    by (inr is) = absurd (omega (arith, is, less, within))

-- ranges end in one place
pub one_end : (ranges : List ℕ) (size glyphs a b : ℕ) → RangesEnd ranges size glyphs a → RangesEnd ranges size glyphs b →
    a ≤ length ranges → b ≤ length ranges → a ≡ b
one_end ranges size glyphs a b ends others within most = by (cases_lt a b) (cases_lt b a)
  where
    by : (a < b) ⊎ (b ≤ a) → (b < a) ⊎ (a ≤ b) → a ≡ b
    by (inl less) other = absurd (no_less ranges size glyphs a b ends others most less)
    by (inr le) (inl more) = absurd (no_less ranges size glyphs b a others ends within more)
    by (inr le) (inr ge) = omega (arith, le, ge)
