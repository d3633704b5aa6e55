-- Sums of costs, and limits that are below them.
use Rattle.std.proofs.Common.{◌≡◌, sym, subst, ap, inl, inr, ℕ, zero, suc, ◌+◌, ◌<◌, ◌≤◌, Result, Ok, Err, add-one, arith}
use Rattle.std.specs.Prelude.{IfErr, IsErrAnd}
use Rattle.postscript_layout.specs.Costs.{IsShort, total}
use Rattle.postscript_layout.specs.declared.error.Error.{Error}
use Rattle.postscript_layout.proofs.Following.{nat_cases}

-- an error that is passed on
pub if-err : {A E : Type 0} (r : Result A E) (e : E) (P : E → Type 0) → IsErrAnd r (λ x. x ≡ e) → P e → IfErr r P
if-err (Ok x) e P same holds = tt
if-err (Err x) e P same holds = subst P (sym same) holds

pub total-more : (cost : ℕ → ℕ) (n : ℕ) → total cost (n + 1) ≡ total cost n + cost n
total-more cost n = ap (total cost) (add-one n)

pub total-within : (cost : ℕ → ℕ) (i n : ℕ) → i < n → total cost i + cost i ≤ total cost n
total-within cost i zero less = absurd (omega (arith, less))
total-within cost i (suc n) less = elim (nat_cases i n) [
  | inl before ↦ (let more = total-within cost i n before in omega (arith, more))
  | inr far ↦ (let same : n ≡ i = omega (arith, less, far) in subst (λ k. total cost k + cost k ≤ total cost n + cost n) same (omega arith))
]

-- a limit that was short for a part was short for the whole, by what was paid before the part
pub short-by : (cost whole limit now left : ℕ) (e : Error) → limit + cost ≤ now + whole → IsShort cost now left e → IsShort whole limit left e
short-by cost whole limit now left e paid is =
    record { too_long = is.too_long; none = is.none; short = (let less = is.short in omega (arith, paid, less)) }

-- a loop over parts: a part more, an error in a part, and the end
pub part-within : (cost : ℕ → ℕ) (k limit now rest : ℕ) → limit ≤ now + total cost k → now ≤ rest + cost k → limit ≤ rest + total cost (k + 1)
part-within cost k limit now rest so_far part = let more = total-more cost k in omega (arith, so_far, part, more)

pub part-short : (cost : ℕ → ℕ) (k n limit now left : ℕ) (e : Error) → limit ≤ now + total cost k → k < n → IsShort (cost k) now left e →
    IsShort (total cost n) limit left e
part-short cost k n limit now left e so_far less is =
    short-by (cost k) (total cost n) limit now left e (let most = total-within cost k n less in omega (arith, so_far, most)) is

pub parts-within : (cost : ℕ → ℕ) (k n limit now : ℕ) → limit ≤ now + total cost k → k ≡ n → limit ≤ now + total cost n
parts-within cost k n limit now so_far same = subst (λ (m : ℕ). limit ≤ now + total cost m) same so_far
