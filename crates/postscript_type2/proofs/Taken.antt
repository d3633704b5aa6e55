-- How many operands each form of lengths takes.
use Rattle.std.proofs.lemmas.Bool.Decides.{nat_tests}
use Rattle.std.proofs.Common.{◌≡◌, ℕ, ◌-◌, ◌%◌, ◌≤◌, Some, arith}
use Rattle.postscript_type2.specs.Operation.Lengths.{exactly, curves_of_four, greatest}
use Rattle.postscript_type2.proofs.Greatest.{greatest-is}

pub exactly-taken : (m n : ℕ) → m ≤ n → greatest (exactly m) n ≡ Some m
exactly-taken m n h = greatest-is (exactly m) n m h (grind (arith, nat_tests)) (λ j above below. grind (arith, nat_tests))

-- fours, and one more where it is there
pub fours-taken : (n : ℕ) → 4 ≤ n → greatest curves_of_four n ≡ Some (n - (n % 4 - 1))
fours-taken n h =
    greatest-is curves_of_four n (n - (n % 4 - 1)) (omega arith) (grind (arith, nat_tests)) (λ j above below. grind (arith, nat_tests))
