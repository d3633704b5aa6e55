-- Numbers with 16 bits before the point and 16 after it, as bits (Technical Note 5177, "Arithmetic Operators" and "Conditional Operators").
use Rattle.std.specs.Option.{unwrap_or}
use Rattle.std.specs.Ordering.{int_eq}
use Rattle.std.specs.Prelude.{ℕ, ◌*◌, ◌/◌, ◌^◌, ℤ, pos, neg_ℤ, nat_abs, ◌+ℤ◌, ◌-ℤ◌, ◌*ℤ◌, int_lt, int_le, nat_le, Bool, not, ◌&&◌, ◌||◌, Result, Ok, Err, if◌then◌else◌}
use Rattle.postscript_base.specs.Refusal.{Refusal, overflow, zero_divisor, negative_root}
use Rattle.postscript_type2.specs.Operation.Lengths.{greatest}
use Rattle.postscript_type2.specs.Number.{whole}

-- whether exactly one of two numbers is negative
abbrev pub is_one_below : ℤ → ℤ → Bool
is_one_below x y = if int_lt x (pos 0) then not (int_lt y (pos 0)) else int_lt y (pos 0)

-- the quotient, rounded towards zero: |x| / |y| rounded down, and negative if exactly one of the two is
abbrev pub cut : ℤ → ℤ → ℤ
cut x y =
    let whole_part = pos (nat_abs x / nat_abs y) in
    if is_one_below x y then neg_ℤ whole_part else whole_part

-- the bits, if they fit in 32 bits
abbrev pub fit : ℤ → Result ℤ Refusal
fit bits = if int_lt bits (neg_ℤ (pos (2 ^ 31))) || int_le (pos (2 ^ 31)) bits then Err overflow else Ok bits

-- the greatest r with r * r ≤ n
unfoldable pub whole_root : ℕ → ℕ
whole_root n = unwrap_or (greatest (λ r. nat_le (r * r) n) n) 0

abbrev pub absolute_value : ℤ → Result ℤ Refusal
absolute_value a = fit (pos (nat_abs a))

abbrev pub opposite : ℤ → Result ℤ Refusal
opposite a = fit (neg_ℤ a)

abbrev pub sum : ℤ → ℤ → Result ℤ Refusal
sum a b = fit (a +ℤ b)

abbrev pub difference : ℤ → ℤ → Result ℤ Refusal
difference a b = fit (a -ℤ b)

abbrev pub product : ℤ → ℤ → Result ℤ Refusal
product a b = fit (cut (a *ℤ b) (pos 65536))

abbrev pub quotient : ℤ → ℤ → Result ℤ Refusal
quotient a b = if int_eq b (pos 0) then Err zero_divisor else fit (cut (a *ℤ pos 65536) b)

-- the square root of a number that is not negative, as bits: the greatest r with r * r ≤ a * 65536
abbrev pub root : ℤ → Result ℤ Refusal
root a = if int_lt a (pos 0) then Err negative_root else Ok (pos (whole_root (nat_abs a * 65536)))

-- the result of a test: one or zero
abbrev pub truth : Bool → ℤ
truth b = if b then whole (pos 1) else whole (pos 0)

-- every number except zero is true
abbrev pub is_true : ℤ → Bool
is_true a = not (int_eq a (pos 0))

abbrev pub both : ℤ → ℤ → Result ℤ Refusal
both a b = Ok (truth (is_true a && is_true b))

abbrev pub either : ℤ → ℤ → Result ℤ Refusal
either a b = Ok (truth (is_true a || is_true b))

abbrev pub denial : ℤ → Result ℤ Refusal
denial a = Ok (truth (not (is_true a)))

abbrev pub same_bits : ℤ → ℤ → Result ℤ Refusal
same_bits a b = Ok (truth (int_eq a b))
