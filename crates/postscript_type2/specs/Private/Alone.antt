-- Numbers of one byte (Technical Note 5177, "Charstring Number Encoding").
use Rattle.std.specs.Prelude.{ℕ, ℤ, Bool, nat_lt, ◌&&◌}
use Rattle.postscript_base.specs.Numbers.{small}
use Rattle.postscript_type2.specs.Number.{whole}

-- whether a byte is a number by itself
abbrev pub is_alone : ℕ → Bool
is_alone b = nat_lt 0x1f b && nat_lt b 0xf7

-- the number of this byte
abbrev pub alone : ℕ → ℤ
alone b = whole (small b)
