-- UTF-16 texts. Each unit has two bytes, high byte first, and a pair of surrogates is one character.
use Rattle.std.specs.Prelude.{◌≡◌, ◌⊎◌, ℕ, ◌+◌, ◌-◌, ◌*◌, ◌<◌, ◌≤◌, List, length}
use Rattle.postscript_base.specs.Index.{number_at}

abbrev pub IsHigh : (unit : ℕ) → Type 0
IsHigh unit = (0xd800 ≤ unit) × (unit < 0xdc00)

abbrev pub IsLow : (unit : ℕ) → Type 0
IsLow unit = (0xdc00 ≤ unit) × (unit < 0xe000)

abbrev pub pair : (high low : ℕ) → ℕ
pair high low = 0x10000 + (high - 0xd800) * 0x400 + (low - 0xdc00)

-- the bytes begin with a high and a low surrogate
pub record IsPaired (bytes : List ℕ) : Type 0 where
  pub room : 4 ≤ length bytes
  pub high : IsHigh (number_at bytes 0 2)
  pub low : IsLow (number_at bytes 2 2)

-- The first character and its size in bytes. A pair of surrogates has four bytes, and any other unit has two. An unpaired surrogate becomes
-- U+FFFD.
pub record BeginsUtf16 (bytes : List ℕ) (char size : ℕ) : Type 0 where
  pub paired : IsPaired bytes → (char ≡ pair (number_at bytes 0 2) (number_at bytes 2 2)) × (size ≡ 4)
  pub alone : (IsPaired bytes → ⊥) → size ≡ 2
  pub below : number_at bytes 0 2 < 0xd800 → char ≡ number_at bytes 0 2
  pub above : 0xe000 ≤ number_at bytes 0 2 → char ≡ number_at bytes 0 2
  pub lost : (IsPaired bytes → ⊥) → IsHigh (number_at bytes 0 2) ⊎ IsLow (number_at bytes 0 2) → char ≡ 0xfffd
