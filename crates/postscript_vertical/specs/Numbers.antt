-- Numbers of two bytes (ISO/IEC 14496-22, 4.3, "Data types"), the high byte first.
use Rattle.std.specs.Prelude.{◌≡◌, ℕ, ◌+◌, ◌*◌, ◌≤◌, ◌++◌, List, length, slice_index_or}
use Rattle.std.specs.Int.{to_be_bytes, w16}

-- the number at an offset of a table; a byte past the end of the table is 0
unfoldable pub word : List ℕ → (offset : ℕ) → ℕ
word table offset = slice_index_or table offset 0 * 256 + slice_index_or table (offset + 1) 0

-- Only private contracts and proofs use the definitions that follow. A number is appended, and all numbers before it are the same.
pub record Puts (number : ℕ) (old new : List ℕ) : Type 0 where
  pub text : new ≡ old ++ to_be_bytes w16 number
  pub size : length new ≡ length old + 2
  pub same : (offset : ℕ) → offset + 2 ≤ length old → word new offset ≡ word old offset
  pub put : word new (length old) ≡ number

-- two numbers are appended
pub record PutsPair (first second : ℕ) (old new : List ℕ) : Type 0 where
  pub size : length new ≡ length old + 4
  pub same : (offset : ℕ) → offset + 2 ≤ length old → word new offset ≡ word old offset
  pub first_put : word new (length old) ≡ first
  pub second_put : word new (length old + 2) ≡ second
