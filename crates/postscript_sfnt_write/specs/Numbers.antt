-- Numbers in a file (ISO/IEC 14496-22, 4.3, "Data types"): the high byte is first.
use Rattle.std.specs.Prelude.{ℕ, List}
use Rattle.std.specs.Int.{to_be_bytes, w16, w32}

unfoldable pub uint16 : ℕ → List ℕ
uint16 n = to_be_bytes w16 n

unfoldable pub uint32 : ℕ → List ℕ
uint32 n = to_be_bytes w32 n
