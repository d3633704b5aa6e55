-- The checksum of a table (ISO/IEC 14496-22, 4.5, "Calculating checksums"): the sum of its numbers of four bytes.
use Rattle.std.specs.Prelude.{ℕ, ◌%◌, ◌^◌, List, [], ◌∷◌, sum}
use Rattle.postscript_base.specs.Numbers.{big_endian}

-- the numbers of four bytes, with the last one padded with zeros
unfoldable pub words : List ℕ → List ℕ
words [] = []
words (a ∷ []) = big_endian (a ∷ 0 ∷ 0 ∷ 0 ∷ []) ∷ []
words (a ∷ b ∷ []) = big_endian (a ∷ b ∷ 0 ∷ 0 ∷ []) ∷ []
words (a ∷ b ∷ c ∷ []) = big_endian (a ∷ b ∷ c ∷ 0 ∷ []) ∷ []
words (a ∷ b ∷ c ∷ d ∷ rest) = big_endian (a ∷ b ∷ c ∷ d ∷ []) ∷ words rest

-- their sum modulo 2 ^ 32
abbrev pub checksum : List ℕ → ℕ
checksum bytes = sum (words bytes) % 2 ^ 32
