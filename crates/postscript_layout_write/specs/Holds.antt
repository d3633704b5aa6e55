-- Texts at offsets. Only proofs and contracts of private functions name this.
use Rattle.std.specs.Prelude.{◌≡◌, ℕ, List, ◌++◌, length}

-- a text is at an offset
pub record Holds (text bytes : List ℕ) (offset : ℕ) : Type 0 where
  pub front : List ℕ
  pub behind : List ℕ
  pub is : bytes ≡ front ++ (text ++ behind)
  pub place : length front ≡ offset
