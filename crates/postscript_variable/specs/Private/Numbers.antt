-- Numbers that are pushed onto a stack, one after another.
use Rattle.std.specs.Prelude.{◌≡◌, ◌<◌, ◌+◌, ◌-◌, ℕ, suc, ℤ, List, [], ◌∷◌, ◌++◌, drop, length}
use Rattle.postscript_variable.specs.State.{stack_limit}
use Rattle.postscript_variable.specs.Tokens.{Number, token}

-- a number at the front of bytes that begin at an offset, and the offset after it
abbrev pub IsNumberAt : (bytes : List ℕ) → (place : ℕ) → ℤ → (next : ℕ) → Type 0
IsNumberAt bytes place x next = (first : ℕ) × (behind : List ℕ) × (more : ℕ) × (bytes ≡ first ∷ behind) ×
    (token first behind ≡ Number x more) × (next ≡ place + suc more)

-- Numbers at the front of bytes are pushed while the stack is not full and the limit is above 0. Each one takes a unit of the limit for
-- each of its bytes, or all that is left.
pub data PutsNumbers (bytes : List ℕ) (stack : List ℤ) (limit : ℕ) : (rest : List ℕ) → (stack' : List ℤ) → (left : ℕ) → Type 0 where
  none : PutsNumbers bytes stack limit bytes stack limit
  one_more : (first : ℕ) (behind : List ℕ) (between : List ℤ) (left : ℕ) (x : ℤ) (more : ℕ) →
      PutsNumbers bytes stack limit (first ∷ behind) between left →
      token first behind ≡ Number x more → length between < stack_limit → 0 < left →
      PutsNumbers bytes stack limit (drop more behind) (between ++ x ∷ []) (left - suc more)
