-- Each part of a font ends in one place.
use Rattle.std.proofs.Common.{◌≡◌, ◌∙◌, sym, ℕ, ◌≤◌, List, inl, inr, Option, Some, arith}
use Rattle.postscript_write.specs.Whole.{SupplementsEnd}

-- an answer is one
pub one_some : {A : Type 0} {x : Option A} {a b : A} → x ≡ Some a → x ≡ Some b → a ≡ b
one_some is other = let same = sym is ∙ other in cc

-- supplements stand behind codes
pub behind_codes : (bytes : List ℕ) (format codes next : ℕ) → SupplementsEnd bytes format codes next → codes ≤ next
behind_codes bytes format codes next (inl (low, is)) = omega (arith, is)
behind_codes bytes format codes next (inr (high, is)) = omega (arith, is)
