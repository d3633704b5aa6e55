-- Numbers of one byte.
use Rattle.std.proofs.lemmas.Bool.Decides.{nat_tests}
use Rattle.std.proofs.Common.{◌≡◌, ◌≤◌, ℕ, ◌+◌, ℤ, Bool, true, false, ltb-true, List, [], ◌∷◌, ◌++◌, ◌&&◌, nat_lt, drop, arith}
use Rattle.postscript_type2.specs.Private.Alone.{is_alone, alone}
use Rattle.postscript_type2.specs.Program.Parsing.{phrase, fronted}
use Rattle.postscript_type2.proofs.Pieces.{front-small}

both : (t u : Bool) → (t && u) ≡ true → (t ≡ true) × (u ≡ true)
both t u is = grind arith

-- a number of one byte is one more of the phrase
pub front-first : (k : ℕ) (stack : List ℤ) (bytes rest : List ℕ) (b : ℕ) → bytes ≡ b ∷ rest → is_alone b ≡ true →
    fronted (stack ++ alone b ∷ []) (k + 1) (phrase (drop 1 bytes)) ≡ fronted stack k (phrase bytes)
front-first k stack bytes rest b is one =
    let tests = both (nat_lt 0x1f b) (nat_lt b 0xf7) one in
    front-small k stack bytes rest b is (omega (arith, ltb-true 0x1f b tests.0)) (omega (arith, ltb-true b 0xf7 tests.1))

-- a number that is not of one byte
pub of-more : (b : ℕ) → is_alone b ≡ false → 32 ≤ b → 247 ≤ b
of-more b other low = grind (arith, nat_tests)
