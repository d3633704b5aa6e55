-- How many bytes are written.
use Rattle.std.proofs.Common.{◌≡◌, ℕ, ◌+◌, ◌<◌, List, [], ◌∷◌, ◌++◌, length, length-append, flat_map, arith, ap}
use Rattle.postscript_sequences.specs.Sizes.{table_size}
use Rattle.postscript_sequences.specs.Text.{uint32}
use Rattle.postscript_sequences.proofs.Reading.{length32, length_items}

-- a table that has entries
pub table_length : {X : Type 0} (entry : ℕ) (f : X → List ℕ) → ((x : X) → length (f x) ≡ entry) → (items : List X) → 0 < length items →
    (count : ℕ) (old middle new : List ℕ) → middle ≡ old ++ uint32 count → new ≡ middle ++ flat_map f items →
    length new ≡ length old + table_size entry items
table_length entry f sized [] some count old middle new first next = absurd (omega (arith, some))
table_length entry f sized (x ∷ xs) some count old middle new first next =
    let a = ap length first in let b = ap length next in let c = length_items f entry sized (x ∷ xs) in
    omega (arith, a, b, c, length-append old (uint32 count), length32 count, length-append middle (flat_map f (x ∷ xs)))
