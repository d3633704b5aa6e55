-- The entries of known DICTs.
use Rattle.std.proofs.Common.{◌≡◌, refl, ℕ, List, [], ◌∷◌, arith}
use Rattle.postscript_base.specs.Index.{number_at}
use Rattle.postscript_cff2.specs.Entries.{AreEntries, Listed, cut_off, skips, lists}
use Rattle.postscript_cff2.specs.Tokens.{byte_at, operand_size}

-- the operand 100 and CharStrings (17), then no operand and FDArray (12 36), and an operator of two bytes that is cut off
dict : List ℕ
dict = 0xef ∷ 17 ∷ 12 ∷ 36 ∷ 12 ∷ []

entries : List Listed
entries =
    record { operator = 17; entry = record { start = 0; place = 1 } } ∷
    record { operator = 3108; entry = record { start = 2; place = 2 } } ∷ []

are_entries : AreEntries dict 0 0 entries
unfolding dict entries number_at operand_size
are_entries =
    let first : byte_at dict 0 ≡ 0xef = refl in
    let one : operand_size dict 0 ≡ 1 = refl in
    let second : byte_at dict 1 ≡ 17 = refl in
    let third : byte_at dict 2 ≡ 12 = refl in
    let last : byte_at dict 4 ≡ 12 = refl in
    skips 0 0 _ (omega arith) (omega (arith, first))
    (lists 1 0 2 _ (omega arith) (omega (arith, second)) refl (omega arith)
    (lists 2 2 4 _ (omega arith) (omega (arith, third)) refl (omega arith)
    (cut_off 4 4 (omega arith) (omega (arith, last)) (omega (arith, last)))))
