-- Ranges of a charset that go on, and their text.
use Rattle.std.proofs.Common.{◌≡◌, sym, ap, subst, ℕ, zero, suc, ◌∙◌, ◌+◌, ◌-◌, ◌<◌, List, [], ◌∷◌, ◌++◌, length, get_or, add-one, append_assoc, append-nil, arith}
use Rattle.std.specs.List.{range_with_len}
use Rattle.std.specs.Prelude.{flat_map}
use Rattle.std.proofs.lemmas.Grind.{flat_map-append}
use Rattle.std.proofs.lemmas.List.Concat.{flat_map-cons}
use Rattle.postscript_write.specs.Firsts.{AreFirsts}
use Rattle.postscript_write.specs.SetTexts.{Continue, IsNext}
use Rattle.postscript_write.proofs.Firsts.{swap}

pub continued : (identifiers firsts lent : List ℕ) (n : ℕ) → lent ≡ firsts → IsNext identifiers lent n →
    AreFirsts (Continue identifiers) firsts n → (r : ℕ) → r + 1 ≡ length firsts → Continue identifiers (get_or firsts r n) (n - 1) →
    Continue identifiers (get_or firsts r n) n
continued identifiers firsts lent n same next are r last goes =
    let some = next.0 in
    let step = next.1 in
    let far : n < get_or firsts (length firsts - 1) 0 + 256 = subst (λ xs. n < get_or xs (length xs - 1) 0 + 256) same next.2 in
    let at : get_or firsts (length firsts - 1) 0 ≡ get_or firsts r 0 = ap (λ k. get_or firsts k 0) (omega (arith, last)) in
    let own : get_or firsts r 0 ≡ get_or firsts r n = swap firsts r 0 n (omega (arith, last)) in
    let told = goes.0 in
    let order = goes.1 in
    (omega (arith, some, step, told), omega (arith, order), omega (arith, far, at, own))

-- the numbers below a number, and one number more
range-from : (a n m : ℕ) → a + n ≡ m → range_with_len a (suc n) ≡ range_with_len a n ++ m ∷ []
range-from a zero m same = ap (λ (k : ℕ). k ∷ []) (omega (arith, same))
range-from a (suc n) m same = ap (λ (xs : List ℕ). a ∷ xs) (range-from (a + 1) n m (omega (arith, same)))

-- one row more
pub row-more : (row : ℕ → List ℕ) (old head rows new : List ℕ) (n : ℕ) → rows ≡ old ++ (head ++ flat_map row (range_with_len 0 n)) →
    new ≡ rows ++ row n → new ≡ old ++ (head ++ flat_map row (range_with_len 0 (n + 1)))
row-more row old head rows new n before is =
    let all : range_with_len 0 (n + 1) ≡ range_with_len 0 n ++ n ∷ [] = ap (range_with_len 0) (add-one n) ∙ range-from 0 n n (omega arith) in
    let last : flat_map row (n ∷ []) ≡ row n = flat_map-cons row n [] ∙ append-nil (row n) in
    let both : flat_map row (range_with_len 0 (n + 1)) ≡ flat_map row (range_with_len 0 n) ++ row n =
    ap (flat_map row) all ∙ flat_map-append row (range_with_len 0 n) (n ∷ []) ∙ ap (λ xs. flat_map row (range_with_len 0 n) ++ xs) last in
    is ∙ ap (λ xs. xs ++ row n) before
    ∙ append_assoc old (head ++ flat_map row (range_with_len 0 n)) (row n)
    ∙ ap (λ xs. old ++ xs) (append_assoc head (flat_map row (range_with_len 0 n)) (row n))
    ∙ ap (λ xs. old ++ (head ++ xs)) (sym both)
