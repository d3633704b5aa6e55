-- Inlined code, as far as it is written.
use Rattle.std.proofs.Math.Seq.{drop-cons, take-add, drop-length, take-length}
use Rattle.std.proofs.lemmas.List.{append-nil, drop-drop, take-append-drop}
use Rattle.std.proofs.Math.ListN.{drop_of_length-le}
use Rattle.std.proofs.Common.{◌≡◌, ap, sym, ◌∙◌, ℕ, ◌+◌, ◌-◌, ◌<◌, ◌≤◌, List, [], ◌∷◌, ◌++◌, take, drop, length, append_assoc, get_or, add-one, ◌⊎◌, Option, Some, None, option_map, arith}
use Rattle.postscript_type2.specs.declared.operation.Operator.{Operator}
use Rattle.postscript_type2.specs.declared.operation.Operator.TheVariants.{CallSubr, CallGSubr, Return}
use Rattle.postscript_type2.specs.declared.program.inlined.Inlined.{Inlined}
use Rattle.postscript_type2.specs.Program.Inlined.{behind_first, unless_last, before_last, Stands, call_piece, piece, put_before, pieced, inlined, text}
use Rattle.postscript_type2.specs.Program.Runs.{Phrase, by}
use Rattle.postscript_type2.specs.Private.Written.{written}
use Rattle.postscript_type2.proofs.LastNumbers.{past-is}

-- the numbers before the last, where the last that begins before a place is known, by those behind the place
left : (numbers : List ℕ) (last : Option ℕ) (next : ℕ) → Option (List ℕ) → Option (List ℕ)
left numbers last next None = option_map (λ place. take place numbers) last
left numbers last next (Some front) = Some (take next numbers ++ front)

pub so_far : (numbers : List ℕ) (last : Option ℕ) (next : ℕ) → Option (List ℕ)
so_far numbers last next = left numbers last next (before_last (drop next numbers))

pub before-first : (numbers : List ℕ) → before_last numbers ≡ so_far numbers None 0
unfolding so_far left
before-first numbers = grind arith

pub one-more : (numbers : List ℕ) (last : Option ℕ) (next : ℕ) → next < length numbers →
    so_far numbers last next ≡ so_far numbers (Some next) (next + (behind_first (get_or numbers next 0) + 1))
unfolding so_far left
one-more numbers last next h =
    let b : ℕ = get_or numbers next 0 in
    let r : List ℕ = drop (next + 1) numbers in
    let k : ℕ = behind_first b in
    let there : drop next numbers ≡ b ∷ r = drop-cons numbers next 0 h ∙ ap (λ i. b ∷ drop i numbers) (sym (add-one next)) in
    let behind : drop k r ≡ drop (next + (k + 1)) numbers = drop-drop k (next + 1) numbers
    ∙ ap (λ i. drop i numbers) (let e : next + 1 + k ≡ next + (k + 1) = omega arith in e) in
    let front : take (next + (k + 1)) numbers ≡ take next numbers ++ (b ∷ take k r) =
    take-add next (k + 1) numbers ∙ ap (λ xs. take next numbers ++ take (k + 1) xs) there
    ∙ ap (λ i. take next numbers ++ take i (b ∷ r)) (add-one k) in
    ap (λ xs. left numbers last next (before_last xs)) there
    ∙ ap (λ o. Some (take next numbers ++ unless_last b o))
    (past-is k r ∙ ap (λ xs. option_map (λ f. take k r ++ f) (before_last xs)) behind)
    ∙ by_last b k r (before_last (drop (next + (k + 1)) numbers)) front
  where
    by_last : (b k : ℕ) (r : List ℕ) (o : Option (List ℕ)) → take (next + (k + 1)) numbers ≡ take next numbers ++ (b ∷ take k r) →
        Some (take next numbers ++ unless_last b (option_map (λ f. take k r ++ f) o)) ≡ left numbers (Some next) (next + (k + 1)) o
    by_last b k r None front = ap Some (append-nil (take next numbers))
    by_last b k r (Some f) front = ap Some (sym (append_assoc (take next numbers) (b ∷ take k r) f) ∙ ap (λ xs. xs ++ f) (sym front))

pub none-more : (numbers : List ℕ) (last : Option ℕ) (next : ℕ) → length numbers ≤ next →
    so_far numbers last next ≡ option_map (λ place. take place numbers) last
unfolding so_far left
none-more numbers last next h = ap (λ xs. left numbers last next (before_last xs)) (drop_of_length-le numbers h)

-- what stays of a call, and of a phrase that neither calls nor returns
pub call-stays : (op : Operator) (bytes : List ℕ) (n : ℕ) (o : Option (List ℕ)) → (op ≡ CallSubr) ⊎ (op ≡ CallGSubr) →
    n ≡ length bytes - 1 → before_last (take n bytes) ≡ o →
    piece (by op bytes) ≡ call_piece o
call-stays op bytes n o h0 is last = grind arith

pub others-stay : (op : Operator) (bytes : List ℕ) → (op ≡ CallSubr → ⊥) → (op ≡ Return → ⊥) → (op ≡ CallGSubr → ⊥) →
    piece (by op bytes) ≡ Stands (by op bytes)
others-stay op bytes h0 back gsub = grind arith

put-none : (phrases : List Phrase) → put_before [] phrases ≡ phrases
put-none phrases = grind arith

stands-behind : (code bytes : List ℕ) (whole : ℕ) (op : Operator) (phrases : List Phrase) →
    take whole code ++ text (put_before (drop whole code) (by op bytes ∷ phrases)) ≡ (code ++ bytes) ++ text phrases
stands-behind code bytes whole op phrases = ap (λ xs. take whole code ++ xs) (append_assoc (drop whole code) bytes (text phrases))
    ∙ sym (append_assoc (take whole code) (drop whole code) (bytes ++ text phrases))
    ∙ ap (λ xs. xs ++ (bytes ++ text phrases)) (take-append-drop whole code) ∙ sym (append_assoc code bytes (text phrases))

-- a phrase that stands is written
pub stands-written : (old new : Inlined) (bytes : List ℕ) (op : Operator) (said : Phrase) → new.code.items ≡ old.code.items ++ bytes →
    new.whole ≡ length new.code.items →
    piece said ≡ Stands (by op bytes) → (more : List Phrase) → written new more ≡ written old (said ∷ more)
stands-written old new bytes op said appended all is more =
    let code : List ℕ = new.code.items in
    ap (λ n. take n code ++ text (put_before (drop n code) (inlined more))) all
    ∙ ap (λ xs. xs ++ text (put_before (drop (length code) code) (inlined more))) (take-length code)
    ∙ ap (λ xs. code ++ text (put_before xs (inlined more))) (drop-length code)
    ∙ ap (λ phrases. code ++ text phrases) (put-none (inlined more))
    ∙ ap (λ xs. xs ++ text (inlined more)) appended ∙ sym (stands-behind old.code.items bytes old.whole op (inlined more))
    ∙ ap (λ p. take old.whole old.code.items ++ text (put_before (drop old.whole old.code.items) (pieced p (inlined more)))) (sym is)
