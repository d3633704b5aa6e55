-- Works on the end of a stack.
use Rattle.std.proofs.lemmas.Grind.{common_steps}
use Rattle.std.proofs.Math.Seq.{take-append_seam, get_or-append_seam}
use Rattle.std.proofs.lemmas.Option.{slice_get-get_or}
use Rattle.std.proofs.lemmas.Bool.Decides.{nat_tests}
use Rattle.std.proofs.Common.{◌≡◌, ap, sym, ◌∙◌, ℕ, ◌+◌, ◌-◌, ◌≤◌, ℤ, int_le, nat_lt, true, List, [], ◌∷◌, ◌++◌, length, length-append, append_assoc, slice_get, Some, None, Result, Ok, Err, if◌then◌else◌, arith}
use Rattle.std.specs.Option.{ok_or}
use Rattle.postscript_base.specs.Refusal.{Refusal, expected_operand, expected_more_operands}
use Rattle.postscript_type2.specs.Number.{whole}
use Rattle.postscript_type2.specs.Program.Stacks.{one_to_one, two_to_one, choice, removal, exchange}
use Rattle.postscript_type2.specs.Program.StackWork.{Work, ◌>>=◌, given, pop, whole_operand, operand_below, push}
use Rattle.postscript_type2.proofs.Wholes.{to_int-whole}

-- the item behind a front
pub get-seam : (front : List ℤ) (x : ℤ) (behind : List ℤ) → slice_get (front ++ x ∷ behind) (length front) ≡ Some x
get-seam front x behind =
    let many : length (front ++ x ∷ behind) ≡ length front + length (x ∷ behind) = length-append front (x ∷ behind) in
    slice_get-get_or (front ++ x ∷ behind) (length front) x (omega arith) ∙ ap Some (get_or-append_seam front x behind x)

-- a list is empty, or has a last item
pub data Ending : List ℤ → Type 0 where
  nothing : Ending []
  last : (beneath : List ℤ) (x : ℤ) → Ending (beneath ++ x ∷ [])

with_front : (a : ℤ) (xs : List ℤ) → Ending xs → Ending (a ∷ xs)
with_front a _ nothing = last [] a
with_front a _ (last beneath x) = last (a ∷ beneath) x

pub ending : (xs : List ℤ) → Ending xs
ending [] = nothing
ending (a ∷ xs) = with_front a xs (ending xs)

pub popped : {B : Type 0} (e : Refusal) (beneath : List ℤ) (x : ℤ) (next : ℤ → Work B) → (pop e >>= next)
    (beneath ++ x ∷ []) ≡ next x beneath
popped e beneath x next = grind (arith, nat_tests, common_steps, get-seam, take-append_seam, length-append)

pub whole-popped : {B : Type 0} (beneath : List ℤ) (n : ℤ) (next : ℤ → Work B) → (whole_operand >>= next)
    (beneath ++ whole n ∷ []) ≡ next n beneath
whole-popped beneath n next = grind (arith, popped, to_int-whole)

pub two-last : (beneath : List ℤ) (a b : ℤ) → beneath ++ (a ∷ b ∷ []) ≡ (beneath ++ a ∷ []) ++ b ∷ []
two-last beneath a b = sym (append_assoc beneath (a ∷ []) (b ∷ []))

pub one-last : (f : ℤ → Result ℤ Refusal) (beneath : List ℤ) (a : ℤ) → one_to_one f (beneath ++ a ∷ []) ≡ (given (f a) >>= push) beneath
one-last f beneath a = popped expected_operand beneath a (λ a. given (f a) >>= push)

pub two-lasts : (f : ℤ → ℤ → Result ℤ Refusal) (beneath : List ℤ) (a b : ℤ) →
    two_to_one f (beneath ++ (a ∷ b ∷ [])) ≡ (given (f a b) >>= push) beneath
two-lasts f beneath a b = grind (arith, two-last, popped)

-- four popped one after the other
four-last : (beneath : List ℤ) (p q v w : ℤ) → beneath ++ (p ∷ q ∷ v ∷ w ∷ []) ≡ (((beneath ++ p ∷ []) ++ q ∷ []) ++ v ∷ []) ++ w ∷ []
four-last beneath p q v w = simp append_assoc

pub choice-last : (beneath : List ℤ) (p q v w : ℤ) →
    choice (beneath ++ (p ∷ q ∷ v ∷ w ∷ [])) ≡ Ok (tt, beneath ++ (if int_le v w then p else q) ∷ [])
choice-last beneath p q v w = grind (arith, four-last, popped)

pub removal-last : (beneath : List ℤ) (a : ℤ) → removal (beneath ++ a ∷ []) ≡ Ok (tt, beneath)
removal-last beneath a = popped expected_operand beneath a (λ _. given (Ok tt))

pub exchange-last : (beneath : List ℤ) (a b : ℤ) → exchange (beneath ++ (a ∷ b ∷ [])) ≡ Ok (tt, beneath ++ (b ∷ a ∷ []))
exchange-last beneath a b = grind (arith, two-last, popped)

-- an operand so far down, and where none is
pub below-there : (beneath : List ℤ) (x : ℤ) (above : List ℤ) → operand_below (length above)
    (beneath ++ x ∷ above) ≡ Ok (x, beneath ++ x ∷ above)
below-there beneath x above =
    let all : length (beneath ++ x ∷ above) ≡ length beneath + length (x ∷ above) = length-append beneath (x ∷ above) in
    let there : length (beneath ++ x ∷ above) - 1 - length above ≡ length beneath = omega (arith, all) in
    let test : nat_lt (length above) (length (beneath ++ x ∷ above)) ≡ true = grind (arith, nat_tests) in
    let found : slice_get (beneath ++ x ∷ above) (length (beneath ++ x ∷ above) - 1 - length above) ≡ Some x = rw there
    (get-seam beneath x above) in
    ap (λ o. given (ok_or o expected_more_operands) (beneath ++ x ∷ above))
    (ap (λ b. if b then slice_get (beneath ++ x ∷ above) (length (beneath ++ x ∷ above) - 1 - length above) else None) test ∙ found)

pub below-past : (stack : List ℤ) (i : ℕ) → length stack ≤ i → operand_below i stack ≡ Err expected_more_operands
below-past stack i past = grind arith
