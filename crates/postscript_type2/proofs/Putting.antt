-- Numbers that are put onto a stack, one after another.
use Rattle.std.proofs.Common.{◌≡◌, refl, inl, inr, ap, sym, ◌∙◌, ℕ, suc, ◌+◌, ◌<◌, ◌≤◌, Bool, true, false, ltb-true, nat_lt, if◌then◌else◌, List, [], ◌∷◌, ◌++◌, length, take, drop, get_or, ℤ, length-drop, arith}
use Rattle.std.proofs.lemmas.Bool.{ltb-false}
use Rattle.std.proofs.lemmas.List.{drop-drop}
use Rattle.std.proofs.Math.Seq.{drop-cons}
use Rattle.postscript_base.specs.Tape.Outcome.{Got}
use Rattle.postscript_type2.specs.declared.refused.Refused.{Refused}
use Rattle.postscript_type2.specs.Refused.{reason}
use Rattle.postscript_base.specs.Numbers.{above, below}
use Rattle.postscript_type2.specs.Number.{number, whole}
use Rattle.postscript_type2.specs.Program.Phrases.{IsNumber}
use Rattle.postscript_type2.specs.Program.Phrases.IsNumber.{positive, negative}
use Rattle.postscript_type2.specs.Private.Alone.{is_alone, alone}
use Rattle.postscript_type2.specs.Private.Tokens.{IsPhraseRefused, Puts}
use Rattle.postscript_type2.specs.Program.Parsing.{is_number, phrase}
use Rattle.postscript_type2.proofs.Alone.{front-first}
use Rattle.postscript_type2.proofs.Bytes.{number-there}
use Rattle.postscript_type2.proofs.NumberLaws.{reads_numbers}
use Rattle.postscript_type2.proofs.Pieces.{front-number, front-shorter, refused-behind, small-begins}

-- the byte at a place, and those behind it
pub here : (code : List ℕ) (place : ℕ) → place < length code → drop place code ≡ get_or code place 0 ∷ drop (place + 1) code
here code place there =
    let on : suc place ≡ place + 1 = omega arith in drop-cons code place 0 there ∙ ap (λ n. get_or code place 0 ∷ drop n code) on

-- the number at a place
pub puts-number : (code : List ℕ) (place : ℕ) (stack : List ℤ) (first : ℕ) (rest : List ℕ) (x : ℤ) (next : ℕ) →
    drop place code ≡ first ∷ rest → is_number first ≡ true → number code place ≡ Got x next →
    Puts code place stack next (stack ++ x ∷ []) × (place < next)
puts-number code place stack first rest x next is begins got =
    let read = number-there code place x next got in
    let onward : drop next code ≡ drop read.0 (drop place code) = ap (λ k. drop k code) read.2 ∙ sym (drop-drop read.0 place code) in
    let shorter = front-shorter (drop place code) rest first read.0 x is read.1 in (
      (read.0, read.2, λ k. rw onward (front-number k read.0 stack (drop place code) rest first x is begins read.1)),
      omega (arith, shorter, length-drop read.0 (drop place code), read.2),
    )

-- the number that the byte at a place is by itself
pub puts-alone : (code : List ℕ) (place : ℕ) (stack : List ℤ) (first : ℕ) (rest : List ℕ) →
    drop place code ≡ first ∷ rest → is_alone first ≡ true → Puts code place stack (place + 1) (stack ++ alone first ∷ [])
puts-alone code place stack first rest is one = (
  1,
  refl,
  λ k. rw (sym (drop-drop 1 place code)) (front-first k stack (drop place code) rest first is one),
)

-- the number of two bytes
pair-there : (code : List ℕ) (place first second : ℕ) (rest : List ℕ) → drop place code ≡ first ∷ second ∷ rest → 247 ≤ first →
    first < 255 → number code place ≡ Got (whole (if nat_lt first 251 then above first second else below first second)) (place + 2)
pair-there code place first second rest is low high = by_sign (nat_lt first 251) refl
  where
    spelled-so : (x : ℤ) → IsNumber (first ∷ second ∷ []) x → number code place ≡ Got x (place + 2)
    spelled-so x so =
        reads_numbers.all code place x (place + 2)
        (record { spelling = first ∷ second ∷ []; is = so; stands = ap (take 2) is; behind = refl })

    by_sign : (b : Bool) → nat_lt first 251 ≡ b →
        number code place ≡ Got (whole (if b then above first second else below first second)) (place + 2)
    by_sign true less = spelled-so (whole (above first second)) (positive first second low (omega (arith, ltb-true first 251 less)))
    by_sign false less = spelled-so (whole (below first second)) (negative first second (omega (arith, ltb-false first 251 less)) high)

-- it is put onto a stack
pub puts-pair : (code : List ℕ) (place : ℕ) (stack : List ℤ) → place + 1 < length code → 247 ≤ get_or code place 0 →
    get_or code place 0 < 255 → Puts code place stack (place + 2)
    (stack ++ whole (if nat_lt (get_or code place 0) 251 then above (get_or code place 0) (get_or code (place + 1) 0)
    else below (get_or code place 0) (get_or code (place + 1) 0)) ∷ [])
puts-pair code place stack there low high =
    let first = get_or code place 0 in
    let both : drop place code ≡ first ∷ get_or code (place + 1) 0 ∷ drop (place + 1 + 1) code = here code place (omega (arith, there))
    ∙ ap (λ xs. first ∷ xs) (here code (place + 1) there) in
    (puts-number code place stack first _ _ (place + 2) both (small-begins first (omega (arith, low)))
    (pair-there code place first (get_or code (place + 1) 0) _ both low high)).0

-- numbers, and those behind them
pub both-put : (code : List ℕ) (place : ℕ) (stack : List ℤ) (next : ℕ) (stack' : List ℤ) (last : ℕ) (stack'' : List ℤ) →
    Puts code place stack next stack' → Puts code next stack' last stack'' → Puts code place stack last stack''
both-put code place stack next stack' last stack'' some more = (
  some.0 + more.0,
  (let h = some.1 in let r = more.1 in omega (arith, h, r)),
  λ k. let same : k + (some.0 + more.0) ≡ k + some.0 + more.0 = omega arith in rw same (more.2 (k + some.0) ∙ some.2 k),
)

-- a phrase is refused as what is left of it is
pub refused-later : (code : List ℕ) (place : ℕ) (stack : List ℤ) (next : ℕ) (stack' : List ℤ) (e : Refused) →
    Puts code place stack next stack' → IsPhraseRefused (drop next code) e → IsPhraseRefused (drop place code) e
refused-later code place stack next stack' e some (inl memory) = inl memory
refused-later code place stack next stack' e some (inr none) =
    inr (refused-behind (0 + some.0) stack stack' (phrase (drop place code)) (phrase (drop next code)) (reason e) (some.2 0) none)
