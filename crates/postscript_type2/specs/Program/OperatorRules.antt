-- The effect of each operator on the stack, the stems, the width and the stored numbers, with one rule for each case (Technical Note 5177,
-- "Path Construction Operators" to "Subroutine Operators"). The top of a stack is written last, and numbers are bits, 65536 for a one.
use Rattle.std.specs.Prelude.{◌≡◌, ◌↔◌, ℕ, ◌+◌, ◌*◌, ◌%◌, ◌^◌, ◌<◌, ◌≤◌, ℤ, Bool, IsTrue, List, [], ◌∷◌, ◌++◌, length, Option, Some, None}
use Rattle.postscript_base.specs.Refusal.{Refusal, OfPart, unexpected_eof, malformed_operands, expected_integer, missing_subroutine, too_many_stems}
use Rattle.postscript_base.specs.declared.error.Part.{Part}
use Rattle.postscript_type2.specs.declared.operation.Operator.{Operator}
use Rattle.postscript_type2.specs.Number.{whole}
use Rattle.postscript_type2.specs.Operation.Kinds.{Draws, DeclaresStems, Masks, CallsFrom, GoesBack, EndsGlyph, IsRefused, kind}
use Rattle.postscript_type2.specs.Operation.Lengths.{exactly}
use Rattle.postscript_type2.specs.Program.Effects.{Effect, Keeps, Clears, Calls, Returns, Ends, Refuses, mask_len, named, effect}
use Rattle.postscript_type2.specs.Program.States.{State}
use Rattle.postscript_type2.specs.Program.Routines.{Lists}
use Rattle.postscript_type2.specs.Program.StackRules.{Makes, HasNoWholeTop, IsRefusedOn}

-- The operands that an operator that clears the stack takes: the longest end of the stack that it may take.
pub record TakesMost (takes : ℕ → Bool) (stack beneath taken : List ℤ) : Type 0 where
  pub parts : stack ≡ beneath ++ taken
  pub allowed : IsTrue (takes (length taken))
  pub longest : (n : ℕ) → length taken < n → n ≤ length stack → ¬ IsTrue (takes n)

-- the operator may take no end of the stack
abbrev pub TakesNone : (takes : ℕ → Bool) → (stack : List ℤ) → Type 0
TakesNone takes stack = (n : ℕ) → n ≤ length stack → ¬ IsTrue (takes n)

-- The width is settled once. It is unchanged if it was settled, or is the operand beneath those taken, or none if nothing is beneath them.
pub data IsSettled : (before : Option (Option ℤ)) → (beneath : List ℤ) → Option ℤ → Type 0 where
  settled_before : (width : Option ℤ) (beneath : List ℤ) → IsSettled (Some width) beneath width
  operand_beneath : (lower : List ℤ) (x : ℤ) → IsSettled None (lower ++ x ∷ []) (Some x)
  nothing_beneath : IsSettled None [] None

-- the number of stems after an operator: each two operands are one stem
pub data StemsAfter (st : State) : ℕ → Type 0 where
  in_pairs : (n odd : ℕ) → odd < 2 → length st.stack ≡ n * 2 + odd → StemsAfter st (st.stems + n)

-- `endchar` takes four operands, or none if there are fewer
pub data TakesAtEnd : (stack beneath taken : List ℤ) → Type 0 where
  last_four : (beneath taken : List ℤ) → length taken ≡ 4 → TakesAtEnd (beneath ++ taken) beneath taken
  fewer : (stack : List ℤ) → length stack < 4 → TakesAtEnd stack stack []

-- The effect of an operator, from a state and with these bytes after it.
pub data Does (lists : Lists) (op : Operator) (behind : List ℕ) (st : State) : Effect → Type 0 where
  -- arithmetic, conditions, the stack and the stored numbers
  makes : (beneath taken left after : List ℤ) → Makes st.stored op taken left after → st.stack ≡ beneath ++ taken →
      Does lists op behind st (Keeps (beneath ++ left) after)
  refused : (e : Refusal) → IsRefusedOn st.stored op st.stack e → Does lists op behind st (Refuses e)
  without_meaning : (part : Part) → kind op ≡ IsRefused part → Does lists op behind st (Refuses (OfPart part))
  -- an operator that draws
  draws : (takes : ℕ → Bool) (beneath taken : List ℤ) (width : Option ℤ) → kind op ≡ Draws takes →
      TakesMost takes st.stack beneath taken → IsSettled st.width beneath width → Does lists op behind st (Clears taken [] st.stems width 0)
  draws_none : (takes : ℕ → Bool) → kind op ≡ Draws takes → TakesNone takes st.stack → Does lists op behind st (Refuses malformed_operands)
  -- an operator that declares stems, whose number must fit in 32 bits
  declares : (takes : ℕ → Bool) (beneath taken : List ℤ) (width : Option ℤ) (stems : ℕ) → kind op ≡ DeclaresStems takes →
      StemsAfter st stems → stems < 2 ^ 32 →
      TakesMost takes st.stack beneath taken → IsSettled st.width beneath width → Does lists op behind st (Clears taken [] stems width 0)
  declares_none : (takes : ℕ → Bool) (stems : ℕ) → kind op ≡ DeclaresStems takes → StemsAfter st stems → stems < 2 ^ 32 →
      TakesNone takes st.stack → Does lists op behind st (Refuses malformed_operands)
  declares_too_many : (takes : ℕ → Bool) (stems : ℕ) → kind op ≡ DeclaresStems takes → StemsAfter st stems → 2 ^ 32 ≤ stems →
      Does lists op behind st (Refuses too_many_stems)
  -- a mask, which has one bit for each stem, in whole bytes: all pairs on the stack are stems, and one operand may be beneath them
  masks : (beneath pairs : List ℤ) (width : Option ℤ) (stems : ℕ) → kind op ≡ Masks (exactly 0) → StemsAfter st stems → stems < 2 ^ 32 →
      mask_len stems ≤ length behind →
      st.stack ≡ beneath ++ pairs → length beneath < 2 → length pairs % 2 ≡ 0 → IsSettled st.width beneath width →
      Does lists op behind st (Clears [] pairs stems width (mask_len stems))
  masks_cut : (takes : ℕ → Bool) (stems : ℕ) → kind op ≡ Masks takes → StemsAfter st stems → stems < 2 ^ 32 →
      length behind < mask_len stems → Does lists op behind st (Refuses unexpected_eof)
  masks_too_many : (takes : ℕ → Bool) (stems : ℕ) → kind op ≡ Masks takes → StemsAfter st stems → 2 ^ 32 ≤ stems →
      Does lists op behind st (Refuses too_many_stems)
  -- a call of the subroutine with the number on top
  calls : (routines : Lists → List (List ℕ)) (beneath : List ℤ) (n : ℤ) (routine : List ℕ) → kind op ≡ CallsFrom routines →
      st.stack ≡ beneath ++ whole n ∷ [] →
      named (routines lists) n ≡ Some routine → Does lists op behind st (Calls routine beneath)
  calls_no_number : (routines : Lists → List (List ℕ)) → kind op ≡ CallsFrom routines → HasNoWholeTop st.stack →
      Does lists op behind st (Refuses expected_integer)
  calls_nothing : (routines : Lists → List (List ℕ)) (beneath : List ℤ) (n : ℤ) → kind op ≡ CallsFrom routines →
      st.stack ≡ beneath ++ whole n ∷ [] →
      named (routines lists) n ≡ None → Does lists op behind st (Refuses missing_subroutine)
  returns : kind op ≡ GoesBack → Does lists op behind st Returns
  ends : (beneath taken : List ℤ) (width : Option ℤ) → kind op ≡ EndsGlyph → TakesAtEnd st.stack beneath taken →
      IsSettled st.width beneath width →
      Does lists op behind st (Ends taken width)

-- A law: the effect of an operator is exactly the one in these rules.
abbrev pub OperatorsDoSo : Type 0
OperatorsDoSo = (lists : Lists) (op : Operator) (behind : List ℕ) (st : State) (move : Effect) → Does lists op behind st move
    ↔ (effect lists op behind st ≡ move)
