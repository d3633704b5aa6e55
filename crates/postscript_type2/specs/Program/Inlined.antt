-- Inlined (desubroutinized) text: the phrases of a run in order, without its calls, their numbers and its returns (Technical Note 5177,
-- "Subroutine Operators").
use Rattle.std.specs.List.{flat_map}
use Rattle.std.specs.Option.{option_map}
use Rattle.std.specs.Prelude.{◌≡◌, ℕ, zero, suc, ◌-◌, ◌^◌, ℤ, true, nat_lt, ◌==◌, List, [], ◌∷◌, ◌++◌, length, min, Option, Some, None, if◌then◌else◌}
use Rattle.postscript_type2.specs.declared.operation.Operator.{Operator}
use Rattle.postscript_type2.specs.declared.operation.Operator.TheVariants.{Drop}
use Rattle.postscript_type2.specs.Operation.Kinds.{Kind, Draws, DeclaresStems, Masks, Works, Stores, CallsFrom, GoesBack, EndsGlyph, IsRefused, kind}
use Rattle.postscript_type2.specs.Program.Flat.{without_operator, dropping}
use Rattle.postscript_type2.specs.Program.Inlining.{is_flat}
use Rattle.postscript_type2.specs.Program.Phrases.{IsNumber}
use Rattle.postscript_type2.specs.Program.Routines.{Lists}
use Rattle.postscript_type2.specs.Program.Runs.{Phrase, by}

-- the part of a phrase that is kept: a whole phrase (`Stands`), or numbers for the next phrase (`Leaves`)
pub data Piece : Type 0 where
  Stands : Phrase → Piece
  Leaves : (numbers : List ℕ) → Piece

-- the bytes of numbers, one after the other ("Charstring Number Encoding")
pub data IsNumbers : List ℕ → List ℤ → Type 0 where
  none : IsNumbers [] []
  one_more : (number more : List ℕ) (x : ℤ) (xs : List ℤ) → IsNumber number x → IsNumbers more xs → IsNumbers (number ++ more) (x ∷ xs)

-- The part that is kept of a phrase with this operator.
pub data Stays : Operator → (bytes : List ℕ) → Piece → Type 0 where
  -- a call is removed with the number right before it, and earlier numbers are kept
  of_call : (front number : List ℕ) (code : ℕ) (before : List ℤ) (x : ℤ) (op : Operator) (routines : Lists → List (List ℕ)) →
      kind op ≡ CallsFrom routines → IsNumbers front before → IsNumber number x → Stays op (front ++ (number ++ code ∷ [])) (Leaves front)
  -- if no number is right before a call, its number is on the stack and is dropped
  of_lone_call : (code : ℕ) (op : Operator) (routines : Lists → List (List ℕ)) →
      kind op ≡ CallsFrom routines → Stays op (code ∷ []) (Stands (by Drop (0x0c ∷ 0x12 ∷ [])))
  -- the numbers before a return are kept
  of_return : (numbers : List ℕ) (code : ℕ) (op : Operator) → kind op ≡ GoesBack → Stays op (numbers ++ code ∷ []) (Leaves numbers)
  -- any other phrase is unchanged
  of_other : (op : Operator) (bytes : List ℕ) → is_flat op ≡ true → Stays op bytes (Stands (by op bytes))

-- the number of bytes of a number after its first one ("Charstring Number Encoding")
abbrev pub behind_first : ℕ → ℕ
behind_first first = if first == 0x1c then 2 else if nat_lt first 0xf7 then 0 else if nat_lt first 0xff then 1 else 4

-- the first byte of a number, and then the numbers before the last one of those after it; no bytes if it is the last one
abbrev pub unless_last : ℕ → Option (List ℕ) → List ℕ
unless_last first None = []
unless_last first (Some front) = first ∷ front

-- The bytes before the last of the numbers that begin after the first k bytes. None if no number begins there.
abbrev pub before_last_past : (k : ℕ) → List ℕ → Option (List ℕ)
before_last_past k [] = None
before_last_past (suc k) (b ∷ r) = option_map (λ front. b ∷ front) (before_last_past k r)
before_last_past zero (b ∷ r) = Some (unless_last b (before_last_past (behind_first b) r))

-- Numbers without the last one. None if there is no number.
abbrev pub before_last : List ℕ → Option (List ℕ)
before_last numbers = before_last_past 0 numbers

-- The part of a phrase that is kept, computed. For a call it depends on the numbers without the last one.
abbrev pub call_piece : Option (List ℕ) → Piece
call_piece (Some front) = Leaves front
call_piece None = Stands (dropping [])

abbrev pub piece_of : Kind → Operator → List ℕ → Piece
piece_of (CallsFrom routines) op bytes = call_piece (before_last (without_operator bytes))
piece_of GoesBack op bytes = Leaves (without_operator bytes)
piece_of (Draws takes) op bytes = Stands (by op bytes)
piece_of (DeclaresStems takes) op bytes = Stands (by op bytes)
piece_of (Masks takes) op bytes = Stands (by op bytes)
piece_of (Works work) op bytes = Stands (by op bytes)
piece_of (Stores work) op bytes = Stands (by op bytes)
piece_of EndsGlyph op bytes = Stands (by op bytes)
piece_of (IsRefused part) op bytes = Stands (by op bytes)

abbrev pub piece : Phrase → Piece
piece said = piece_of (kind said.operator) said.operator said.bytes

-- Numbers that are kept are put before the numbers of the next phrase. If there is none, no operator takes them, and they are removed.
abbrev pub put_before : (numbers : List ℕ) → List Phrase → List Phrase
put_before numbers [] = []
put_before numbers (said ∷ more) = by said.operator (numbers ++ said.bytes) ∷ more

abbrev pub pieced : Piece → List Phrase → List Phrase
pieced (Stands said) more = said ∷ more
pieced (Leaves numbers) more = put_before numbers more

-- the pieces of a trace, followed by other phrases
abbrev pub inlined_onto : List Phrase → List Phrase → List Phrase
inlined_onto [] more = more
inlined_onto (said ∷ trace) more = pieced (piece said) (inlined_onto trace more)

-- the phrases of inlined code
abbrev pub inlined : List Phrase → List Phrase
inlined trace = inlined_onto trace []

-- the bytes of phrases
abbrev pub text : List Phrase → List ℕ
text phrases = flat_map (λ said. said.bytes) phrases

-- the inlined text of a trace, and its length as a usize, or usize::MAX if it is longer
abbrev pub inlined_text : List Phrase → List ℕ
inlined_text trace = text (inlined trace)

abbrev pub inlined_len : List Phrase → ℕ
inlined_len trace = min (length (inlined_text trace)) (2 ^ 64 - 1)
