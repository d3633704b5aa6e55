-- Inlined text keeps the meaning of a run (Technical Note 5177, "Subroutine Operators").
use Rattle.std.specs.List.{filter}
use Rattle.std.specs.Prelude.{◌≡◌, ◌↔◌, ℕ, ◌≤◌, ℤ, false, List, [], ◌∷◌, ◌++◌, length, map, None, All}
use Rattle.postscript_type2.specs.declared.operation.Operator.{Operator}
use Rattle.postscript_type2.specs.Operation.Kinds.{CallsFrom, kind}
use Rattle.postscript_type2.specs.Program.Evaluation.{run_of}
use Rattle.postscript_type2.specs.Program.Flat.{flat_text}
use Rattle.postscript_type2.specs.Program.Inlining.{is_flat, KeepsMeaning}
use Rattle.postscript_type2.specs.Program.Phrases.{IsPhrase}
use Rattle.postscript_type2.specs.Program.Routines.{Lists}
use Rattle.postscript_type2.specs.Program.Runs.{Phrase, by, Run, fault_of}
use Rattle.postscript_type2.specs.Program.Inlined.{Piece, Stays, piece, inlined, inlined_text}

-- A law: the part of a phrase that is kept by the rules is the computed one.
abbrev pub StaysIsComputed : Type 0
StaysIsComputed = (op : Operator) (bytes : List ℕ) → (is_flat op ≡ false → (numbers : List ℤ) × IsPhrase bytes numbers op) →
    (p : Piece) → Stays op bytes p ↔ (piece (by op bytes) ≡ p)

-- A law: if a run ends without a fault, its inlined text keeps its meaning over any lists.
abbrev pub InlinedTextKeepsMeaning : Type 0
InlinedTextKeepsMeaning = (lists other : Lists) (code : List ℕ) → fault_of (run_of lists code).end ≡ None →
    KeepsMeaning other (inlined_text (run_of lists code).trace) (run_of lists code)

-- A law: if a run ends without a fault, the run of its inlined text has exactly the inlined phrases, over any lists.
abbrev pub InlinedRunIsInlined : Type 0
InlinedRunIsInlined = (lists other : Lists) (code : List ℕ) → fault_of (run_of lists code).end ≡ None →
    (run_of other (inlined_text (run_of lists code).trace)).trace ≡ inlined (run_of lists code).trace

-- A law: inlined text has no more bytes than flat text.
abbrev pub InlinedIsNoLonger : Type 0
InlinedIsNoLonger = (trace : List Phrase) → length (inlined_text trace) ≤ length (flat_text trace)

-- the number of a call is right before its operator
abbrev pub SpellsItsNumber : Phrase → Type 0
SpellsItsNumber said = (routines : Lists → List (List ℕ)) → kind said.operator ≡ CallsFrom routines →
    (numbers : List ℤ) × (number : ℤ) × IsPhrase said.bytes (numbers ++ number ∷ []) said.operator

abbrev pub operators : List Phrase → List Operator
operators phrases = map (λ said. said.operator) phrases

-- If each call of a run has its number right before it, no operator is added. The run of a code over these lists then has the operators of
-- this run without its calls and returns.
abbrev pub AddsNoOperator : Lists → (code : List ℕ) → Run → Type 0
AddsNoOperator lists code run = All SpellsItsNumber run.trace → operators (run_of lists code).trace ≡ filter is_flat (operators run.trace)
