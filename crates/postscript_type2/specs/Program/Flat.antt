-- Flat text: the phrases of a run in order, without its calls and returns.
use Rattle.std.specs.List.{flat_map}
use Rattle.std.specs.Prelude.{ℕ, ◌-◌, ◌^◌, List, [], ◌∷◌, ◌++◌, take, length, min}
use Rattle.postscript_type2.specs.declared.operation.Operator.{Operator}
use Rattle.postscript_type2.specs.declared.operation.Operator.TheVariants.{Drop}
use Rattle.postscript_type2.specs.Operation.Kinds.{Kind, Draws, DeclaresStems, Masks, Works, Stores, CallsFrom, GoesBack, EndsGlyph, IsRefused, kind}
use Rattle.postscript_type2.specs.Program.Runs.{Phrase, by}

-- a phrase without its operator, which has one byte
abbrev pub without_operator : List ℕ → List ℕ
without_operator bytes = take (length bytes - 1) bytes

-- the phrase with an operator that drops the top
abbrev pub dropping : List ℕ → Phrase
dropping numbers = record { operator = Drop; bytes = numbers ++ 0x0c ∷ 0x12 ∷ [] }

-- a phrase in flat code: a call drops its number, a return drops a zero that it pushes, and any other phrase is unchanged
abbrev pub flat_of : Kind → Operator → List ℕ → Phrase
flat_of (CallsFrom routines) op bytes = dropping (without_operator bytes)
flat_of GoesBack op bytes = dropping (without_operator bytes ++ 0x8b ∷ [])
flat_of (Draws takes) op bytes = by op bytes
flat_of (DeclaresStems takes) op bytes = by op bytes
flat_of (Masks takes) op bytes = by op bytes
flat_of (Works work) op bytes = by op bytes
flat_of (Stores work) op bytes = by op bytes
flat_of EndsGlyph op bytes = by op bytes
flat_of (IsRefused part) op bytes = by op bytes

abbrev pub flat_by : Operator → List ℕ → Phrase
flat_by op bytes = flat_of (kind op) op bytes

abbrev pub flat_said : Phrase → Phrase
flat_said said = flat_by said.operator said.bytes

abbrev pub flat_bytes : Phrase → List ℕ
flat_bytes said = (flat_said said).bytes

-- the flat text of a trace
abbrev pub flat_text : List Phrase → List ℕ
flat_text trace = flat_map flat_bytes trace

-- its length as a usize, or usize::MAX if it is longer
abbrev pub flat_len : List Phrase → ℕ
flat_len trace = min (length (flat_text trace)) (2 ^ 64 - 1)
