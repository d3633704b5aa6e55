-- Dictionaries and refused bytes, computed from the definitions, and what the law says of them.
use Rattle.std.proofs.Common.{◌≡◌, refl, ℕ, map, List, [], ◌∷◌, Some, pos}
use Rattle.std.specs.FinMap.{empty, get}
use Rattle.postscript_base.specs.Refusal.{malformed_number, unknown_operator}
use Rattle.postscript_base.specs.Tape.Loops.{to_end, to_end_from}
use Rattle.postscript_base.specs.Tape.Outcome.{Outcome, Got, Fault, Past}
use Rattle.postscript_base.specs.Numbers.{slice, number as unsigned}
use Rattle.postscript_base.specs.Compact1.Decimal.{canonical, without_zeros}
use Rattle.postscript_base.specs.Compact1.Number.{number}
use Rattle.postscript_base.specs.Compact1.Nibbles.{real, text_of_real}
use Rattle.postscript_base.specs.Compact1.Operation.{Operation, operation, operation_from, step}
use Rattle.postscript_base.specs.Compact1.Operators.{operator_of}
use Rattle.postscript_base.specs.Compact1.Dictionary.{Dictionary, dictionary, dictionary_of}
use Rattle.postscript_base.specs.Compact1.DictionaryLaw.{IsDictionary, IsRefused}
use Rattle.postscript_base.specs.declared.compact1.operator.Operator.TheVariants.{Version}
use Rattle.postscript_base.proofs.DictionaryIs.{get_last, reads_dictionaries}

-- a reading, and what it says by the law
abbrev Tells : List ℕ → Outcome Dictionary → Type 0
Tells bytes (Got map next) = IsDictionary bytes 0 map
Tells bytes (Fault refusal) = IsRefused bytes 0 refusal
Tells bytes Past = ⊥

tells : (bytes : List ℕ) (o : Outcome Dictionary) → dictionary bytes 0 ≡ o → Tells bytes o
tells bytes (Got map next) is = (reads_dictionaries.only bytes 0 map next is).0
tells bytes (Fault refusal) is = reads_dictionaries.refused_only bytes 0 refusal is
tells bytes Past is = reads_dictionaries.never_past bytes 0 is

abbrev AllTell : List (List ℕ × Outcome Dictionary) → Type 0
AllTell [] = Unit {0}
AllTell (row ∷ rows) = (dictionary row.0 0 ≡ row.1) × Tells row.0 row.1 × AllTell rows

all_tell : (rows : List (List ℕ × Outcome Dictionary)) → map (λ row. dictionary row.0 0) rows ≡ map (λ row. row.1) rows → AllTell rows
all_tell [] h = tt
all_tell (row ∷ rows) h = let is : dictionary row.0 0 ≡ row.1 = cc in (is, tells row.0 row.1 is, all_tell rows (cc))

abbrev version : ℕ → Operation
version n = (Version, record { mantissa = pos n; exponent = pos 0 } ∷ [])

abbrev rows : List (List ℕ × Outcome Dictionary)
rows =
    -- an unfinished rest alone: no bytes, an operand, half an operator, half an integer
    ([], Got empty 0) ∷
    (0x8b ∷ [], Got empty 1) ∷
    (0x0c ∷ [], Got empty 1) ∷
    (0x1c ∷ 0x01 ∷ [], Got empty 2) ∷
    (0x8c ∷ 0x00 ∷ 0x8d ∷ 0x00 ∷ [], Got (dictionary_of (version 1 ∷ version 2 ∷ [])) 4) ∷
    -- no operator, and a reserved nibble
    (0xff ∷ [], Fault unknown_operator) ∷
    (0x1e ∷ 0xd0 ∷ [], Fault malformed_number) ∷
    []

all_hold : AllTell rows
unfolding dictionary to_end to_end_from operation operation_from step number unsigned slice canonical without_zeros operator_of real
    text_of_real
all_hold = all_tell rows refl

-- of two operations of an operator the last counts
the_last_counts : get (dictionary_of (version 1 ∷ version 2 ∷ [])) Version ≡ Some (record { mantissa = pos 2; exponent = pos 0 } ∷ [])
the_last_counts = get_last (version 1 ∷ version 2 ∷ []) Version
