-- A dictionary: operations up to the end of the bytes. The last one of each operator counts (Technical Note 5176, "DICT Data").
use Rattle.std.specs.Prelude.{List, fold, map, refl, ℤ}
use Rattle.std.specs.Coded.{Coded, code_by, coded×, coded_ℤ, coded_list}
use Rattle.std.specs.FinMap.{FinMap, empty, insert}
use Rattle.std.specs.declared.vec.Vec.{Vec}
use Rattle.std.specs.declared.alloc.Global.{Global}
use Rattle.postscript_base.specs.Compact1.Decimal.{Decimal}
use Rattle.postscript_base.specs.Compact1.Operation.{Operation, operation}
use Rattle.postscript_base.specs.Compact1.Operators.{operator_cmp}
use Rattle.postscript_base.specs.Tape.Loops.{to_end}
use Rattle.postscript_base.specs.Tape.Outcome.{Reading, ◌>>=◌, pure}
use Rattle.postscript_base.specs.declared.compact1.operator.Operator.{Operator}

-- the operands of each operator that occurs
abbrev pub Dictionary : Type 0
Dictionary = FinMap operator_cmp (List Decimal)

abbrev pub decimals_code : Coded (List Decimal)
decimals_code = coded_list (code_by (ℤ × ℤ) (coded× coded_ℤ coded_ℤ) (λ d. (d.mantissa, d.exponent))
    (λ p. record { mantissa = p.0; exponent = p.1 }) (λ _. refl))

-- the entries of a hash map, as a contract sees them
abbrev pub listed : List (Operator × Vec Decimal Global) → List (Operator × List Decimal)
listed entries = map (λ entry. (entry.0, entry.1.items)) entries

-- a later operation replaces an earlier one of the same operator
abbrev pub put : Dictionary → Operation → Dictionary
put dictionary operation = insert dictionary operation.0 operation.1

abbrev pub dictionary_of : List Operation → Dictionary
dictionary_of operations = fold put empty operations

-- Reads the dictionary from an offset to the end of the bytes, which is the next offset.
unfoldable pub dictionary : Reading Dictionary
dictionary = to_end operation >>= λ all. pure (dictionary_of all)
