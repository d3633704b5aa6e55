-- The texts of replies.
use Rattle.std.specs.Prelude.{ℕ, ℤ, List, ◌++◌, flat_map, codes, length, ◌==◌, if◌then◌else◌, Option, Some, None, Result, Ok, Err}
use Rattle.std.specs.Fmt.{decimal}
use Rattle.hex.specs.Hex.{encode_lower}
use Rattle.postscript.specs.Error.{code}
use Rattle.postscript.specs.Program.RunAnswers.{operation_of}
use Rattle.postscript_base.specs.declared.error.Error.{Error}
use Rattle.postscript_type2.specs.Operation.Operators.{name_of}
use Rattle.postscript_type2.specs.Private.Texts.{text}
use Rattle.postscript_type2.specs.declared.operation.Operator.{Operator}
use Rattle.postscript_type2.specs.declared.program.Answers.{Answers}

-- an operand, after a space
abbrev pub operand_text : ℤ → List ℕ
operand_text operand = codes " " ++ text operand

-- the operator's name, and each operand
abbrev pub operation_line : Operator × List ℤ → List ℕ
operation_line operation = name_of operation.0 ++ (flat_map operand_text operation.1 ++ codes "\n")

-- the number of an error
abbrev pub fault_line : Error → List ℕ
fault_line e = codes "fault " ++ (decimal (code e) ++ codes "\n")

-- the end of a run
abbrev pub end_line : Option Error → List ℕ
end_line None = codes "end\n"
end_line (Some e) = fault_line e

-- the width of a run
abbrev pub width_line : Option ℤ → List ℕ
width_line None = codes "width none\n"
width_line (Some width) = codes "width " ++ (text width ++ codes "\n")

-- a line for each operation, for the end and for the width
abbrev pub answers_text : Answers → List ℕ
answers_text answers = flat_map (λ operation. operation_line (operation_of operation)) answers.operations.items
    ++ (end_line answers.fault ++ width_line answers.width)

-- the code without calls, or only the word if the code is empty
abbrev pub flat_line : List ℕ → List ℕ
flat_line bytes = if length bytes == 0 then codes "flat\n" else codes "flat " ++ (encode_lower bytes ++ codes "\n")

-- the reply to bytes that are stored: whether their digits are well formed
abbrev pub loaded_line : {E : Type 0} → Result (List ℕ) E → List ℕ
loaded_line (Ok bytes) = codes "ok\n"
loaded_line (Err e) = codes "bad hex\n"
