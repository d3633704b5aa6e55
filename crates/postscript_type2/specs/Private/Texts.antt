-- An operand as text: a whole number, otherwise the bits followed by /65536.
use Rattle.std.specs.Prelude.{ℤ, List, ℕ, ◌++◌, Option, Some, None, codes}
use Rattle.std.specs.Fmt.{signed_decimal}
use Rattle.postscript_type2.specs.Number.{to_int}

abbrev pub text_by : ℤ → Option ℤ → List ℕ
text_by bits (Some number) = signed_decimal number
text_by bits None = signed_decimal bits ++ codes "/65536"

abbrev pub text : ℤ → List ℕ
text bits = text_by bits (to_int bits)
