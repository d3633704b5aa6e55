-- Why no file is written of tables in ascending order. Only private contracts use this definition.
use Rattle.std.specs.Prelude.{List}
use Rattle.postscript_sfnt_write.specs.declared.file.Table.{Table}
use Rattle.postscript_files.specs.Copies.{AreTooLarge}
use Rattle.postscript_files.specs.declared.error.Error.{Error}
use Rattle.postscript_files.specs.declared.error.Error.TheVariants.{Memory, TooLarge}

-- out of memory, or there are too many tables or bytes
abbrev pub IsTooMuch : Error → List Table → Type 0
IsTooMuch Memory tables = Unit {0}
IsTooMuch TooLarge tables = AreTooLarge tables
IsTooMuch _ tables = ⊥
