-- The reading of a whole font that may lack Private DICTs and local subroutines (`FontSet::read_lenient`).
use Rattle.std.specs.Prelude.{ℕ, List}
use Rattle.postscript_compact1.specs.FontSet.Font.{Font}
use Rattle.postscript_compact1.specs.FontSet.Layout.{IsLenientFont}

-- it reads the beginning of the bytes
abbrev pub HasLenientFont : List ℕ → Type 0
HasLenientFont bytes = (font : Font) × IsLenientFont bytes 0 font
