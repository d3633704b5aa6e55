-- The flat (desubroutinized) code of a glyph of a font for C.
use Rattle.std.specs.Prelude.{ℕ, List, Option}
use Rattle.postscript_base.specs.Tape.Outcome.{Reading}
use Rattle.postscript_c.specs.Glyphs.{told_at}
use Rattle.postscript_c.specs.declared.font.PsfFont.{PsfFont}
use Rattle.postscript_c.specs.declared.part.PsfPart.{PsfPart}
use Rattle.postscript_type2.specs.Program.Flat.{flat_text}
use Rattle.postscript_type2.specs.Program.Programs.{Pending}

-- the flat code of a program
abbrev pub flattened : Pending → List ℕ
flattened program = flat_text program.trace

-- the flat code of a glyph, if there is such a glyph, or the error of its run
abbrev pub flat_at : PsfFont → PsfPart → ℕ → Reading (Option (List ℕ))
flat_at font part glyph = told_at flattened font part glyph
