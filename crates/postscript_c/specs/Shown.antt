-- Values of private types, converted for the specification.
use Rattle.std.specs.Prelude.{map, Option, option_map, Result, Ok, Err}
use Rattle.postscript_drawing.specs.declared.error.Error.{Error}
use Rattle.postscript_c.specs.Glyphs.{Drawn, Glyph}
use Rattle.postscript_c.specs.Segments.{meant}
use Rattle.postscript_c.specs.declared.picture.DrawnGlyph.{DrawnGlyph}

abbrev pub drawn_shown : DrawnGlyph → Drawn
drawn_shown found = record { segments = map meant found.sketch.segments.items; width = found.width }

abbrev pub glyph_shown : DrawnGlyph → Glyph
glyph_shown found = record { drawn = drawn_shown found; part = found.part }

abbrev pub found_shown : Result (Option DrawnGlyph) Error → Result (Option Glyph) Error
found_shown (Ok found) = Ok (option_map glyph_shown found)
found_shown (Err e) = Err e
