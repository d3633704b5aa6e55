-- The ways of reading a font.
use Rattle.postscript.specs.Tape.Outcome.{Reading}
use Rattle.postscript.specs.FontSet.Font.{Font}
use Rattle.postscript.specs.Computed.Order.{font, lenient_font}
use Rattle.psfont_session.specs.declared.command.Manner.{Manner}
use Rattle.psfont_session.specs.declared.command.Manner.TheVariants.{Strict, Lenient}

-- the reading of fonts, strict or lenient
abbrev pub reading_of : Manner → Reading Font
reading_of Strict = font
reading_of Lenient = lenient_font
