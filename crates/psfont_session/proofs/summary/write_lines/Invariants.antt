use Rattle.std.specs.Io.KnownBytes.{Appends}
use Rattle.postscript.specs.FontSet.Value.{font_shown}
use Rattle.psfont_session.specs.Summary.{lines_below}
use Rattle.psfont_session.proofs.summary.write_lines.Given as goal

abbrev pub invariant-loop-number : goal.invariant-loop-number
invariant-loop-number g l =
    Appends (g.W.Write.contents l.fn.writer) (g.W.Write.contents l.writer) (lines_below (font_shown l.fn.font) l.number)
