use Rattle.std.proofs.Common.{codes}
use Rattle.postscript.specs.FontSet.Value.{font_shown}
use Rattle.psfont_session.specs.Summary.{count_line, lines_below}
use Rattle.psfont_session.proofs.Writing.{so, both}
use Rattle.psfont_session.proofs.summary.write_counted.Goals as goal

pub returns-clause-told : goal.returns-clause-told
returns-clause-told g c = so c.write_lines.result c.write_lines.ensures.told
    (λ told. both _ _ _ (count_line (codes "dictionaries ") c.args.count)
    (lines_below (font_shown c.args.font.now) c.args.count) c.in_ok-writeln.ensures.bytes told)
