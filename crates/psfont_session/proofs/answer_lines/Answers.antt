use Rattle.std.proofs.Common.{subst}
use Rattle.psfont_session.specs.Look.{Turn, Far}
use Rattle.psfont_session.specs.Session.{LineToldWithin}
use Rattle.psfont_session.proofs.Hearing.{begun, over}
use Rattle.psfont_session.proofs.answer_lines.Goals as goal

pub returns-clause-told : goal.returns-clause-told
returns-clause-told g c =
    let left = g.R.Read.remaining c.args.reader.now in
    let written = g.W.Write.contents c.args.writer.now in
    let after = g.W.Write.contents c.tell_line.new.writer in
    let now : Turn = record {
      left = g.R.Read.remaining c.hear.new.reader;
      written = g.W.Write.contents c.hear.new.writer;
      loaded = c.hear.new.routines;
      open_line = c.hear.new.line.items;
    } in
    let start : Far c.args.limit left written
    (record { left = left; written = written; loaded = c.new-routines.result; open_line = c.new-line.result.items }) =
    rw (c.new-routines.ensures, c.new-line.ensures.items) (begun c.args.limit left written) in
    over c.args.limit left written now c.tell_line.new.routines after (c.in_ok-hear.ensures.told left written start)
    (subst (λ line. LineToldWithin c.args.limit line now.loaded now.written c.tell_line.new.routines after) c.as_slice.ensures.value
    c.in_ok-tell_line.ensures.told)
