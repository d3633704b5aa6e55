use Rattle.psfont_session.specs.Look.{Goes}
use Rattle.psfont_session.proofs.hear.Given as goal

abbrev pub invariant-loop : goal.invariant-loop
invariant-loop g l = Goes l.limit
    (record {
      left = g.R.Read.remaining l.fn.reader;
      written = g.W.Write.contents l.fn.writer;
      loaded = l.fn.routines;
      open_line = l.fn.line.items;
    })
    (record { left = g.R.Read.remaining l.reader; written = g.W.Write.contents l.writer; loaded = l.routines; open_line = l.line.items })
