use Rattle.std.proofs.Common.{◌+◌, arith}
use Rattle.postscript_view.proofs.Selecting.{before_all, behind_all}
use Rattle.postscript_view.proofs.select.Ranges.range_of.Goals as goal
use Rattle.postscript_view.proofs.select.Ranges.range_of.Goals.{then-self-eq0-via-then-self-eq0, then-self-eq0-via-else-self-eq0+then-glyph-first, then-self-eq0-via-else-self-eq0+else-glyph-first+then-first-glyph}

pub returns-then-self-eq0-clause-none : goal.returns-then-self-eq0-clause-none
returns-then-self-eq0-clause-none c =
    let ranges = c.args.self.now in
    elim c.then-self-eq0.branch [
      | then-self-eq0-via-then-self-eq0 w ↦ λ r there lies. absurd (omega (arith, w.if-self-eq0.true, there))
      | then-self-eq0-via-else-self-eq0+then-glyph-first w ↦ before_all ranges.bytes.now
          (ranges.place + 3) ranges.count c.args.glyph ranges.order (omega (arith, w.if-glyph-first.true, w.first.ensures))
      | then-self-eq0-via-else-self-eq0+else-glyph-first+then-first-glyph w ↦ behind_all ranges.bytes.now
          (ranges.place + 3) ranges.count c.args.glyph ranges.order (omega (arith, w.if-first-glyph.true, w.first-else-glyph-first.ensures))
    ]
