use Rattle.std.proofs.Common.{◌≡◌, map, drop}
use Rattle.postscript_base.specs.Tape.{IsHonest, Kept}
use Rattle.postscript_base.specs.Tape.Loops.{each}
use Rattle.postscript_base.proofs.Repeats.{with_front, IsFrontFor}
use Rattle.postscript_base.proofs.tape.loops.read_each.Given as goal

-- what is read and what is still read make the whole, on an honest tape; on any tape each is a value of its source
abbrev pub invariant-loop-source : goal.invariant-loop-source
invariant-loop-source g l =
    let old = g.T.ReadSeek.state l.fn.tape in
    let new = g.T.ReadSeek.state l.tape in
    let one = g.S.Source.reading l.fn.given in
    let seen = g.S.Source.seen in
    (IsHonest old → Kept old new
    × (with_front (g.S.Source.views l.values.items) (each one (map seen (drop l.source-index l.sources)) old.bytes new.place) ≡ each one
    (map seen l.sources) old.bytes old.place))
    × IsFrontFor g.S.Source.fits l.sources l.values.items (drop l.source-index l.sources)
