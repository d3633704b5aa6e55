use Rattle.std.proofs.Common.{◌≡◌, ◌-◌}
use Rattle.postscript_base.specs.Tape.{IsHonest, Kept}
use Rattle.postscript_base.specs.Tape.Loops.{many}
use Rattle.postscript_base.proofs.Repeats.{with_front}
use Rattle.postscript_base.proofs.tape.loops.read_many.Given as goal

-- what is read and what is still read make the whole
abbrev pub invariant-loop : goal.invariant-loop
invariant-loop g l =
    let old = g.T.ReadSeek.state l.fn.tape in
    let new = g.T.ReadSeek.state l.tape in
    IsHonest old → Kept old new
    × (with_front (g.V.Value.views l.values.items)
    (many g.V.Value.reading (l.count - l.counter) old.bytes new.place) ≡ many g.V.Value.reading l.count old.bytes old.place)
