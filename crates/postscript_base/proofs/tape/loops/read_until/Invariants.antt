use Rattle.std.proofs.Common.{◌-◌, ◌^◌, vec_len}
use Rattle.postscript_base.specs.Tape.{IsHonest, Kept}
use Rattle.postscript_base.specs.Tape.Loops.{until}
use Rattle.postscript_base.proofs.Repeats.{IsBehind}
use Rattle.postscript_base.proofs.tape.loops.read_until.Given as goal

-- behind the values so far the rest stands
abbrev pub invariant-values : goal.invariant-values
invariant-values g l =
    let old = g.T.ReadSeek.state l.fn.tape in
    let new = g.T.ReadSeek.state l.tape in
    IsHonest old → Kept old new
    × IsBehind g.W.Until.is_last g.W.Linked.reading g.W.Linked.left old.bytes (g.W.Linked.views l.values.items) l.given new.place
    (until g.W.Until.is_last g.W.Linked.reading g.W.Linked.left l.fn.first old.bytes old.place)

-- the list grows
abbrev pub decreases-values : goal.decreases-values
decreases-values g l = 2 ^ 64 - vec_len l.values
