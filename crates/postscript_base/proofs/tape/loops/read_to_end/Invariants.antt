use Rattle.std.proofs.Common.{◌≡◌, ◌+◌, ◌-◌, ◌^◌, ◌≤◌, length, vec_len}
use Rattle.postscript_base.specs.Tape.{IsHonest, Kept}
use Rattle.postscript_base.specs.Tape.Loops.{to_end}
use Rattle.postscript_base.proofs.Repeats.{IsBeforeEnd}
use Rattle.postscript_base.proofs.tape.loops.read_to_end.Given as goal

-- behind the values so far the rest stands, at the place that was asked; a value takes a byte, and the place rises with it
abbrev pub invariant-values : goal.invariant-values
invariant-values g l =
    let old = g.T.ReadSeek.state l.fn.tape in
    let new = g.T.ReadSeek.state l.tape in
    (IsHonest old → Kept old new × (new.place ≡ l.place)
    × IsBeforeEnd g.V.Value.reading old.bytes (g.V.Value.views l.values.items) new.place (to_end g.V.Value.reading old.bytes old.place))
    × (IsHonest old → (old.place + vec_len l.values ≤ l.place) × (vec_len l.values ≤ length old.bytes - old.place))
    × (vec_len l.values ≤ l.place)

-- the place rises
abbrev pub decreases-values : goal.decreases-values
decreases-values g l = 2 ^ 64 - l.place
