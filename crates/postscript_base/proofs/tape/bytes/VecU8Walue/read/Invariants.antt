use Rattle.std.proofs.Common.{◌≡◌, ◌+◌, ◌-◌, ◌≤◌, length, take, drop, vec_len}
use Rattle.postscript_base.specs.Tape.{IsHonest, Kept}
use Rattle.postscript_base.proofs.tape.bytes.VecU8Walue.read.Given as goal

-- what is there so far are the bytes from the first place on, and the tape stands behind them
abbrev pub invariant-loop-bytes : goal.invariant-loop-bytes
invariant-loop-bytes g l =
    let old = g.T.ReadSeek.state l.fn.tape in
    let new = g.T.ReadSeek.state l.tape in
    (vec_len l.bytes ≤ l.count) × (IsHonest old →
    Kept old new × (new.place ≡ old.place + vec_len l.bytes) × (vec_len l.bytes ≤ length old.bytes - old.place)
    × (l.bytes.items ≡ take (vec_len l.bytes) (drop old.place old.bytes)))

abbrev pub decreases-loop-bytes : goal.decreases-loop-bytes
decreases-loop-bytes g l = l.count - vec_len l.bytes
