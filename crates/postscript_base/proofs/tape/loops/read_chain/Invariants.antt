use Rattle.std.proofs.Common.{◌≡◌, ◌-◌}
use Rattle.postscript_base.specs.Tape.{IsHonest, Kept}
use Rattle.postscript_base.specs.Tape.Loops.{chain}
use Rattle.postscript_base.proofs.Repeats.{with_front, IsFront}
use Rattle.postscript_base.proofs.tape.loops.read_chain.Given as goal

-- what is read and what is still read make the whole, on an honest tape; on any tape each may follow the one before
abbrev pub invariant-loop : goal.invariant-loop
invariant-loop g l =
    let old = g.T.ReadSeek.state l.fn.tape in
    let new = g.T.ReadSeek.state l.tape in
    (IsHonest old → Kept old new
    × (with_front (g.W.Linked.views l.values.items)
    (chain g.W.Linked.reading g.W.Linked.left l.given (l.length - l.counter) old.bytes new.place) ≡ chain g.W.Linked.reading
    g.W.Linked.left l.fn.first l.fn.length old.bytes old.place))
    × IsFront g.W.Linked.follows
    (λ given value. g.W.Linked.left given (g.W.Linked.view value)) l.fn.first l.fn.length l.values.items l.given (l.length - l.counter)
