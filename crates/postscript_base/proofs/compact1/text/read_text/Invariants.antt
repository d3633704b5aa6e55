use Rattle.std.proofs.Common.{◌≡◌, ◌-◌, ◌^◌, drop, vec_len}
use Rattle.postscript_base.specs.Tape.{IsHonest, Kept}
use Rattle.postscript_base.specs.Compact1.Nibbles.{text_of_real}
use Rattle.postscript_base.proofs.Nibbles.{text_behind}
use Rattle.postscript_base.proofs.compact1.text.read_text.Given as goal

-- the bytes behind the tape go on with the text
abbrev pub invariant-loop-text : goal.invariant-loop-text
invariant-loop-text g l =
    let old = g.T.ReadSeek.state l.fn.tape in
    let new = g.T.ReadSeek.state l.tape in
    IsHonest old → Kept old new × (text_of_real old.bytes old.place ≡ text_behind l.text.items (drop new.place old.bytes) new.place)

abbrev pub decreases-loop-text : goal.decreases-loop-text
decreases-loop-text g l = 2 ^ 64 - vec_len l.text
