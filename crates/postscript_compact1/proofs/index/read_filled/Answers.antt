use Rattle.postscript_compact1.proofs.IndexOnAnyTape.{is_filled}
use Rattle.postscript_compact1.proofs.index.read_filled.Goals as goal

pub returns-clause-filled : goal.returns-clause-filled
returns-clause-filled g c =
    let long = rw c.deref.ensures.value at c.in_ok-lengths.ensures.lengths in
    let each = rw c.deref-2.ensures.value at c.in_ok-items.ensures.fitting in
    is_filled _ _ _ _ _ c.in_ok-offsets.ensures.linked long each
