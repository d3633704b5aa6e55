use Rattle.std.proofs.Common.{◌≡◌, List, drop}
use Rattle.postscript_base.specs.Tape.{IsHonest, Kept}
use Rattle.postscript_base.specs.Tape.Loops.{each}
use Rattle.postscript_compact1.specs.FontSet.Font.{Part, columns}
use Rattle.postscript_compact1.specs.Computed.Parts.{part}
use Rattle.postscript_compact1.specs.FontSet.Value.{parts_shown}
use Rattle.postscript_compact1.proofs.EachPart.{with_front}
use Rattle.postscript_compact1.proofs.font_set.parts.read_parts.Given as goal

-- what is read is that of some parts, and these and what is still read make the whole
abbrev pub invariant-loop-dictionary : goal.invariant-loop-dictionary
invariant-loop-dictionary g l =
    let old = g.T.ReadSeek.state l.fn.tape in
    let new = g.T.ReadSeek.state l.tape in
    IsHonest old → Kept old new × ((done : List Part)
    × (columns done ≡ parts_shown l.parts)
    × (with_front done (each (part l.manner l.start) (drop l.dictionary-index l.dictionaries) old.bytes new.place) ≡ each
    (part l.manner l.start) l.dictionaries old.bytes old.place))
