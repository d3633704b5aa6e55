use Rattle.std.proofs.Common.{◌≡◌, List, drop}
use Rattle.postscript_base.specs.Tape.{IsHonest, Kept}
use Rattle.postscript_base.specs.Tape.Loops.{each}
use Rattle.postscript_compact1.specs.Private.Passed.{passed_part}
use Rattle.postscript_compact1.proofs.EachPart.{with_front}
use Rattle.postscript_compact1.proofs.font_set.parts.passed.pass_parts.Given as goal

-- what is passed and what is still to be passed make the whole
abbrev pub invariant-loop-dictionary : goal.invariant-loop-dictionary
invariant-loop-dictionary g l =
    let old = g.T.ReadSeek.state l.fn.tape in
    let new = g.T.ReadSeek.state l.tape in
    IsHonest old → Kept old new × ((done : List (Unit {0}))
    × (with_front done (each (passed_part l.manner l.start) (drop l.dictionary-index l.dictionaries) old.bytes new.place) ≡ each
    (passed_part l.manner l.start) l.dictionaries old.bytes old.place))
