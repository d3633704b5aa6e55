use Rattle.postscript_instance.specs.Glyphs.{AreCodes, DoesIn}
use Rattle.postscript_instance.proofs.tables.codes_of.Given as goal

-- the glyphs so far
abbrev pub invariant-loop-number : goal.invariant-loop-number
invariant-loop-number l = AreCodes (DoesIn l.numbers l.font l.place) l.widths l.number l.codes.items
