use Rattle.std.proofs.Common.{◌≤◌, ◌+◌}
use Rattle.postscript_layout.specs.Numbers.{words}
use Rattle.postscript_layout.specs.Steps.{HoldsMore}
use Rattle.postscript_layout.proofs.glyph_set.GlyphSet.hold_words.Given as goal

abbrev pub invariant-loop-k : goal.invariant-loop-k
invariant-loop-k l = record { holds : HoldsMore l.fn.self (words l.table l.offset l.k) l.self; spent : l.limit ≤ l.fn.limit; within : l.fn.limit ≤ l.limit + l.k }
