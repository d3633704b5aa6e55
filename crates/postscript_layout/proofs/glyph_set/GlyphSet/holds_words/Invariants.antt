use Rattle.std.proofs.Common.{◌≤◌, ◌+◌}
use Rattle.std.specs.List.{All}
use Rattle.postscript_layout.specs.Numbers.{words}
use Rattle.postscript_layout.specs.Steps.{IsHeld}
use Rattle.postscript_layout.proofs.glyph_set.GlyphSet.holds_words.Given as goal

abbrev pub invariant-loop-k : goal.invariant-loop-k
invariant-loop-k l = record { all : All (IsHeld l.self) (words l.table l.offset l.k); spent : l.limit ≤ l.fn.limit; within : l.fn.limit ≤ l.limit + l.k }
