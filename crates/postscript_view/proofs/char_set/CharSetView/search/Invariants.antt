use Rattle.std.proofs.Common.{ℕ, ◌<◌}
use Rattle.postscript_view.specs.Naming.{Names}
use Rattle.postscript_view.proofs.char_set.CharSetView.search.Given as goal

-- the identifier names none of the glyphs so far
abbrev pub invariant-loop-glyph : goal.invariant-loop-glyph
invariant-loop-glyph l = (other : ℕ) → other < l.glyph → Names l.self other l.identifier → ⊥
