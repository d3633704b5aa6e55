use Rattle.std.proofs.Common.{ℕ, ◌<◌}
use Rattle.postscript_view.specs.Strings.{HasName}
use Rattle.postscript_view.specs.Value.{view_shown}
use Rattle.postscript_view.proofs.font.FontView.glyph_of_name.Given as goal

-- none of the glyphs so far has the name
abbrev pub invariant-loop-glyph : goal.invariant-loop-glyph
invariant-loop-glyph l = (other : ℕ) → other < l.glyph → HasName (view_shown l.self) l.set other l.name → ⊥
