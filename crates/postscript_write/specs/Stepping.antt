-- Single steps of a search within a limit. Only private contracts and proofs use these names.
use Rattle.std.specs.Prelude.{◌≡◌, ◌≤◌, ℕ, List, [], Option, Some, None}
use Rattle.postscript_base.specs.RefusalOf.{refusal_of}
use Rattle.postscript_base.specs.declared.error.Error.TheVariants.{Memory}
use Rattle.postscript_type2.specs.Program.Limit.{Spends}
use Rattle.postscript_type2.specs.Program.Runs.{Phrase, Run, fault_of}
use Rattle.postscript_view.specs.Fitting.{GlyphCosts, GlyphLeaves}
use Rattle.postscript_view.specs.declared.font.FontView.{FontView}
use Rattle.postscript_write.specs.Costs.{FailsWith, ReachedShareLimit, ShareLimit}
use Rattle.postscript_write.specs.declared.error.Error.{Error}
use Rattle.postscript_write.specs.declared.error.Error.TheVariants.{Refused, Glyph, TooLong}

-- a run ends without a fault within a limit, and this is left of it
abbrev pub IsPaid : Run → (limit left : ℕ) → Type 0
IsPaid run limit left = (fault_of run.end ≡ None) × Spends limit run.trace left []

-- why a run of a glyph stops early
abbrev pub StopsRun : Run → (glyph limit : ℕ) → Error → Type 0
StopsRun run glyph limit TooLong = (rest : List Phrase) × Spends limit run.trace 0 rest
StopsRun run glyph limit (Glyph number cause) = (number ≡ glyph) × (fault_of run.end ≡ Some (refusal_of cause))
StopsRun run glyph limit (Refused cause) = cause ≡ Memory
StopsRun run glyph limit e = ⊥

-- what a glyph leaves of the limit, if there is one
abbrev pub Leaves : FontView → Option ℕ → (glyph : ℕ) → Option ℕ → Type 0
Leaves font None glyph None = Unit {0}
Leaves font (Some limit) glyph (Some left) = GlyphLeaves font limit glyph left
Leaves font limit glyph left = ⊥

-- why a search stops at a glyph
abbrev pub StopsAt : FontView → (glyph : ℕ) → Option ℕ → Error → Type 0
StopsAt font glyph limit (Refused cause) = cause ≡ Memory
StopsAt font glyph (Some limit) TooLong = (units : ℕ) × GlyphCosts font glyph units × (limit ≤ units)
StopsAt font glyph (Some limit) (Glyph number cause) = (number ≡ glyph) × FailsWith font glyph cause
StopsAt font glyph limit e = ⊥

-- what glyphs leave of the limit, if there is one
abbrev pub Share : FontView → Option ℕ → (glyphs : List ℕ) → Option ℕ → Type 0
Share font None glyphs None = Unit {0}
Share font (Some limit) glyphs (Some left) = ShareLimit font limit glyphs left
Share font limit glyphs left = ⊥

-- the glyphs that are reached share the limit, if there is one
abbrev pub AllShare : FontView → (named : List ℕ) → Option ℕ → Type 0
AllShare font named None = Unit {0}
AllShare font named (Some limit) = ReachedShareLimit font named limit
