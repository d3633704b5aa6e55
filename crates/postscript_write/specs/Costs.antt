-- The cost of the runs of the glyphs of a subset, and how they share a limit. This is not a rule of the Notes: it bounds the time of a call.
use Rattle.std.specs.Prelude.{◌≡◌, ◌≢◌, ◌↔◌, ℕ, ◌+◌, ◌≤◌, List, [], ◌∷◌, ◌++◌, Option, Some, None}
use Rattle.std.specs.List.{AllPairs, Contains}
use Rattle.postscript_base.specs.RefusalOf.{refusal_of}
use Rattle.postscript_base.specs.declared.error.Error as causes
use Rattle.postscript_type2.specs.Program.Runs.{Run, fault_of}
use Rattle.postscript_view.specs.Advances.{HasRun}
use Rattle.postscript_view.specs.Fitting.{GlyphCosts, GlyphLeaves}
use Rattle.postscript_view.specs.declared.font.FontView.{FontView}
use Rattle.postscript_view.specs.declared.private_dict.PrivateDict.{PrivateDict}
use Rattle.postscript_write.specs.Components.{IsOpened, IsReached}
use Rattle.postscript_write.specs.declared.error.Error.{Error}
use Rattle.postscript_write.specs.declared.error.Error.TheVariants.{Glyph, TooLong}

-- no glyph is listed twice
abbrev pub AreDistinct : List ℕ → Type 0
AreDistinct glyphs = AllPairs (λ one other. one ≢ other) glyphs

-- The runs of glyphs share a limit: each ends within the units that those before it leave. A glyph without a run costs nothing.
pub data ShareLimit (font : FontView) (limit : ℕ) : (glyphs : List ℕ) → (left : ℕ) → Type 0 where
  none_share : ShareLimit font limit [] limit
  one_more_shares : (glyphs : List ℕ) (glyph before left : ℕ) → ShareLimit font limit glyphs before → GlyphLeaves font before glyph left →
      ShareLimit font limit (glyphs ++ glyph ∷ []) left

-- the cost of glyphs
pub data GlyphsCost (font : FontView) : (glyphs : List ℕ) → (total : ℕ) → Type 0 where
  none_cost : GlyphsCost font [] 0
  one_more_costs : (glyphs : List ℕ) (glyph total units : ℕ) → GlyphsCost font glyphs total → GlyphCosts font glyph units →
      GlyphsCost font (glyphs ++ glyph ∷ []) (total + units)

-- The glyphs that are reached from the named ones share a limit, in some order.
pub record ReachedShareLimit (font : FontView) (named : List ℕ) (limit : ℕ) : Type 0 where
  pub order : List ℕ
  pub distinct : AreDistinct order
  pub all : (glyph : ℕ) → Contains order glyph ↔ IsReached font named glyph
  pub left : ℕ
  pub shared : ShareLimit font limit order left

-- Glyphs that are reached from the named ones, some or all, cost at least the limit together.
pub record ReachedCostTheLimit (font : FontView) (named : List ℕ) (limit : ℕ) : Type 0 where
  pub glyphs : List ℕ
  pub distinct : AreDistinct glyphs
  pub reached : (glyph : ℕ) → Contains glyphs glyph → IsReached font named glyph
  pub total : ℕ
  pub cost : GlyphsCost font glyphs total
  pub much : limit ≤ total

-- the run of a glyph fails with this error
abbrev pub FailsWith : FontView → (glyph : ℕ) → causes.Error → Type 0
FailsWith font glyph cause = (part : PrivateDict) × (run : Run) × HasRun font glyph part run × (fault_of run.end ≡ Some (refusal_of cause))

-- the kept glyphs share the limit, if there is one
abbrev pub KeepsWithin : Option ℕ → (named bytes : List ℕ) → Type 0
KeepsWithin None named bytes = Unit {0}
KeepsWithin (Some limit) named bytes = (font : FontView) × IsOpened bytes font × ReachedShareLimit font named limit

-- Why a search stops early: the limit is used up, or a glyph fails that is reached from the named ones.
abbrev pub Stops : FontView → (named : List ℕ) → Option ℕ → Error → Type 0
Stops font named (Some limit) TooLong = ReachedCostTheLimit font named limit
Stops font named (Some limit) (Glyph glyph cause) = IsReached font named glyph × FailsWith font glyph cause
Stops font named limit e = ⊥

-- the same for the font at the beginning of the bytes
abbrev pub StopsIn : (bytes named : List ℕ) → Option ℕ → Error → Type 0
StopsIn bytes named limit e = (font : FontView) × IsOpened bytes font × Stops font named limit e
