-- Layout tables that are made. Only private contracts and proofs use these definitions.
use Rattle.std.specs.Prelude.{◌≡◌, ℕ, List, Result, Ok, Err, Vec, map}
use Rattle.std.specs.declared.alloc.Global.{Global}
use Rattle.postscript_layout_write.specs.declared.error.Error.{Error as Fault}
use Rattle.postscript_sfnt.specs.declared.file.FontFile.{FontFile}
use Rattle.postscript_subset.specs.Layers.{HasNoPairs, IsGdef, IsGpos, IsGsub, IsKern, KeepsPairs, RefusesPairs, all_tables}
use Rattle.postscript_subset.specs.Subsets.{shown}
use Rattle.postscript_subset.specs.Vertical.{AreVertical}
use Rattle.postscript_subset.specs.declared.features.Features.{Features}
use Rattle.postscript_subset.specs.declared.layers.Layer.{Layer}
use Rattle.postscript_subset.specs.declared.layers.Layers.{Layers}
use Rattle.postscript_subset.specs.declared.layers.Outcome.{Outcome}
use Rattle.postscript_subset.specs.declared.layers.Outcome.TheVariants as outcomes

-- a table that is written, or the reason why it is not
abbrev pub IsLayer : Result (Vec ℕ Global) Fault → Layer → Type 0
IsLayer (Ok table) layer = (layer.outcome ≡ outcomes.Kept) × (layer.table.items ≡ table.items)
IsLayer (Err e) layer = layer.outcome ≡ outcomes.Lost e

-- a `kern` table with the pairs of the origins, or the reason why it is not written
abbrev pub ArePairs : Outcome → (old origins : List ℕ) → (left : ℕ) → (new : List ℕ) → Type 0
ArePairs outcomes.Absent old origins left new = HasNoPairs old origins
ArePairs outcomes.NotChosen old origins left new = ⊥
ArePairs outcomes.Kept old origins left new = KeepsPairs old origins new
ArePairs (outcomes.Lost e) old origins left new = RefusesPairs e old origins left

-- the tables of the origins
pub record AreLayers (file : FontFile) (features : Features) (lookups origins : List ℕ) (left : ℕ) (layers : Layers) : Type 0 where
  pub gdef : IsGdef layers.gdef.outcome file origins left layers.gdef.table.items
  pub gsub : IsGsub layers.gsub.outcome file features lookups origins layers.gdef.outcome left layers.gsub.table.items
  pub gpos : IsGpos layers.gpos.outcome file features origins layers.gdef.outcome left layers.gpos.table.items
  pub kern : IsKern layers.kern.outcome file features origins layers.gpos.outcome layers.gpos.table.items left layers.kern.table.items
  pub vertical : AreVertical file origins (map shown layers.vertical.items)

-- the layout tables that are kept
abbrev pub tables_of : Layers → List (ℕ × List ℕ)
tables_of layers = all_tables layers.gdef.outcome layers.gsub.outcome layers.gpos.outcome layers.kern.outcome
    layers.gdef.table.items layers.gsub.table.items layers.gpos.table.items layers.kern.table.items (map shown layers.vertical.items)
