-- Tables for vertical text under new glyph numbers.
use Rattle.std.specs.Prelude.{◌≡◌, ◌≢◌, ℕ, ◌++◌, List, [], ◌∷◌}
use Rattle.postscript_sfnt.specs.Lent.{HasNoTable, IsTableOf}
use Rattle.postscript_sfnt.specs.declared.file.FontFile.{FontFile}
use Rattle.postscript_vertical.specs.Metrics.{KeepsMetrics}
use Rattle.postscript_vertical.specs.Origins.{KeepsOrigins}
use Rattle.postscript_vertical.specs.Refusals.{RefusesMetrics, RefusesOrigins}
use Rattle.postscript_vertical.specs.declared.error.Error.{Error}
use Rattle.postscript_vertical.specs.declared.error.Error.TheVariants.{Memory}

-- tags of tables
abbrev pub vhea_tag : ℕ
vhea_tag = 0x76686561

abbrev pub vmtx_tag : ℕ
vmtx_tag = 0x766d7478

abbrev pub vorg_tag : ℕ
vorg_tag = 0x564f5247

-- new `vhea` and `vmtx` tables, which have the metrics of the origins, or none if the old ones are refused
pub data AreNewMetrics (vhea vmtx origins : List ℕ) (tables : List (ℕ × List ℕ)) : Type 0 where
  refused : (e : Error) → e ≢ Memory → RefusesMetrics e vhea vmtx origins → tables ≡ [] → AreNewMetrics vhea vmtx origins tables
  kept : (new_vhea new_vmtx : List ℕ) → KeepsMetrics vhea vmtx origins new_vhea new_vmtx →
      tables ≡ (vhea_tag, new_vhea) ∷ (vmtx_tag, new_vmtx) ∷ [] → AreNewMetrics vhea vmtx origins tables

-- a new `VORG` table, which has the vertical origins of the origins, or none if the old one is refused
pub data AreNewOrigins (vorg origins : List ℕ) (tables : List (ℕ × List ℕ)) : Type 0 where
  refused : (e : Error) → e ≢ Memory → RefusesOrigins e vorg origins → tables ≡ [] → AreNewOrigins vorg origins tables
  kept : (new : List ℕ) → KeepsOrigins vorg origins new → tables ≡ (vorg_tag, new) ∷ [] → AreNewOrigins vorg origins tables

-- the new `vhea` and `vmtx` tables of a face, or none if it lacks one of them
pub data AreMetricsOf (file : FontFile) (origins : List ℕ) (tables : List (ℕ × List ℕ)) : Type 0 where
  no_header : HasNoTable file vhea_tag → tables ≡ [] → AreMetricsOf file origins tables
  no_metrics : HasNoTable file vmtx_tag → tables ≡ [] → AreMetricsOf file origins tables
  made : (vhea vmtx : List ℕ) → IsTableOf file vhea_tag vhea → IsTableOf file vmtx_tag vmtx → AreNewMetrics vhea vmtx origins tables →
      AreMetricsOf file origins tables

-- the new `VORG` table of a face, or none if it has none
pub data IsVorgOf (file : FontFile) (origins : List ℕ) (tables : List (ℕ × List ℕ)) : Type 0 where
  no_table : HasNoTable file vorg_tag → tables ≡ [] → IsVorgOf file origins tables
  made : (vorg : List ℕ) → IsTableOf file vorg_tag vorg → AreNewOrigins vorg origins tables → IsVorgOf file origins tables

-- these are the tables for vertical text
pub record AreVertical (file : FontFile) (origins : List ℕ) (tables : List (ℕ × List ℕ)) : Type 0 where
  pub metrics : List (ℕ × List ℕ)
  pub are_metrics : AreMetricsOf file origins metrics
  pub vorg : List (ℕ × List ℕ)
  pub is_vorg : IsVorgOf file origins vorg
  pub are : tables ≡ metrics ++ vorg
