-- Variations of metrics, borrowed from an `MVAR` table.
use Rattle.std.specs.Prelude.{◌≡◌, ℕ, ℤ, List, Some}
use Rattle.postscript_base.specs.Index.{number_at}
use Rattle.postscript_variation.specs.Lent.{IsNamedStore}
use Rattle.postscript_variation.specs.LentAdvances.{HasNoItem, VariesBy}
use Rattle.postscript_variation.specs.Metrics.{AreRecords, IsFirstRecord, inner_at, outer_at}
use Rattle.postscript_variation.specs.declared.metrics.MetricVariations.{MetricVariations}
use Rattle.postscript_variation.specs.declared.store.Store.{Store}

-- the records and the store of an `MVAR` table
pub record AreMetricsOf (bytes : List ℕ) (metrics : MetricVariations) : Type 0 where
  pub lent : metrics.bytes.now ≡ bytes
  pub are : AreRecords bytes metrics.size metrics.count
  pub stored : IsNamedStore bytes (number_at bytes 10 2) metrics.store

-- at these coordinates, the variation of the metric with a tag is `total`, in units of 2 ^ -16
pub record MetricVariesBy (metrics : MetricVariations) (tag : ℕ) (coordinates : List ℤ) (total : ℤ) : Type 0 where
  pub entry : ℕ
  pub store : Store
  pub first : IsFirstRecord metrics.bytes.now metrics.size metrics.count tag entry
  pub stored : metrics.store ≡ Some store
  pub varies :
      VariesBy store (outer_at metrics.bytes.now metrics.size entry) (inner_at metrics.bytes.now metrics.size entry) coordinates total

-- the table has no variation of the metric: there is no record with the tag, no store, or no delta set with the indexes
abbrev pub HasNoMetric : MetricVariations → (tag : ℕ) → Type 0
HasNoMetric metrics tag = (entry : ℕ) (store : Store) → IsFirstRecord metrics.bytes.now metrics.size metrics.count tag entry
    → metrics.store ≡ Some store
    → HasNoItem store (outer_at metrics.bytes.now metrics.size entry) (inner_at metrics.bytes.now metrics.size entry)
