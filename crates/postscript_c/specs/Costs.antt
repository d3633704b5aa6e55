-- The cost of the scalars of a location. It is no rule of the specification: it bounds the time of a call.
use Rattle.std.specs.Prelude.{ℕ, ◌+◌, ◌*◌, ◌<◌, ◌≤◌}
use Rattle.postscript_variation.specs.Lent.{IsDataIn, axes_of, delta_count, regions_of, table_count}
use Rattle.postscript_variation.specs.declared.store.Data.{Data}
use Rattle.postscript_variation.specs.declared.store.Store.{Store}

-- The cost of the first `count` item variation data of a store. Each region index costs one unit, and one more for each axis.
pub data Costs (store : Store) : (count cost : ℕ) → Type 0 where
  nothing : Costs store 0 0
  one_more : (count cost : ℕ) (table : Data) → Costs store count cost → IsDataIn store count table →
      Costs store (count + 1) (cost + delta_count table * (axes_of (regions_of store) + 1))

-- all data of a store cost at most the limit
abbrev pub CostsWithin : Store → (limit : ℕ) → Type 0
CostsWithin store limit = (cost : ℕ) × Costs store (table_count store) cost × (cost ≤ limit)

-- the first data of a store cost more than the limit
abbrev pub CostsBeyond : Store → (limit : ℕ) → Type 0
CostsBeyond store limit = (count : ℕ) × (cost : ℕ) × Costs store count cost × (limit < cost)
