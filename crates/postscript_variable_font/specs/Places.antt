-- The scalars of a location of the design space (OpenType 1.9, "OpenType Font Variations Common Table Formats", "Item variation store").
use Rattle.std.specs.Prelude.{◌≡◌, ◌<◌, ℕ, ℤ, List, [], length, Option, Some, None, Vec, slice_get}
use Rattle.std.specs.declared.alloc.Global.{Global}
use denote.Ref.{Bor}
use Rattle.postscript_variation.specs.Lent.{HasNoTable, IsDataIn, delta_count, scalar_at, table_count}
use Rattle.postscript_variation.specs.declared.store.Data.{Data}
use Rattle.postscript_variation.specs.declared.store.Store.{Store}
use Rattle.postscript_variable_font.specs.declared.error.Error.{Error}
use Rattle.postscript_variable_font.specs.declared.error.Error.TheVariants as errors
use Rattle.postscript_variable_font.specs.declared.place.Place.{Place}

-- the scalars of the first `count` regions of item variation data
pub record AreScalars (table : Data) (coordinates : List ℤ) (count : ℕ) (scalars : List ℕ) : Type 0 where
  pub counted : length scalars ≡ count
  pub each : (j : ℕ) → j < count → slice_get scalars j ≡ Some (scalar_at table coordinates j)

-- the scalars of the item variation data with a number
pub record AreScalarsOf (store : Store) (coordinates : List ℤ) (number : ℕ) (scalars : List ℕ) : Type 0 where
  pub table : Data
  pub stands : IsDataIn store number table
  pub are : AreScalars table coordinates (delta_count table) scalars

-- the scalars of the first `count` item variation data of a store
pub record AreTables (store : Store) (coordinates : List ℤ) (count : ℕ) (tables : List (Vec ℕ Global)) : Type 0 where
  pub counted : length tables ≡ count
  pub each : (number : ℕ) → number < count →
      (scalars : Vec ℕ Global) × (slice_get tables number ≡ Some scalars) × AreScalarsOf store coordinates number scalars.items

-- The location has the scalars of all item variation data of the store. Without a store it has none.
abbrev pub IsPlaceOf : Option (Bor Store) → (coordinates : List ℤ) → Place → Type 0
IsPlaceOf None coordinates place = place.tables.items ≡ []
IsPlaceOf (Some store) coordinates place = AreTables store.now coordinates (table_count store.now) place.tables.items

-- The item variation data with this number are the first that are missing.
pub record LacksData (store : Store) (number : ℕ) : Type 0 where
  pub there : number < table_count store
  pub lacks : HasNoTable store number
  pub before : (n : ℕ) → n < number → (table : Data) × IsDataIn store n table

-- the item variation data with this number are missing, or memory runs out
abbrev pub NoPlace : Store → Error → Type 0
NoPlace store errors.Memory = Unit {0}
NoPlace store (errors.MissingData number) = LacksData store number

abbrev pub NoPlaceOf : Option (Bor Store) → Error → Type 0
NoPlaceOf None e = ⊥
NoPlaceOf (Some store) e = NoPlace store.now e
