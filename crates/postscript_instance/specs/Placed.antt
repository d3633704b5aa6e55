-- The location of normalized coordinates (OpenType 1.9, "OpenType Font Variations Common Table Formats", "Item variation store").
use Rattle.std.specs.Prelude.{◌≡◌, ℤ, List, [], Option, Some, None}
use Rattle.postscript_base.specs.declared.error.Error.TheVariants as causes
use Rattle.postscript_instance.specs.declared.error.Error.{Error}
use Rattle.postscript_instance.specs.declared.error.Error.TheVariants as errors
use Rattle.postscript_variable_font.specs.Places.{AreTables, LacksData}
use Rattle.postscript_variable_font.specs.declared.place.Place.{Place}
use Rattle.postscript_variation.specs.Lent.{table_count}
use Rattle.postscript_variation.specs.declared.store.Store.{Store}

-- A location has the scalars of all item variation data of a store. Without a store it has none.
abbrev pub IsPlaceIn : Option Store → (coordinates : List ℤ) → Place → Type 0
IsPlaceIn None coordinates place = place.tables.items ≡ []
IsPlaceIn (Some store) coordinates place = AreTables store coordinates (table_count store) place.tables.items

-- the item variation data with this number are the first that are missing, or memory runs out
abbrev pub LacksPlaceIn : Store → Error → Type 0
LacksPlaceIn store (errors.NoData number) = LacksData store number
LacksPlaceIn store (errors.Font e) = e ≡ causes.Memory
LacksPlaceIn store e = ⊥

abbrev pub LacksPlace : Option Store → Error → Type 0
LacksPlace None e = ⊥
LacksPlace (Some store) e = LacksPlaceIn store e
