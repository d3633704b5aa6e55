-- The scalars of a location of a variable font, which C keeps for all glyphs (OpenType 1.9, "OpenType Font Variations Common Table
-- Formats", "Item variation store"; "CFF2 - Compact Font Format (CFF) version 2").
use Rattle.std.specs.Prelude.{◌≡◌, ◌⊎◌, ℕ, ◌<◌, ℤ, List, [], ◌++◌, length, Option, Some, None, Vec, slice_get, Result, Ok, Err}
use Rattle.std.specs.List.{flat_map}
use Rattle.std.specs.declared.alloc.Global.{Global}
use Rattle.postscript_c.specs.Varied.{HasFont, HasNoFont, IsDrawnAt, IsDrawnWithin, IsPlaceAt, NamesNoPlace, cff2}
use Rattle.postscript_c.specs.declared.prepared.Unlocated.{Unlocated}
use Rattle.postscript_c.specs.declared.prepared.Unlocated.TheVariants.{BadTable, NoData, TooFew, Memory, Undrawn}
use Rattle.postscript_c.specs.declared.varied.Unvaried.{Unvaried}
use Rattle.postscript_cff2.specs.Causes.{NoFont}
use Rattle.postscript_cff2.specs.Layout.{IsLaidOut}
use Rattle.postscript_cff2.specs.Shown.{view_shown}
use Rattle.postscript_cff2.specs.declared.font.Font.{Font}
use Rattle.postscript_drawing.specs.declared.error.Error.{Error}
use Rattle.postscript_outline.specs.declared.segment.Segment.{Segment}
use Rattle.postscript_sfnt.specs.Lent.{IsTableOf}
use Rattle.postscript_sfnt.specs.declared.file.FontFile.{FontFile}
use Rattle.postscript_variable_font.specs.Places.{LacksData}
use Rattle.postscript_variable_font.specs.declared.place.Place.{Place}
use Rattle.postscript_variation.specs.Lent.{IsDataIn, delta_count, table_count}
use Rattle.postscript_variation.specs.declared.store.Data.{Data}
use Rattle.postscript_variation.specs.declared.store.Store as stores

-- the scalars of all item variation data, one list after the other
abbrev pub all_scalars : List (Vec ℕ Global) → List ℕ
all_scalars tables = flat_map (λ table. table.items) tables

-- the scalars of the location of a face with these values
pub record AreScalarsAt (limit : ℕ) (file : FontFile) (values : List ℤ) (scalars : List ℕ) : Type 0 where
  pub font : Font
  pub place : Place
  pub has : HasFont file font
  pub at : IsPlaceAt limit file font values place
  pub are : scalars ≡ all_scalars place.tables.items

-- why there are none: the face has no font, or the values give no location of its font
abbrev pub HasNoScalarsAt : (limit : ℕ) → FontFile → (values : List ℤ) → Unvaried → Type 0
HasNoScalarsAt limit file values e = HasNoFont file e ⊎ ((font : Font) × HasFont file font × NamesNoPlace limit file font values e)

-- the item variation data with a number have one region for each scalar
pub record IsForData (store : stores.Store) (number : ℕ) (scalars : List ℕ) : Type 0 where
  pub table : Data
  pub there : IsDataIn store number table
  pub many : length scalars ≡ delta_count table

-- The first scalars, as lists for the first `count` item variation data of a store, and the rest.
pub record AreLent (store : stores.Store) (scalars : List ℕ) (count : ℕ) (tables : List (Vec ℕ Global)) (rest : List ℕ) : Type 0 where
  pub counted : length tables ≡ count
  pub each : (number : ℕ) → number < count →
      (own : Vec ℕ Global) × (slice_get tables number ≡ Some own) × IsForData store number own.items
  pub laid : scalars ≡ all_scalars tables ++ rest

-- The location has the first scalars, for all item variation data of the store. Without a store it has none.
abbrev pub IsLent : Option stores.Store → (scalars : List ℕ) → Place → Type 0
IsLent None scalars place = place.tables.items ≡ []
IsLent (Some store) scalars place = (rest : List ℕ) × AreLent store scalars (table_count store) place.tables.items rest

-- the scalars end within the regions of some item variation data
pub record AreTooFew (store : stores.Store) (scalars : List ℕ) : Type 0 where
  pub number : ℕ
  pub tables : List (Vec ℕ Global)
  pub rest : List ℕ
  pub table : Data
  pub before : AreLent store scalars number tables rest
  pub there : IsDataIn store number table
  pub few : length rest < delta_count table

-- why a store has no location with these scalars: data are missing, there are too few scalars, or memory runs out
abbrev pub HasNoTables : stores.Store → (scalars : List ℕ) → Unlocated → Type 0
HasNoTables store scalars (BadTable e) = ⊥
HasNoTables store scalars (NoData number) = LacksData store number
HasNoTables store scalars TooFew = AreTooFew store scalars
HasNoTables store scalars Memory = Unit {0}
HasNoTables store scalars (Undrawn e) = ⊥

-- the same for a font, which may have no store
abbrev pub IsNotLent : Option stores.Store → (scalars : List ℕ) → Unlocated → Type 0
IsNotLent store scalars (BadTable e) = ⊥
IsNotLent store scalars (NoData number) = (s : stores.Store) × (store ≡ Some s) × LacksData s number
IsNotLent store scalars TooFew = (s : stores.Store) × (store ≡ Some s) × AreTooFew s scalars
IsNotLent store scalars Memory = Unit {0}
IsNotLent store scalars (Undrawn e) = ⊥

-- the font in a `CFF2` table
pub record IsFontIn (table : List ℕ) (font : Font) : Type 0 where
  pub lent : font.bytes.now ≡ table
  pub laid_out : IsLaidOut table (view_shown font)

-- within a limit a glyph of the font draws these segments at the location with these scalars, or fails for this reason
abbrev pub IsDrawnFrom : (table scalars : List ℕ) (glyph limit : ℕ) → Result (List Segment) Error → Type 0
IsDrawnFrom table scalars glyph limit answer =
    (font : Font) × (place : Place) × IsFontIn table font × IsLent font.store scalars place × IsDrawnWithin limit font glyph place answer

-- The result: the segments of the glyph, or why it is not drawn. Other errors are a rejected table or scalars that give no location.
abbrev pub IsLocated : (table scalars : List ℕ) (glyph limit : ℕ) → Result (List Segment) Unlocated → Type 0
IsLocated table scalars glyph limit (Ok segments) = IsDrawnFrom table scalars glyph limit (Ok segments)
IsLocated table scalars glyph limit (Err (BadTable e)) = NoFont e table
IsLocated table scalars glyph limit (Err (NoData number)) = (font : Font) × IsFontIn table font × IsNotLent font.store scalars (NoData number)
IsLocated table scalars glyph limit (Err TooFew) = (font : Font) × IsFontIn table font × IsNotLent font.store scalars TooFew
IsLocated table scalars glyph limit (Err Memory) = Unit {0}
IsLocated table scalars glyph limit (Err (Undrawn e)) = IsDrawnFrom table scalars glyph limit (Err e)

-- A law: from the scalars of a location, a glyph is drawn as at the location itself.
abbrev pub KeepsLocations : Type 0
KeepsLocations = (limit : ℕ) (file : FontFile) (values : List ℤ) (table scalars : List ℕ) (glyph : ℕ) (answer : Result (List Segment) Error) →
    AreScalarsAt limit file values scalars → IsTableOf file cff2 table → IsDrawnFrom table scalars glyph limit answer →
    IsDrawnAt file values glyph limit answer
