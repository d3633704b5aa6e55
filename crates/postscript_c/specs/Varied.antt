-- The outline of a glyph of a variable font at a location of its design space (OpenType 1.9, "CFF2 - Compact Font Format (CFF) version 2").
use Rattle.std.specs.Prelude.{◌≡◌, ◌≢◌, ℕ, ℤ, List, [], codes, Option, Some, None, Result, Ok, Err, IfOk, IfErr}
use Rattle.postscript_base.specs.Numbers.{big_endian}
use Rattle.postscript_c.specs.Costs.{CostsBeyond, CostsWithin}
use Rattle.postscript_c.specs.Placed.{AreCoordinatesAt, IsUnplaced}
use Rattle.postscript_c.specs.declared.place.Unplaced.TheVariants as unplaced
use Rattle.postscript_c.specs.declared.varied.Unvaried.{Unvaried}
use Rattle.postscript_c.specs.declared.varied.Unvaried.TheVariants.{NoTable, BadTable, NoPlace, NoData, FarPlace, Undrawn}
use Rattle.postscript_cff2.specs.Causes.{NoFont}
use Rattle.postscript_cff2.specs.Layout.{IsLaidOut}
use Rattle.postscript_cff2.specs.Shown.{view_shown}
use Rattle.postscript_cff2.specs.declared.font.Font.{Font}
use Rattle.postscript_drawing.specs.declared.error.Error.{Error}
use Rattle.postscript_drawing.specs.declared.error.Error.TheVariants.{TooLong}
use Rattle.postscript_outline.specs.declared.segment.Segment.{Segment}
use Rattle.postscript_sfnt.specs.Lent.{HasNoTable, IsTableOf}
use Rattle.postscript_sfnt.specs.declared.file.FontFile.{FontFile}
use Rattle.postscript_variable_font.specs.GlyphDrawings.{DrawsGlyph, IsGlyphUndrawn, SpendsOnGlyph, SufficesFor}
use Rattle.postscript_variable_font.specs.Places.{AreTables, LacksData}
use Rattle.postscript_variable_font.specs.declared.place.Place.{Place}
use Rattle.postscript_variation.specs.Lent.{table_count}
use Rattle.postscript_variation.specs.declared.store.Store as stores

abbrev pub cff2 : ℕ
cff2 = big_endian (codes "CFF2")

-- the font in the `CFF2` table of a face
pub record HasFont (file : FontFile) (font : Font) : Type 0 where
  pub table : List ℕ
  pub there : IsTableOf file cff2 table
  pub lent : font.bytes.now ≡ table
  pub laid_out : IsLaidOut table (view_shown font)

-- A location has the scalars of all item variation data of a store, which cost at most the limit. Without a store it has none.
abbrev pub IsPlaceIn : (limit : ℕ) → Option stores.Store → (coordinates : List ℤ) → Place → Type 0
IsPlaceIn limit None coordinates place = place.tables.items ≡ []
IsPlaceIn limit (Some store) coordinates place =
    CostsWithin store limit × AreTables store coordinates (table_count store) place.tables.items

-- the location of a font of a face with these values
pub record IsPlaceAt (limit : ℕ) (file : FontFile) (font : Font) (values : List ℤ) (place : Place) : Type 0 where
  pub coordinates : List ℤ
  pub are : AreCoordinatesAt file values coordinates
  pub is : IsPlaceIn limit font.store coordinates place

-- Within a limit a glyph draws these segments at a location, or fails for this reason. The items that were read are paid for, and on
-- success these are all items. If the run costs less than the limit, it is not too long.
pub record IsDrawnWithin (limit : ℕ) (font : Font) (glyph : ℕ) (place : Place) (answer : Result (List Segment) Error) : Type 0 where
  pub left : ℕ
  pub drawn : IfOk answer (λ segments. DrawsGlyph font glyph place segments)
  pub why : IfErr answer (λ e. IsGlyphUndrawn font glyph place left e)
  pub spends : SpendsOnGlyph font glyph place limit left answer
  pub suffices : IfErr answer (λ e. SufficesFor font glyph place limit → e ≢ TooLong)

-- the same for a glyph of a face at the location with these values
abbrev pub IsDrawnAt : FontFile → (values : List ℤ) (glyph limit : ℕ) → Result (List Segment) Error → Type 0
IsDrawnAt file values glyph limit answer =
    (font : Font) × (place : Place) × HasFont file font × IsPlaceAt limit file font values place
    × IsDrawnWithin limit font glyph place answer

-- why a face has no font: it has no `CFF2` table, or this table is rejected
abbrev pub HasNoFont : FontFile → Unvaried → Type 0
HasNoFont file NoTable = HasNoTable file cff2
HasNoFont file (BadTable e) = (table : List ℕ) × IsTableOf file cff2 table × NoFont e table
HasNoFont file (NoPlace e) = ⊥
HasNoFont file (NoData number) = ⊥
HasNoFont file FarPlace = ⊥
HasNoFont file (Undrawn e) = ⊥

-- why a store has no location: memory runs out, item variation data are missing, or all scalars cost more than the limit
abbrev pub HasNoPlaceIn : (limit : ℕ) → stores.Store → Unvaried → Type 0
HasNoPlaceIn limit store NoTable = ⊥
HasNoPlaceIn limit store (BadTable e) = ⊥
HasNoPlaceIn limit store (NoPlace e) = e ≡ unplaced.Memory
HasNoPlaceIn limit store (NoData number) = LacksData store number
HasNoPlaceIn limit store FarPlace = CostsBeyond store limit
HasNoPlaceIn limit store (Undrawn e) = ⊥

-- why values give no location of a font: they give none of the face, or the store of the font has none
abbrev pub NamesNoPlace : (limit : ℕ) → FontFile → Font → (values : List ℤ) → Unvaried → Type 0
NamesNoPlace limit file font values NoTable = ⊥
NamesNoPlace limit file font values (BadTable e) = ⊥
NamesNoPlace limit file font values (NoPlace e) = IsUnplaced file values e
NamesNoPlace limit file font values (NoData number) = (store : stores.Store) × (font.store ≡ Some store) × LacksData store number
NamesNoPlace limit file font values FarPlace = (store : stores.Store) × (font.store ≡ Some store) × CostsBeyond store limit
NamesNoPlace limit file font values (Undrawn e) = ⊥

-- The result: the segments of the glyph, or why it is not drawn. Other errors are a missing font or location.
abbrev pub IsVaried : FontFile → (values : List ℤ) (glyph limit : ℕ) → Result (List Segment) Unvaried → Type 0
IsVaried file values glyph limit (Ok segments) = IsDrawnAt file values glyph limit (Ok segments)
IsVaried file values glyph limit (Err NoTable) = HasNoFont file NoTable
IsVaried file values glyph limit (Err (BadTable e)) = HasNoFont file (BadTable e)
IsVaried file values glyph limit (Err (NoPlace e)) = IsUnplaced file values e
IsVaried file values glyph limit (Err (NoData number)) =
    (font : Font) × HasFont file font × NamesNoPlace limit file font values (NoData number)
IsVaried file values glyph limit (Err FarPlace) = (font : Font) × HasFont file font × NamesNoPlace limit file font values FarPlace
IsVaried file values glyph limit (Err (Undrawn e)) = IsDrawnAt file values glyph limit (Err e)
