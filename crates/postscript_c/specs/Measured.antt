-- The advance width of a glyph of a variable font at a location of its design space, for C (OpenType 1.9, "hmtx - Horizontal Metrics
-- Table", "HVAR - Horizontal Metrics Variations Table").
use Rattle.std.specs.Prelude.{◌≡◌, ◌⊎◌, ℕ, ◌<◌, ◌≤◌, ℤ, pos, ◌+ℤ◌, List, codes, Option, Some, None, Result, Ok, Err}
use Rattle.std.specs.Int.{saturate_signed, w64}
use Rattle.postscript_base.specs.Numbers.{big_endian}
use Rattle.postscript_c.specs.Faces.{TellsOfFace}
use Rattle.postscript_c.specs.Placed.{AreCoordinatesAt, IsUnplaced, unplaced_code}
use Rattle.postscript_c.specs.declared.measured.Unmeasured.{Unmeasured}
use Rattle.postscript_c.specs.declared.measured.Unmeasured.TheVariants.{NoGlyph, NoTable, NoAdvances, NoPlace, BadVariations, TooLong}
use Rattle.postscript_sfnt.specs.Lent.{HasNoTable, IsTableOf, AreAdvancesOf as AreRowsOf, advance_in}
use Rattle.postscript_sfnt.specs.Metrics.{HasAdvances as HasRows}
use Rattle.postscript_sfnt.specs.declared.file.FontFile.{FontFile}
use Rattle.postscript_sfnt.specs.declared.metrics.Advances.{Advances}
use Rattle.postscript_variation.specs.LentAdvances.{AdvanceVariesBy, AreAdvancesOf, HasNoAdvance, TakesSteps, in_whole}
use Rattle.postscript_variation.specs.Refusals.{NoAdvances as HasNoVariations}
use Rattle.postscript_variation.specs.declared.advances.AdvanceVariations.{AdvanceVariations}
use Rattle.postscript_variation.specs.declared.error.Error.{Error}
use Rattle.postscript_variation.specs.declared.error.Error.TheVariants.{Cut, UnknownFormat}

abbrev pub hhea : ℕ
hhea = big_endian (codes "hhea")

abbrev pub hmtx : ℕ
hmtx = big_endian (codes "hmtx")

abbrev pub hvar : ℕ
hvar = big_endian (codes "HVAR")

-- the two tables of a face with its default advance widths
pub record HasTables (file : FontFile) (header metrics : List ℕ) : Type 0 where
  pub has_header : IsTableOf file hhea header
  pub has_metrics : IsTableOf file hmtx metrics

-- the advance widths in these tables
abbrev pub HasAdvances : FontFile → Advances → Type 0
HasAdvances file advances = (header : List ℕ) × (metrics : List ℕ) × HasTables file header metrics × AreRowsOf header metrics advances

-- why there are none: a table is missing, or the tables have no advance widths
abbrev pub LacksAdvances : FontFile → Unmeasured → Type 0
LacksAdvances file NoTable = HasNoTable file hhea ⊎ HasNoTable file hmtx
LacksAdvances file NoAdvances =
    (header : List ℕ) × (metrics : List ℕ) × HasTables file header metrics × ((count : ℕ) → HasRows header metrics count → ⊥)
LacksAdvances file NoGlyph = ⊥
LacksAdvances file (NoPlace e) = ⊥
LacksAdvances file (BadVariations e) = ⊥
LacksAdvances file TooLong = ⊥

-- the variations of the advance widths of a face, or `None` if it has no `HVAR` table
abbrev pub HasVariations : FontFile → Option AdvanceVariations → Type 0
HasVariations file None = HasNoTable file hvar
HasVariations file (Some variations) = (table : List ℕ) × IsTableOf file hvar table × AreAdvancesOf table variations

-- why its `HVAR` table is rejected
abbrev pub HasBadVariations : FontFile → Error → Type 0
HasBadVariations file e = (table : List ℕ) × IsTableOf file hvar table × HasNoVariations e table

-- The number that is added to the advance of a glyph at normalized coordinates. It is the variation, rounded to the nearest unit, or 0 if
-- the table has none.
abbrev pub IsAdded : Option AdvanceVariations → (glyph : ℕ) → (coordinates : List ℤ) → (added : ℤ) → Type 0
IsAdded None glyph coordinates added = added ≡ pos 0
IsAdded (Some variations) glyph coordinates added =
    ((total : ℤ) × AdvanceVariesBy variations glyph coordinates total × (added ≡ in_whole total))
    ⊎ (HasNoAdvance variations glyph × (added ≡ pos 0))

-- The steps of this variation: one for each delta of the glyph and each axis. Without an `HVAR` table there are none.
abbrev pub HasSteps : Option AdvanceVariations → (glyph steps : ℕ) → Type 0
HasSteps None glyph steps = steps ≡ 0
HasSteps (Some variations) glyph steps = TakesSteps variations glyph steps

-- the tables of a face for the advance of a glyph at the location with these values, and the steps of its variation
pub record HasTablesFor (file : FontFile) (values : List ℤ) (glyph : ℕ) (advances : Advances) (variations : Option AdvanceVariations)
    (coordinates : List ℤ) (steps : ℕ) : Type 0 where
  pub numbered : glyph < 65536
  pub has_advances : HasAdvances file advances
  pub has_variations : HasVariations file variations
  pub are : AreCoordinatesAt file values coordinates
  pub takes : HasSteps variations glyph steps

-- The advance of a glyph of a face at the location with these values, in font units, limited to 64 bits. Its variation takes no more steps
-- than the limit.
pub record IsAdvanceAt (file : FontFile) (values : List ℤ) (glyph limit : ℕ) (advance : ℤ) : Type 0 where
  pub advances : Advances
  pub variations : Option AdvanceVariations
  pub coordinates : List ℤ
  pub steps : ℕ
  pub added : ℤ
  pub has : HasTablesFor file values glyph advances variations coordinates steps
  pub within : steps ≤ limit
  pub adds : IsAdded variations glyph coordinates added
  pub sum : advance ≡ saturate_signed w64 (pos (advance_in advances glyph) +ℤ added)

-- the variation of this advance takes more steps than the limit
pub record IsBeyondLimit (file : FontFile) (values : List ℤ) (glyph limit : ℕ) : Type 0 where
  pub advances : Advances
  pub variations : Option AdvanceVariations
  pub coordinates : List ℤ
  pub steps : ℕ
  pub has : HasTablesFor file values glyph advances variations coordinates steps
  pub beyond : limit < steps

-- The result: the advance, or that no glyph has a number above 65535, or why there is no advance.
abbrev pub IsMeasured : FontFile → (values : List ℤ) (glyph limit : ℕ) → Result ℤ Unmeasured → Type 0
IsMeasured file values glyph limit (Ok advance) = IsAdvanceAt file values glyph limit advance
IsMeasured file values glyph limit (Err NoGlyph) = 65536 ≤ glyph
IsMeasured file values glyph limit (Err NoTable) = LacksAdvances file NoTable
IsMeasured file values glyph limit (Err NoAdvances) = LacksAdvances file NoAdvances
IsMeasured file values glyph limit (Err (NoPlace e)) = IsUnplaced file values e
IsMeasured file values glyph limit (Err (BadVariations e)) = HasBadVariations file e
IsMeasured file values glyph limit (Err TooLong) = IsBeyondLimit file values glyph limit

-- the statuses of errors
abbrev pub variations_code : Error → ℕ
variations_code Cut = 58
variations_code UnknownFormat = 59

abbrev pub unmeasured_code : Unmeasured → ℕ
unmeasured_code NoGlyph = 31
unmeasured_code NoTable = 36
unmeasured_code NoAdvances = 60
unmeasured_code (NoPlace e) = unplaced_code e
unmeasured_code (BadVariations e) = variations_code e
unmeasured_code TooLong = 46

-- The status and the output for a result: on 0 the advance. An error has its status, and the output is unchanged.
abbrev pub TellsAdvance : Result ℤ Unmeasured → (status old new : ℤ) → Type 0
TellsAdvance (Ok advance) status old new = (status ≡ pos 0) × (new ≡ advance)
TellsAdvance (Err e) status old new = (status ≡ pos (unmeasured_code e)) × (new ≡ old)

abbrev pub TellsMeasuredOf : FontFile → (values : List ℤ) (glyph limit : ℕ) (status old new : ℤ) → Type 0
TellsMeasuredOf file values glyph limit status old new =
    (answer : Result ℤ Unmeasured) × IsMeasured file values glyph limit answer × TellsAdvance answer status old new

-- the status and the output for the advance of a glyph of a face of a file, at the location with these values
abbrev pub TellsMeasured : (bytes : List ℕ) (face : ℕ) (values : List ℤ) (glyph limit : ℕ) (status old new : ℤ) → Type 0
TellsMeasured bytes face values glyph limit status old new =
    TellsOfFace bytes face status (λ file. TellsMeasuredOf file values glyph limit status old new) (new ≡ old)
