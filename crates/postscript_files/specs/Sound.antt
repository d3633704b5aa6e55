-- What is true of each `CFF ` table that is written, whatever glyphs it has.
use Rattle.std.specs.Prelude.{◌≡◌, ℕ, List}
use Rattle.postscript_base.specs.Tape.Outcome.{Got}
use Rattle.postscript_view.specs.Order.{fonts}
use Rattle.postscript_write.specs.Once.{BeginsWithRos, TellsOnce}
use Rattle.postscript_write.specs.Readings.{HasLenientFont}
use Rattle.postscript_write.specs.Selected.{SelectsParts}
use Rattle.postscript_write.specs.Sizes.{HasShortCodes, IsSmall}
use Rattle.postscript_write.specs.Whole.{IsWholeFont}

-- The new table has no stray bytes, no operator twice, `ROS` first, a Font DICT for each glyph of a CID-keyed font, and no charstring of
-- more than 65,535 bytes. The sizes stay below the limit of `TooLarge`. If the lenient reading accepts the old table, it accepts the new
-- one. The old table has exactly one font.
pub record IsSoundFont (cff new : List ℕ) : Type 0 where
  pub whole : IsWholeFont new
  pub once : TellsOnce new
  pub ros : BeginsWithRos new
  pub selects : SelectsParts new
  pub short : HasShortCodes new
  pub small : IsSmall cff new
  pub lenient : HasLenientFont cff → HasLenientFont new
  pub one : fonts cff 0 ≡ Got 1 0
