-- The bounding box of all glyphs: four numbers from offset 36 of the `head` table on (ISO/IEC 14496-22, 5.2.2).
use Rattle.std.specs.Prelude.{◌≡◌, ℕ, ◌≤◌, List, length}
use Rattle.postscript_sfnt.specs.Metrics.{signed}
use Rattle.postscript_sfnt.specs.declared.metrics.Bounds.{Bounds}

pub record AreBounds (head : List ℕ) (bounds : Bounds) : Type 0 where
  pub within : 44 ≤ length head
  pub left : bounds.x_min ≡ signed head 36
  pub bottom : bounds.y_min ≡ signed head 38
  pub right : bounds.x_max ≡ signed head 40
  pub top : bounds.y_max ≡ signed head 42
