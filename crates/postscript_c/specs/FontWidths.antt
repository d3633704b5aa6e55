-- The widths of a font, and whether it is CID-keyed, for C.
use Rattle.std.specs.Prelude.{◌≡◌, ◌≢◌, ℕ, List, None, pos}
use Rattle.postscript_base.specs.Compact1.Defaults.{look}
use Rattle.postscript_base.specs.Compact1.Dictionary.{Dictionary}
use Rattle.postscript_base.specs.declared.compact1.operator.Operator.TheVariants as operators
use Rattle.postscript_base.specs.Tape.Outcome.{Got}
use Rattle.postscript_c.specs.Keyed.{IsKeyedBy}
use Rattle.postscript_c.specs.declared.font.PsfFont.{PsfFont}
use Rattle.postscript_c.specs.declared.part.PsfPart.{PsfPart}
use Rattle.postscript_c.specs.Places.{tables}
use Rattle.postscript_c.specs.Widths.{AreWidths}
use Rattle.postscript_view.specs.Order.{aside, header_size}

-- Without ROS, the widths are those in the Private DICT of the Top DICT. In a CID-keyed font they are 0.
pub record HaveWidths (bytes : List ℕ) (map : Dictionary) (part : PsfPart) : Type 0 where
  pub plain : look map operators.ROS ≡ None → AreWidths bytes map part.default_width part.nominal_width
  pub keyed : look map operators.ROS ≢ None → (part.default_width ≡ pos 0) × (part.nominal_width ≡ pos 0)

-- the widths of the first font, and whether it is CID-keyed, agree with its Top DICT
pub record TellsWidths (bytes : List ℕ) (font : PsfFont) : Type 0 where
  pub size : ℕ
  pub map : Dictionary
  pub global : ℕ
  pub header : header_size bytes 0 ≡ Got size 0
  pub stands : aside size tables bytes 0 ≡ Got (map, global) 0
  pub have : HaveWidths bytes map font.part
  pub keyed : IsKeyedBy map font
