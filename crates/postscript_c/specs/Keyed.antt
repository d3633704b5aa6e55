-- Whether a font is CID-keyed, and the offsets of FDArray and FDSelect (Technical Note 5176, sections 18 and 19).
use Rattle.std.specs.Prelude.{◌≡◌, ◌≢◌, ◌⊎◌, ℕ, [], None}
use Rattle.postscript_base.specs.Compact1.Defaults.{look}
use Rattle.postscript_base.specs.Compact1.Dictionary.{Dictionary}
use Rattle.postscript_base.specs.declared.compact1.operator.Operator.{Operator}
use Rattle.postscript_base.specs.declared.compact1.operator.Operator.TheVariants as operators
use Rattle.postscript_base.specs.Tape.Outcome.{Got}
use Rattle.postscript_c.specs.declared.font.PsfFont.{PsfFont}
use Rattle.postscript_compact1.specs.FontSet.Operands.{place_at}

-- the offset that an operator of a DICT has, or 0 if there is none
abbrev pub IsPlaceOrNone : Dictionary → Operator → (place : ℕ) → Type 0
IsPlaceOrNone map operator place =
    (place_at 0 0 map operator [] 0 ≡ Got place 0) ⊎ (((there next : ℕ) → place_at 0 0 map operator [] 0 ≡ Got there next → ⊥)
    × (place ≡ 0))

-- A font is CID-keyed if its Top DICT has ROS. Otherwise both offsets are 0.
abbrev pub IsKeyedBy : Dictionary → PsfFont → Type 0
IsKeyedBy map font =
    ((look map operators.ROS ≡ None) × (font.is_cid ≡ 0) × (font.font_dictionaries ≡ 0) × (font.fd_select ≡ 0))
    ⊎ ((look map operators.ROS ≢ None) × (font.is_cid ≡ 1) × IsPlaceOrNone map operators.FDArray font.font_dictionaries
    × IsPlaceOrNone map operators.FDSelect font.fd_select)
