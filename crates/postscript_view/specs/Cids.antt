-- CIDs (Technical Note 5176, section 13, "Charsets", and section 18, "CID-keyed Fonts").
use Rattle.std.specs.Prelude.{ℕ, ◌<◌, length, IsSome}
use Rattle.postscript_base.specs.Compact1.Defaults.{look}
use Rattle.postscript_base.specs.Compact1.Dictionary.{Dictionary}
use Rattle.postscript_base.specs.declared.compact1.operator.Operator.TheVariants as operators
use Rattle.postscript_base.specs.Index.Lent.{items_of}
use Rattle.postscript_view.specs.Naming.{Names}
use Rattle.postscript_view.specs.declared.char_set.CharSetView.{CharSetView}
use Rattle.postscript_view.specs.declared.font.FontView.{FontView}

-- a font is CID-keyed if its Top DICT has the operator ROS
abbrev pub IsCidKeyed : Dictionary → Type 0
IsCidKeyed map = IsSome (look map operators.ROS)

-- A glyph of a CID-keyed font has this CID: the charset has CIDs instead of SIDs.
pub record HasCid (font : FontView) (set : CharSetView) (glyph cid : ℕ) : Type 0 where
  pub keyed : IsCidKeyed font.dictionary
  pub there : glyph < length (items_of font.char_strings)
  pub tells : Names set glyph cid

-- the first glyph that has a CID
pub record IsFirstWithCid (font : FontView) (set : CharSetView) (cid glyph : ℕ) : Type 0 where
  pub has : HasCid font set glyph cid
  pub none_before : (other : ℕ) → other < glyph → HasCid font set other cid → ⊥
