-- A font is made of glyphs of another font, which get new numbers or keep their old ones (Technical Note 5176, sections 10, 12, 13 and 18).
use Rattle.std.specs.Prelude.{ℕ, List, Bool, true, false, length}
use Rattle.std.specs.Option.{is_some}
use Rattle.postscript_base.specs.Compact1.Defaults.{look}
use Rattle.postscript_base.specs.declared.compact1.operator.Operator.TheVariants.{ROS}
use Rattle.postscript_view.specs.CharSets.{IsCharSetOf}
use Rattle.postscript_view.specs.Contents.{View}
use Rattle.postscript_view.specs.declared.char_set.CharSetView.{CharSetView}
use Rattle.postscript_write.specs.Fonts.{HasGlyphsOf}
use Rattle.postscript_write.specs.Glyphs.{Sources}
use Rattle.postscript_write.specs.Naming.{GivesWay, KeepsCodes}
use Rattle.postscript_write.specs.Strings.{KeepsStrings, SameStrings}

-- both fonts have a charset
pub record HaveCharSets (bytes : List ℕ) (old : View) (flat : List ℕ) (new : View) : Type 0 where
  pub old_set : CharSetView
  pub new_set : CharSetView
  pub was : IsCharSetOf old_set bytes old.tables.dictionary (length old.char_strings)
  pub is : IsCharSetOf new_set flat new.tables.dictionary (length new.char_strings)

-- The glyphs get new numbers: their indices in this list. Unused strings are left out, except in a CID-keyed font, whose glyphs have no
-- names. A custom encoding is replaced by the standard one.
pub record IsCutFont (sources : Sources) (bytes : List ℕ) (old : View) (flat : List ℕ) (new : View) : Type 0 where
  pub made : HasGlyphsOf sources bytes old flat new
  pub sets : HaveCharSets bytes old flat new
  pub strings : SameStrings (is_some (look old.tables.dictionary ROS)) sources old sets.old_set new sets.new_set
  pub encoding : GivesWay bytes old flat new

-- The glyphs keep their numbers. All strings, names or CIDs, and codes are unchanged.
pub record IsKeptFont (sources : Sources) (bytes : List ℕ) (old : View) (flat : List ℕ) (new : View) : Type 0 where
  pub made : HasGlyphsOf sources bytes old flat new
  pub sets : HaveCharSets bytes old flat new
  pub strings : KeepsStrings sources old sets.old_set new sets.new_set
  pub codes : KeepsCodes sources bytes old flat new sets.old_set sets.new_set

-- a relation between two fonts and the sources of the new glyphs
abbrev pub Making : Type 1
Making = (sources : Sources) (bytes : List ℕ) (old : View) (flat : List ℕ) (new : View) → Type 0

-- whether glyphs keep their numbers
abbrev pub IsFontBy : (retain_gids : Bool) → Making
IsFontBy true = IsKeptFont
IsFontBy false = IsCutFont
