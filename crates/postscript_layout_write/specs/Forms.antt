-- The pairs of a lookup as they are collected. Only contracts of private functions and proofs name this.
use Rattle.std.specs.Prelude.{◌≡◌, ◌⊎◌, ℕ, ◌+◌, ◌*◌, ◌<◌, ◌≤◌, List, [], ◌∷◌, ◌++◌, Some, length}
use Rattle.std.specs.List.{All, Contains}
use Rattle.postscript_layout_write.specs.Entries.{form_of}
use Rattle.postscript_layout_write.specs.Sets.{Adds, AreOffsets, AreSets, HasSubtable}
use Rattle.postscript_layout_write.specs.Text.{subtable_text}
use Rattle.postscript_layout_write.specs.declared.entries.Entry.{Entry}
use Rattle.postscript_layout_write.specs.declared.entries.Form.{Form}
use Rattle.postscript_layout_write.specs.declared.entries.Form.TheVariants.{Advance, First, Both}
use Rattle.postscript_layout_write.specs.declared.forms.Forms.{Forms}
use Rattle.postscript_layout_write.specs.declared.forms.Subtables.{Subtables}
use Rattle.postscript_layout_write.specs.declared.subtables.Sets.{Sets}
use Rattle.postscript_layout_write.specs.declared.values.Adjustment.{Adjustment}

-- a subtable with the sets of a form is appended, if there are some
pub data AddsSubtable (form : Form) (sets : Sets) (old new : Subtables) : Type 0 where
  no_subtable : sets.firsts.items ≡ [] → new.bytes.items ≡ old.bytes.items → new.offsets.items ≡ old.offsets.items → AddsSubtable form sets old new
  one_subtable : AreOffsets (14 + length sets.firsts.items * 4) sets.offsets.items → length sets.firsts.items ≤ 16380 →
      new.bytes.items ≡ old.bytes.items ++ subtable_text form sets.firsts.items sets.offsets.items sets.bytes.items →
      new.offsets.items ≡ old.offsets.items ++ length old.bytes.items ∷ [] → AddsSubtable form sets old new

-- the sets of a form stay as they are, or a subtable with them is appended, and there are no sets then
pub data MakesRoom (form : Form) (oldsets newsets : Sets) (old new : Subtables) : Type 0 where
  has_room : newsets ≡ oldsets → new ≡ old → MakesRoom form oldsets newsets old new
  is_full : newsets.firsts.items ≡ [] → newsets.offsets.items ≡ [] → newsets.bytes.items ≡ [] → AddsSubtable form oldsets old new →
      MakesRoom form oldsets newsets old new

-- the pairs of a first glyph are added to the sets of a form
pub record AddsForm (form : Form) (glyph : ℕ) (entries : List Entry) (oldsets newsets : Sets) (old new : Subtables) : Type 0 where
  pub sets : Sets
  pub room : MakesRoom form oldsets sets old new
  pub adds : Adds form glyph entries sets newsets

-- the pairs of a first glyph are added to each form
pub record AddsForms (glyph : ℕ) (entries : List Entry) (old new : Forms) : Type 0 where
  pub subtables1 : Subtables
  pub subtables2 : Subtables
  pub advance : AddsForm Advance glyph entries old.advance new.advance old.subtables subtables1
  pub first : AddsForm First glyph entries old.first new.first subtables1 subtables2
  pub both : AddsForm Both glyph entries old.both new.both subtables2 new.subtables

-- the sets that are left are appended as subtables
pub record Completes (old new : Forms) : Type 0 where
  pub subtables1 : Subtables
  pub subtables2 : Subtables
  pub advance : AddsSubtable Advance old.advance old.subtables subtables1
  pub first : AddsSubtable First old.first subtables1 subtables2
  pub both : AddsSubtable Both old.both subtables2 new.subtables

-- there is a subtable at an offset
abbrev pub IsSubtable : (f : (x y : ℕ) → Adjustment) → (bytes : List ℕ) → (offset : ℕ) → Type 0
IsSubtable f bytes offset = (form : Form) × (firsts : List ℕ) × HasSubtable form f firsts bytes offset

-- a subtable has the pairs of a form with a first glyph
pub record HasFirst (form : Form) (f : (x y : ℕ) → Adjustment) (x : ℕ) (offsets bytes : List ℕ) : Type 0 where
  pub offset : ℕ
  pub firsts : List ℕ
  pub listed : Contains offsets offset
  pub has : HasSubtable form f firsts bytes offset
  pub first : Contains firsts x

-- the pairs of a form, with first glyphs below a number, are in subtables or in sets
pub record IsForm (form : Form) (f : (x y : ℕ) → Adjustment) (count : ℕ) (sets : Sets) (offsets bytes : List ℕ) : Type 0 where
  pub are : AreSets form f sets.firsts.items sets.offsets.items sets.bytes.items
  pub all : (x y : ℕ) → x < count → form_of (f x y) ≡ Some form → HasFirst form f x offsets bytes ⊎ Contains sets.firsts.items x

-- the pairs with first glyphs below a number are there
pub record AreForms (f : (x y : ℕ) → Adjustment) (count : ℕ) (forms : Forms) : Type 0 where
  pub each : All (IsSubtable f forms.subtables.bytes.items) forms.subtables.offsets.items
  pub advance : IsForm Advance f count forms.advance forms.subtables.offsets.items forms.subtables.bytes.items
  pub first : IsForm First f count forms.first forms.subtables.offsets.items forms.subtables.bytes.items
  pub both : IsForm Both f count forms.both forms.subtables.offsets.items forms.subtables.bytes.items

-- the subtables have all pairs
pub record HasSubtables (f : (x y : ℕ) → Adjustment) (offsets bytes : List ℕ) : Type 0 where
  pub each : All (IsSubtable f bytes) offsets
  pub all : (form : Form) (x y : ℕ) → form_of (f x y) ≡ Some form → HasFirst form f x offsets bytes
