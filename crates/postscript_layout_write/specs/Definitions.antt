-- The glyph definitions of the GDEF table (OpenType 1.9, "GDEF - Glyph Definition Table"; ISO/IEC 14496-22, 6.3.2): glyph classes, ligature carets,
-- mark attachment classes and mark glyph sets.
use Rattle.std.specs.Prelude.{◌≡◌, ℕ, Bool, false, ◌+◌, ◌*◌, ◌<◌, ◌≤◌, ◌==◌, ◌&&◌, List, [], is_some, length, nat_lt, slice_index, if◌then◌else◌}
use Rattle.postscript_layout.specs.Numbers.{long, word}
use Rattle.postscript_layout_write.specs.Carets.{carets_of}
use Rattle.postscript_layout_write.specs.Classes.{glyph_class}
use Rattle.postscript_layout_write.specs.Ranges.{class_of, coverage_index}

-- the mark attachment class of a glyph; the offset 0 says that there are no classes
abbrev pub mark_class : List ℕ → (glyph : ℕ) → ℕ
mark_class gdef glyph = if word gdef 10 == 0 then 0 else class_of gdef (word gdef 10) glyph

-- the offset of the table of mark glyph sets, which is there from version 1.2 on, or 0
abbrev pub sets_at : List ℕ → ℕ
sets_at gdef = if nat_lt (word gdef 2) 2 then 0 else word gdef 12

-- the number of mark glyph sets in a table of format 1
abbrev pub sets_of : List ℕ → ℕ
sets_of gdef = if sets_at gdef == 0 then 0 else (if word gdef (sets_at gdef) == 1 then word gdef (sets_at gdef + 2) else 0)

-- whether a coverage table has a glyph; with the offset 0, it has none
abbrev pub covers : List ℕ → (table offset glyph : ℕ) → Bool
covers gdef table offset glyph = if offset == 0 then false else is_some (coverage_index gdef (table + offset) glyph)

-- whether a glyph is in a mark glyph set
abbrev pub in_set : List ℕ → (set glyph : ℕ) → Bool
in_set gdef set glyph = nat_lt set (sets_of gdef) && covers gdef (sets_at gdef) (long gdef (sets_at gdef + 4 + set * 4)) glyph

-- The new table has version 1.2 and no attachment points, and no caret list if no kept glyph has carets. Each kept glyph has its classes and its carets,
-- and is in the same sets. Other numbers have no classes and no carets, and are in no set.
pub record KeepsDefinitions (old kept new : List ℕ) : Type 0 where
  pub version : (word new 0 ≡ 1) × (word new 2 ≡ 2)
  pub only : word new 6 ≡ 0
  pub classes : (k : ℕ) → k < length kept → glyph_class new k ≡ glyph_class old (slice_index kept k)
  pub no_class : (k : ℕ) → length kept ≤ k → glyph_class new k ≡ 0
  pub mark_classes : (k : ℕ) → k < length kept → mark_class new k ≡ mark_class old (slice_index kept k)
  pub no_mark_class : (k : ℕ) → length kept ≤ k → mark_class new k ≡ 0
  pub sets : sets_of new ≡ sets_of old
  pub members : (set k : ℕ) → k < length kept → in_set new set k ≡ in_set old set (slice_index kept k)
  pub no_member : (set k : ℕ) → length kept ≤ k → in_set new set k ≡ false
  pub carets : (k : ℕ) → k < length kept → carets_of new k ≡ carets_of old (slice_index kept k)
  pub no_caret : (k : ℕ) → length kept ≤ k → carets_of new k ≡ []
  pub no_caret_list : ((k : ℕ) → k < length kept → carets_of old (slice_index kept k) ≡ []) → word new 8 ≡ 0
