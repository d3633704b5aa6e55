-- Sets of pairs.
use Rattle.std.specs.Prelude.{◌≡◌, ℕ, ◌+◌, ◌*◌, ◌<◌, ◌≤◌, List, [], ◌∷◌, ◌++◌, Some, length, slice_index}
use Rattle.std.specs.List.{All, Contains}
use Rattle.postscript_layout_write.specs.Entries.{entry, form_of}
use Rattle.postscript_layout_write.specs.Holds.{Holds}
use Rattle.postscript_layout_write.specs.Text.{AreOfForm, EntryFits, set_text, subtable_text}
use Rattle.postscript_layout_write.specs.declared.entries.Entry.{Entry}
use Rattle.postscript_layout_write.specs.declared.entries.Form.{Form}
use Rattle.postscript_layout_write.specs.declared.subtables.Sets.{Sets}
use Rattle.postscript_layout_write.specs.declared.values.Adjustment.{Adjustment}

-- offsets that are counted from a base fit into two bytes
abbrev pub AreOffsets : (base : ℕ) → List ℕ → Type 0
AreOffsets base offsets = (k : ℕ) → k < length offsets → base + slice_index offsets k < 65536

-- a text is at an offset of a list of bytes, of which the old one is the beginning
pub record Places (text old new : List ℕ) (offset : ℕ) : Type 0 where
  pub more : List ℕ
  pub bytes : new ≡ old ++ more
  pub there : Holds text new offset

-- the pairs of a form are added as the set of a first glyph, if there are some
pub data Adds (form : Form) (first : ℕ) (entries : List Entry) (old new : Sets) : Type 0 where
  no_pairs : AreOfForm form entries [] → new.firsts.items ≡ old.firsts.items → new.offsets.items ≡ old.offsets.items →
      new.bytes.items ≡ old.bytes.items → Adds form first entries old new
  some_pairs : (found : List Entry) → AreOfForm form entries found → All (EntryFits form) found → first < 65536 → (offset : ℕ) →
      new.firsts.items ≡ old.firsts.items ++ first ∷ [] →
      new.offsets.items ≡ old.offsets.items ++ offset ∷ [] →
      Places (set_text form found) old.bytes.items new.bytes.items offset → Adds form first entries old new

-- a set at an offset has the pairs of a form, by their second glyphs
pub record HasSet (form : Form) (g : ℕ → Adjustment) (bytes : List ℕ) (offset : ℕ) : Type 0 where
  pub entries : List Entry
  pub right : All (λ e. (form_of e.adjustment ≡ Some form) × (e.adjustment ≡ g e.second)) entries
  pub all : (y : ℕ) → form_of (g y) ≡ Some form → Contains entries (entry y (g y))
  pub fit : All (EntryFits form) entries
  pub few : length entries < 65536
  pub there : Holds (set_text form entries) bytes offset

-- the sets of a form have the pairs of their first glyphs
pub record AreSets (form : Form) (f : (x y : ℕ) → Adjustment) (firsts offsets bytes : List ℕ) : Type 0 where
  pub same : length offsets ≡ length firsts
  pub fit : (k : ℕ) → k < length firsts → slice_index firsts k < 65536
  pub each : (k : ℕ) → k < length firsts → HasSet form (f (slice_index firsts k)) bytes (slice_index offsets k)

-- a subtable at an offset has the pairs of a form with some first glyphs
pub record HasSubtable (form : Form) (f : (x y : ℕ) → Adjustment) (firsts bytes : List ℕ) (offset : ℕ) : Type 0 where
  pub offsets : List ℕ
  pub sets : List ℕ
  pub are : AreSets form f firsts offsets sets
  pub fit : AreOffsets (14 + length firsts * 4) offsets
  pub few : length firsts ≤ 16380
  pub there : Holds (subtable_text form firsts offsets sets) bytes offset
