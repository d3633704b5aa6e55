-- Pairs by classes of glyphs, as they are collected and written (OpenType 1.9, "GPOS - Glyph Positioning Table", "Pair adjustment positioning format 2:
-- class pair adjustment"; ISO/IEC 14496-22, 6.3.3). Only contracts of private functions and proofs name this.
use Rattle.std.specs.Prelude.{◌≡◌, ◌⊎◌, ℕ, ◌+◌, ◌*◌, ◌<◌, ◌≤◌, List, [], ◌∷◌, ◌++◌, None, true, length, slice_index}
use Rattle.std.specs.List.{Contains}
use Rattle.postscript_layout_write.specs.Entries.{AreEntries}
use Rattle.postscript_layout_write.specs.Forms.{HasSubtables}
use Rattle.postscript_layout_write.specs.Lines.{AddsLine, AreLines, cell}
use Rattle.postscript_layout_write.specs.RuleSets.{Begins}
use Rattle.postscript_layout_write.specs.Text.{array_text, coverage_text}
use Rattle.postscript_layout_write.specs.Values.{nothing}
use Rattle.postscript_layout_write.specs.declared.entries.Entry.{Entry}
use Rattle.postscript_layout_write.specs.declared.lines.Lines.{Lines}
use Rattle.postscript_layout_write.specs.declared.values.Adjustment.{Adjustment}

-- the adjustment of the advance of the first glyph
abbrev pub advance : ℕ → Adjustment
advance n = record { first = record { x_placement = 0; y_placement = 0; x_advance = n; y_advance = 0 }; second = None }

-- the advances of the pairs of a first glyph, by the second glyph, where nothing else is adjusted
pub record AreAdvances (entries : List Entry) (width : ℕ) (line : List ℕ) : Type 0 where
  pub long : length line ≡ width
  pub each : (f : ℕ → Adjustment) → AreEntries f width entries → (y : ℕ) → y < width → f y ≡ advance (slice_index line y)

-- the class of the line of advances of a first glyph is added
pub record AddsFirst (f : ℕ → Adjustment) (old new : Lines) : Type 0 where
  pub line : ℕ → ℕ
  pub adds : AddsLine line old new
  pub is : (y : ℕ) → y < old.width → f y ≡ advance (line y)

-- the lines have the advances of all pairs
abbrev pub AreRows : (f : (x y : ℕ) → Adjustment) → (count : ℕ) → Lines → Type 0
AreRows f count rows = AreLines (λ x y number. f x y ≡ advance number) count rows

-- the rows of the first glyphs, if there are not too many
abbrev pub AreRowsIfOpen : (f : (x y : ℕ) → Adjustment) → (width count : ℕ) → Lines → Type 0
AreRowsIfOpen f width count rows = rows.is_open ≡ true → (rows.width ≡ width) × AreRows f count rows

-- column y of rows
pub record IsColumn (rows : Lines) (y : ℕ) (column : List ℕ) : Type 0 where
  pub long : length column ≡ length rows.keys.items
  pub each : (r : ℕ) → r < length rows.keys.items → slice_index column r ≡ cell rows.cells.items rows.width r y

-- the lines are the columns of rows
abbrev pub AreColumns : (rows : Lines) → (count : ℕ) → (columns : Lines) → Type 0
AreColumns rows count columns = AreLines (λ y r number. number ≡ cell rows.cells.items rows.width r y) count columns

abbrev pub AreColumnsIfOpen : (rows : Lines) → (count : ℕ) → (columns : Lines) → Type 0
AreColumnsIfOpen rows count columns = columns.is_open ≡ true → (columns.width ≡ length rows.keys.items) × AreColumns rows count columns

-- number r of the columns of the first `count` classes is put
pub record PutsValues (columns : Lines) (r count : ℕ) (old new : List ℕ) : Type 0 where
  pub begins : Begins old new
  pub long : length new ≡ length old + count
  pub each : (c : ℕ) → c < count → slice_index new (length old + c) ≡ cell columns.cells.items columns.width c r

-- the first `count` numbers of all columns, one row after the other
pub record AreValues (columns : Lines) (count : ℕ) (values : List ℕ) : Type 0 where
  pub long : length values ≡ count * length columns.keys.items
  pub each : (r c : ℕ) → r < count → c < length columns.keys.items →
      slice_index values (r * length columns.keys.items + c) ≡ cell columns.cells.items columns.width c r

-- the numbers below a number that are in another class than 0
pub record AreFirsts (classes : List ℕ) (count : ℕ) (firsts : List ℕ) : Type 0 where
  pub right : (i : ℕ) → i < length firsts → slice_index firsts i < count
  pub all : (x : ℕ) → x < count → (slice_index classes x ≡ 0) ⊎ Contains firsts x
  pub few : length firsts ≤ count

-- A subtable of format 2: its header, the advances for the classes of both glyphs, the coverage table, and two lists of classes.
unfoldable pub class_text : (row_count column_count : ℕ) → (values firsts rows columns : List ℕ) → List ℕ
class_text row_count column_count values firsts rows columns =
    let coverage = 16 + length values * 2 in
    let first_classes = coverage + 4 + length firsts * 2 in
    let second_classes = first_classes + 6 + length rows * 2 in
    array_text (2 ∷ coverage ∷ 4 ∷ 0 ∷ first_classes ∷ second_classes ∷ row_count ∷ column_count ∷ []) ++ (array_text values ++ (coverage_text firsts
    ++ (array_text (1 ∷ 0 ∷ length rows ∷ []) ++ (array_text rows ++ (array_text (1 ∷ 0 ∷ length columns ∷ []) ++ array_text columns)))))

-- such a subtable, with its numbers
pub record IsClassText (row_count column_count : ℕ) (values firsts rows columns bytes : List ℕ) : Type 0 where
  pub text : bytes ≡ class_text row_count column_count values firsts rows columns
  pub near : 26 + length values * 2 + length firsts * 2 + length rows * 2 < 65536
  pub few : length firsts ≤ 16380
  pub rows_few : length rows < 65536
  pub columns_few : length columns < 65536
  pub row_count_small : row_count < 65536
  pub column_count_small : column_count < 65536
  pub values_small : (k : ℕ) → k < length values → slice_index values k < 65536
  pub firsts_small : (k : ℕ) → k < length firsts → slice_index firsts k < 65536
  pub rows_small : (k : ℕ) → k < length rows → slice_index rows k < 65536
  pub columns_small : (k : ℕ) → k < length columns → slice_index columns k < 65536

-- a subtable of format 2 has all pairs
pub record HasClasses (f : (x y : ℕ) → Adjustment) (bytes : List ℕ) : Type 0 where
  pub row_count : ℕ
  pub column_count : ℕ
  pub values : List ℕ
  pub firsts : List ℕ
  pub rows : List ℕ
  pub columns : List ℕ
  pub is : IsClassText row_count column_count values firsts rows columns bytes
  pub row : (x : ℕ) → Contains firsts x → slice_index rows x < row_count
  pub column : (y : ℕ) → slice_index columns y < column_count
  pub place : (x y : ℕ) → Contains firsts x → slice_index rows x * column_count + slice_index columns y < length values
  pub pair : (x y : ℕ) → Contains firsts x → f x y ≡ advance (slice_index values (slice_index rows x * column_count + slice_index columns y))
  pub others : (x y : ℕ) → (Contains firsts x → ⊥) → f x y ≡ nothing

-- subtables have all pairs: listed ones, or one by classes
pub data HasPairs (f : (x y : ℕ) → Adjustment) (offsets bytes : List ℕ) : Type 0 where
  are_listed : HasSubtables f offsets bytes → HasPairs f offsets bytes
  are_classed : offsets ≡ 0 ∷ [] → HasClasses f bytes → HasPairs f offsets bytes
