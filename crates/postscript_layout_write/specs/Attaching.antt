-- Rows of numbers and anchors, and subtables that attach marks, as they are written. Only contracts of private functions and proofs name this.
use Rattle.std.specs.Prelude.{◌≡◌, ◌⊎◌, ℕ, ◌+◌, ◌*◌, ◌/◌, ◌%◌, ◌<◌, ◌≤◌, ◌==◌, List, [], ◌∷◌, ◌++◌, Option, None, Some, Vec, length, nat_lt, slice_index, slice_index_or, if◌then◌else◌}
use Rattle.std.specs.List.{Contains}
use Rattle.std.specs.declared.alloc.Global.{Global}
use Rattle.postscript_layout.specs.Numbers.{word}
use Rattle.postscript_layout_write.specs.Cursive.{ends_in}
use Rattle.postscript_layout_write.specs.Holds.{Holds}
use Rattle.postscript_layout_write.specs.Ligatures.{ligature_of}
use Rattle.postscript_layout_write.specs.Marks.{Mark, anchor_in, mark_in}
use Rattle.postscript_layout_write.specs.Ranges.{coverage_index}
use Rattle.postscript_layout_write.specs.Sets.{AreOffsets, Places}
use Rattle.postscript_layout_write.specs.Singles.{record_of, values_by}
use Rattle.postscript_layout_write.specs.Text.{array_text, coverage_text, offsets_text, uint16}
use Rattle.postscript_layout_write.specs.declared.anchors.Anchor.{Anchor}
use Rattle.postscript_layout_write.specs.declared.anchors.Cell.{Cell}
use Rattle.postscript_layout_write.specs.declared.anchors.Cell.TheVariants.{At, Number}
use Rattle.postscript_layout_write.specs.declared.anchors.Ends.{Ends}
use Rattle.postscript_layout_write.specs.declared.anchors.Side.{Side}
use Rattle.postscript_layout_write.specs.declared.anchors.Side.TheVariants.{Bases, Cursive, Marks, Singles}
use Rattle.postscript_layout_write.specs.declared.values.Values.{Values}

-- an anchor of format 1
unfoldable pub anchor_text : Anchor → List ℕ
anchor_text anchor = uint16 1 ++ (uint16 anchor.x ++ uint16 anchor.y)

abbrev pub no_cell : Cell
no_cell = Number 0

-- no anchor is the offset 0
abbrev pub cell_of : Option Anchor → Cell
cell_of None = Number 0
cell_of (Some anchor) = At anchor

-- a row of an array: the numbers of an adjustment, the cells of the ends of a glyph, those of a mark, and those of a base for each class
abbrev pub single_row : Option Values → Option (ℕ → Cell)
single_row None = None
single_row (Some values) = Some (λ j.
    if j == 0 then Number values.x_placement
    else (if j == 1 then Number values.y_placement else (if j == 2 then Number values.x_advance else Number values.y_advance)))

abbrev pub ends_row : Option Ends → Option (ℕ → Cell)
ends_row None = None
ends_row (Some ends) = Some (λ j. if j == 0 then cell_of ends.entry else cell_of ends.exit)

abbrev pub mark_row : Option Mark → Option (ℕ → Cell)
mark_row None = None
mark_row (Some mark) = Some (λ j. if j == 0 then Number mark.class else At mark.anchor)

-- the anchors of a base for each class of marks, and their cells
abbrev pub base_in : List ℕ → (array classes i : ℕ) → Option (ℕ → Option Anchor)
base_in gpos array classes i = if nat_lt i (word gpos array) then Some (λ class. anchor_in gpos array classes i class) else None

abbrev pub base_row : Option (ℕ → Option Anchor) → Option (ℕ → Cell)
base_row None = None
base_row (Some anchors) = Some (λ class. cell_of (anchors class))

abbrev pub at_class : Option (ℕ → Option Anchor) → (class : ℕ) → Option Anchor
at_class None class = None
at_class (Some anchors) class = anchors class

-- the offset of the coverage table, the offset of the table with the rows, and the cells of a row
abbrev pub coverage_of : List ℕ → (subtable : ℕ) → Side → ℕ
coverage_of gpos subtable Marks = subtable + word gpos (subtable + 2)
coverage_of gpos subtable Bases = subtable + word gpos (subtable + 4)
coverage_of gpos subtable Singles = subtable + word gpos (subtable + 2)
coverage_of gpos subtable Cursive = subtable + word gpos (subtable + 2)

abbrev pub array_of : List ℕ → (subtable : ℕ) → Side → ℕ
array_of gpos subtable Marks = subtable + word gpos (subtable + 8)
array_of gpos subtable Bases = subtable + word gpos (subtable + 10)
array_of gpos subtable Singles = subtable
array_of gpos subtable Cursive = subtable

abbrev pub width_of : Side → (classes : ℕ) → ℕ
width_of Marks classes = 2
width_of Bases classes = classes
width_of Singles classes = 4
width_of Cursive classes = 2

abbrev pub row_in : List ℕ → (array classes : ℕ) → Side → (i : ℕ) → Option (ℕ → Cell)
row_in gpos array classes Marks i = mark_row (mark_in gpos array i)
row_in gpos array classes Bases i = base_row (base_in gpos array classes i)
row_in gpos array classes Singles i = single_row (values_by gpos array (record_of gpos array i))
row_in gpos array classes Cursive i = ends_row (ends_in gpos array i)

abbrev pub row_covered : List ℕ → (array classes : ℕ) → Side → (index : Option ℕ) → Option (ℕ → Cell)
row_covered gpos array classes side None = None
row_covered gpos array classes side (Some i) = row_in gpos array classes side i

-- the number of classes of marks
abbrev pub classes_of : List ℕ → (subtable : Option ℕ) → ℕ
classes_of gpos None = 0
classes_of gpos (Some subtable) = word gpos (subtable + 6)

-- the row of a glyph
abbrev pub row_of : List ℕ → (subtable : Option ℕ) → Side → (glyph : ℕ) → Option (ℕ → Cell)
row_of gpos None side glyph = None
row_of gpos (Some subtable) side glyph =
    row_covered gpos (array_of gpos subtable side) (word gpos (subtable + 6)) side (coverage_index gpos (coverage_of gpos subtable side) glyph)

-- a row is there from an offset of a list on
abbrev pub IsRow : (width : ℕ) → Option (ℕ → Cell) → List Cell → (start : ℕ) → Type 0
IsRow width None cells start = ⊥
IsRow width (Some row) cells start = (j : ℕ) → j < width → slice_index_or cells (start + j) no_cell ≡ row j

-- the list is a row
pub record IsWhole (width : ℕ) (is_of : Option (ℕ → Cell)) (cells : List Cell) : Type 0 where
  pub row : IsRow width is_of cells 0
  pub long : length cells ≡ width

abbrev pub IsNewRow : (width : ℕ) → Option (ℕ → Cell) → Option (Vec Cell Global) → Type 0
IsNewRow width is_of None = is_of ≡ None
IsNewRow width is_of (Some cells) = IsWhole width is_of cells.items

-- the rows of the new numbers below a number
pub record AreRows (width : ℕ) (f : ℕ → Option (ℕ → Cell)) (count : ℕ) (glyphs : List ℕ) (cells : List Cell) : Type 0 where
  pub many : length cells ≡ length glyphs * width
  pub fit : (k : ℕ) → k < length glyphs → slice_index glyphs k < count
  pub each : (k : ℕ) → k < length glyphs → IsRow width (f (slice_index glyphs k)) cells (k * width)
  pub all : (x : ℕ) → x < count → (f x ≡ None) ⊎ Contains glyphs x

-- the number of a cell of an array: a number as it is, or the offset of an anchor behind the array
pub record IsAnchor (base : ℕ) (pool : List ℕ) (anchor : Anchor) (number : ℕ) : Type 0 where
  pub place : ℕ
  pub is : number ≡ base + place
  pub small : number < 65536
  pub x : anchor.x < 65536
  pub y : anchor.y < 65536
  pub there : Holds (anchor_text anchor) pool place

abbrev pub IsCell : (base : ℕ) → (pool : List ℕ) → Cell → (number : ℕ) → Type 0
IsCell base pool (Number n) number = (number ≡ n) × (n < 65536)
IsCell base pool (At anchor) number = IsAnchor base pool anchor number

-- the anchor of a cell is placed behind the others
pub record PlacesCell (base : ℕ) (cell : Cell) (number : ℕ) (old new : List ℕ) : Type 0 where
  pub more : List ℕ
  pub bytes : new ≡ old ++ more
  pub is : IsCell base new cell number

-- an array of rows: their number, the numbers of their cells, and the anchors; offsets are counted from a number of bytes before the array
unfoldable pub cells_text : (count : ℕ) → (numbers pool : List ℕ) → List ℕ
cells_text count numbers pool = uint16 count ++ (array_text numbers ++ pool)

pub record HasCells (lead count : ℕ) (cells : List Cell) (bytes : List ℕ) (offset : ℕ) : Type 0 where
  pub numbers : List ℕ
  pub pool : List ℕ
  pub small : count < 65536
  pub same : length numbers ≡ length cells
  pub each : (k : ℕ) → k < length cells → IsCell (lead + (2 + length cells * 2)) pool (slice_index_or cells k no_cell) (slice_index numbers k)
  pub there : Holds (cells_text count numbers pool) bytes offset

-- the header of a subtable of format 1, and the subtable: its coverage tables and its arrays follow the header
unfoldable pub attaching_head : (classes marks bases size : ℕ) → List ℕ
attaching_head classes marks bases size =
    array_text (1 ∷ 12 ∷ (16 + marks * 2) ∷ classes ∷ (20 + marks * 2 + bases * 2) ∷ (20 + marks * 2 + bases * 2 + size) ∷ [])

unfoldable pub attaching_text : (classes : ℕ) → (marks bases first second : List ℕ) → List ℕ
attaching_text classes marks bases first second =
    attaching_head classes (length marks) (length bases) (length first) ++ (coverage_text marks ++ (coverage_text bases ++ (first ++ second)))

-- what fits into a subtable
pub record Fits (classes : ℕ) (marks bases first : List ℕ) : Type 0 where
  pub small : classes < 65536
  pub few_marks : length marks ≤ 16380
  pub few_bases : length bases ≤ 16380
  pub size : 20 + length marks * 2 + length bases * 2 + length first < 65536

-- a subtable is appended
pub record PutsAttaching (classes : ℕ) (marks bases first second old new : List ℕ) : Type 0 where
  pub fits : Fits classes marks bases first
  pub text : new ≡ old ++ attaching_text classes marks bases first second

-- the numbers before an array, from which its offsets are counted: none for marks and bases, else the format, the offset of the coverage table, and for
-- adjustments the format of their values
abbrev pub numbers_of : Side → (coverage : ℕ) → List ℕ
numbers_of Marks coverage = []
numbers_of Bases coverage = []
numbers_of Singles coverage = 2 ∷ coverage ∷ 15 ∷ []
numbers_of Cursive coverage = 1 ∷ coverage ∷ []

abbrev pub lead_of : Side → ℕ
lead_of Marks = 0
lead_of Bases = 0
lead_of Singles = 6
lead_of Cursive = 4

-- the array of the kept glyphs of a subtable
pub record IsArray (side : Side) (gpos : List ℕ) (subtable : Option ℕ) (kept glyphs text : List ℕ) : Type 0 where
  pub cells : List Cell
  pub are : AreRows (width_of side (classes_of gpos subtable)) (λ x. row_of gpos subtable side (slice_index kept x)) (length kept) glyphs cells
  pub has : HasCells (lead_of side) (length glyphs) cells text 0

-- the anchors of the components of a ligature, one component after the other
pub record AreComponents (gpos : List ℕ) (ligature classes : ℕ) (cells : List Cell) : Type 0 where
  pub many : length cells ≡ word gpos ligature * classes
  pub each : (q : ℕ) → q < length cells → slice_index_or cells q no_cell ≡ cell_of (anchor_in gpos ligature classes (q / classes) (q % classes))

-- the table of a ligature is there
pub record HasLigature (gpos : List ℕ) (ligature classes : ℕ) (bytes : List ℕ) (offset : ℕ) : Type 0 where
  pub cells : List Cell
  pub are : AreComponents gpos ligature classes cells
  pub has : HasCells 0 (word gpos ligature) cells bytes offset

abbrev pub HasLigatureOf : List ℕ → (ligature : Option ℕ) → (classes : ℕ) → (bytes : List ℕ) → (offset : ℕ) → Type 0
HasLigatureOf gpos None classes bytes offset = ⊥
HasLigatureOf gpos (Some ligature) classes bytes offset = HasLigature gpos ligature classes bytes offset

-- the table of a ligature glyph
abbrev pub ligature_at : List ℕ → (subtable : Option ℕ) → (glyph : ℕ) → Option ℕ
ligature_at gpos None glyph = None
ligature_at gpos (Some subtable) glyph = ligature_of gpos subtable glyph

-- the ligatures of the new numbers below a number
pub record AreLigatures (gpos : List ℕ) (subtable : Option ℕ) (kept : List ℕ) (count : ℕ) (glyphs offsets bytes : List ℕ) : Type 0 where
  pub same : length offsets ≡ length glyphs
  pub fit : (k : ℕ) → k < length glyphs → slice_index glyphs k < count
  pub each : (k : ℕ) → k < length glyphs →
      HasLigatureOf gpos (ligature_at gpos subtable (slice_index kept (slice_index glyphs k))) (classes_of gpos subtable) bytes (slice_index offsets k)
  pub all : (x : ℕ) → x < count → (ligature_at gpos subtable (slice_index kept x) ≡ None) ⊎ Contains glyphs x

-- the table of a ligature is added
pub record AddsLigature (glyph : ℕ) (text glyphs offsets bytes newglyphs newoffsets newbytes : List ℕ) : Type 0 where
  pub place : ℕ
  pub glyphs_are : newglyphs ≡ glyphs ++ glyph ∷ []
  pub offsets_are : newoffsets ≡ offsets ++ place ∷ []
  pub placed : Places text bytes newbytes place

-- an array of ligatures
unfoldable pub ligatures_text : (offsets bytes : List ℕ) → List ℕ
ligatures_text offsets bytes = uint16 (length offsets) ++ (offsets_text (2 + length offsets * 2) offsets ++ bytes)

pub record IsLigatureArray (offsets bytes text : List ℕ) : Type 0 where
  pub few : length offsets ≤ 16380
  pub fit : AreOffsets (2 + length offsets * 2) offsets
  pub is : text ≡ ligatures_text offsets bytes

pub record HasLigatureArray (gpos : List ℕ) (subtable : Option ℕ) (kept bases text : List ℕ) : Type 0 where
  pub offsets : List ℕ
  pub bytes : List ℕ
  pub are : AreLigatures gpos subtable kept (length kept) bases offsets bytes
  pub is : IsLigatureArray offsets bytes text

-- the bases or the ligatures; without marks, none are needed
pub data HasSecondArray (type : ℕ) (gpos : List ℕ) (subtable : Option ℕ) (kept marks bases text : List ℕ) : Type 0 where
  no_marks : marks ≡ [] → HasSecondArray type gpos subtable kept marks bases text
  are_bases : (type ≡ 5 → ⊥) → IsArray Bases gpos subtable kept bases text → HasSecondArray type gpos subtable kept marks bases text
  are_ligatures : type ≡ 5 → HasLigatureArray gpos subtable kept bases text → HasSecondArray type gpos subtable kept marks bases text

-- a subtable at an offset has the marks, and the bases or the ligatures
pub record HasAttaching (type : ℕ) (gpos : List ℕ) (subtable : Option ℕ) (kept bytes : List ℕ) (offset : ℕ) : Type 0 where
  pub marks : List ℕ
  pub bases : List ℕ
  pub first : List ℕ
  pub second : List ℕ
  pub small : length kept < 65536
  pub first_has : IsArray Marks gpos subtable kept marks first
  pub second_has : HasSecondArray type gpos subtable kept marks bases second
  pub fits : Fits (classes_of gpos subtable) marks bases first
  pub there : Holds (attaching_text (classes_of gpos subtable) marks bases first second) bytes offset

pub record AddsAttaching (type : ℕ) (gpos : List ℕ) (subtable : Option ℕ) (kept old new : List ℕ) : Type 0 where
  pub more : List ℕ
  pub bytes : new ≡ old ++ more
  pub has : HasAttaching type gpos subtable kept new (length old)
