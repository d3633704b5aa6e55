-- The part of a glyph is the same for C and for the opened font (FontView).
use Rattle.std.specs.Prelude.{◌≡◌, ◌≢◌, ◌⊎◌, ◌↔◌, ℕ, ◌<◌, ◌≤◌, ℤ, pos, List, length, slice_get, Some, Ok}
use Rattle.postscript_base.specs.Compact1.Defaults.{look, first_of}
use Rattle.postscript_base.specs.Tape.Outcome.{Got}
use Rattle.postscript_base.specs.declared.compact1.operator.Operator.TheVariants as operators
use Rattle.postscript_c.specs.CidParts.{HasNumber, LacksDictionary}
use Rattle.postscript_c.specs.Drawn.{HasNone, IsFirst}
use Rattle.postscript_c.specs.Glyphs.{index_at, program_at}
use Rattle.postscript_c.specs.Law.{OpensFont}
use Rattle.postscript_c.specs.Parts.{IsPartIn, IsPartless}
use Rattle.postscript_c.specs.Widths.{IsWidth}
use Rattle.postscript_c.specs.declared.font.PsfFont.{PsfFont}
use Rattle.postscript_c.specs.declared.part.PsfPart.{PsfPart}
use Rattle.postscript_base.specs.Index.Lent.{items_of}
use Rattle.postscript_type2.specs.Program.Evaluation.{run_of}
use Rattle.postscript_type2.specs.Program.Programs.{Pending, begun}
use Rattle.postscript_type2.specs.Program.Routines.{lent}
use Rattle.postscript_view.specs.Glyphs.{HasGlyph, HasPartNumber}
use Rattle.postscript_view.specs.declared.font.FontView.{FontView}
use Rattle.postscript_view.specs.declared.private_dict.PrivateDict.{PrivateDict}
use Rattle.postscript_c.specs.AtStart.{NamesSubroutinesOf, NamesNoStart}

-- The number of a glyph's part for C. It is 0 in a font that is not CID-keyed, and otherwise the number of its Font DICT in FDArray.
abbrev pub IsNumberIn : List ℕ → PsfFont → (glyph fd : ℕ) → Type 0
IsNumberIn bytes font glyph fd =
    ((font.is_cid ≡ 0) × (fd ≡ 0))
    ⊎ ((font.is_cid ≢ 0) × ((items : List (List ℕ)) × (index_at font.font_dictionaries bytes 0 ≡ Got items 0) × (fd < length items)
    × HasNumber bytes font (length items) glyph fd))

pub record HasNumberIn (bytes : List ℕ) (font : PsfFont) (glyph fd : ℕ) : Type 0 where
  pub there : glyph < font.glyphs
  pub number : IsNumberIn bytes font glyph fd

-- a glyph has no part for C: there is no such glyph, or it has no Font DICT
abbrev pub HasNoPart : List ℕ → PsfFont → (glyph : ℕ) → Type 0
HasNoPart bytes font glyph = (font.glyphs ≤ glyph) ⊎ ((font.is_cid ≢ 0) × LacksDictionary bytes font glyph)

-- the INDEX at the offset for C has the local subroutines of a part; at offset 0 there are none
abbrev pub HasSameSubroutines : List ℕ → PrivateDict → PsfPart → Type 0
HasSameSubroutines bytes part told = index_at told.local_subroutines bytes 0 ≡ Got (items_of part.subroutines) 0

-- the widths for C are the widths in the Private DICT of a part, in 65536ths of a unit, rounded towards zero
pub record HasSameWidths (part : PrivateDict) (told : PsfPart) : Type 0 where
  pub default : IsWidth (first_of (look part.dictionary operators.DefaultWidthX)) told.default_width
  pub nominal : IsWidth (first_of (look part.dictionary operators.NominalWidthX)) told.nominal_width

-- A glyph has the first part in the FontView, and the second part for C.
abbrev pub AreBoth : (bytes : List ℕ) (font : PsfFont) (view : FontView) (glyph : ℕ) → PrivateDict → PsfPart → Type 0
AreBoth bytes font view glyph part told =
    (fd : ℕ) × HasPartNumber view glyph fd × (slice_get view.parts.items fd ≡ Some part) × IsPartIn bytes font glyph told

-- the FontView has no part for a glyph
abbrev pub IsNoneIn : FontView → (glyph : ℕ) → Type 0
IsNoneIn view glyph = (fd : ℕ) → HasPartNumber view glyph fd → ⊥

-- Why a glyph has no part for C, by status. There is no such glyph (31), the FontView has no part for it (42), or memory runs out (3).
abbrev pub IsToldNone : PsfFont → FontView → (glyph : ℕ) (status : ℤ) → Type 0
IsToldNone font view glyph status =
    ((status ≡ pos 31) × (font.glyphs ≤ glyph))
    ⊎ (((status ≡ pos 42) × (glyph < font.glyphs) × IsNoneIn view glyph)
    ⊎ (status ≡ pos 3))

-- the program of a charstring with the subroutines of a FontView and of a part of it
abbrev pub program_in : FontView → List ℕ → PrivateDict → Pending
program_in view code part = begun (run_of (lent (items_of view.global_subroutines) (items_of part.subroutines)) code)

-- The part of a glyph for C agrees with the part in the FontView. The number and the widths are the same, and so are the subroutines,
-- unless their offset is 0. If the glyph has no part in the FontView, it has none for C.
pub record TellsPart (bytes : List ℕ) (font : PsfFont) (view : FontView) (glyph : ℕ) : Type 0 where
  pub number : (fd : ℕ) → HasNumberIn bytes font glyph fd → HasPartNumber view glyph fd
  pub only : (told : PsfPart) → IsPartIn bytes font glyph told → glyph < font.glyphs → (fd : ℕ) × HasPartNumber view glyph fd
  pub widths : (part : PrivateDict) (told : PsfPart) → AreBoth bytes font view glyph part told → HasSameWidths part told
  pub subroutines : (part : PrivateDict) (told : PsfPart) → AreBoth bytes font view glyph part told → (NamesSubroutinesOf view part 0 → ⊥)
      → HasSameSubroutines bytes part told
  pub none : IsNoneIn view glyph → HasNoPart bytes font glyph

-- For C a glyph has the same number, part and program as in the FontView. It has no part exactly if it has none there. It has no program
-- exactly if there is no such glyph.
pub record SamePart (bytes : List ℕ) (font : PsfFont) (view : FontView) (glyph : ℕ) : Type 0 where
  pub number : (fd : ℕ) → HasNumberIn bytes font glyph fd ↔ HasPartNumber view glyph fd
  pub has : (fd : ℕ) → HasPartNumber view glyph fd → (told : PsfPart) × IsPartIn bytes font glyph told
  pub only : (told : PsfPart) → IsPartIn bytes font glyph told → glyph < font.glyphs → (fd : ℕ) × HasPartNumber view glyph fd
  pub widths : (part : PrivateDict) (told : PsfPart) → AreBoth bytes font view glyph part told → HasSameWidths part told
  pub subroutines : (part : PrivateDict) (told : PsfPart) → AreBoth bytes font view glyph part told → HasSameSubroutines bytes part told
  pub program : (code : List ℕ) (part : PrivateDict) (told : PsfPart) → HasGlyph view glyph code part → IsPartIn bytes font glyph told
      → program_at font told glyph bytes 0 ≡ Got (Some (program_in view code part)) 0
  pub none : HasNoPart bytes font glyph ↔ IsNoneIn view glyph
  pub status : (status : ℤ) → IsPartless bytes font glyph status → IsToldNone font view glyph status
  pub missing : (told : PsfPart) → HasNone bytes font told glyph ↔ (font.glyphs ≤ glyph)

-- The numbers are those of the font at the beginning of the bytes, except for the limit, which a caller may change.
abbrev pub AreNumbersOf : List ℕ → PsfFont → Type 0
AreNumbersOf bytes font = (limit : ℕ) × OpensFont bytes (Ok (record font { limit = limit }))

-- A law. Parts agree for each glyph of a font for C, if the same bytes begin with a FontView.
abbrev pub TellsParts : Type 0
TellsParts = (bytes : List ℕ) (font : PsfFont) (view : FontView) (glyph : ℕ) → AreNumbersOf bytes font → IsFirst bytes view
    → TellsPart bytes font view glyph

-- A law. If, in addition, the DICTs give nothing the offset 0, C and the FontView have the same parts.
abbrev pub KeepsParts : Type 0
KeepsParts = (bytes : List ℕ) (font : PsfFont) (view : FontView) (glyph : ℕ) → AreNumbersOf bytes font → IsFirst bytes view
    → NamesNoStart view → SamePart bytes font view glyph
