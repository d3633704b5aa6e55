-- If a font is opened as a FontView, its INDEXes are at the offsets for C.
use Rattle.std.specs.Prelude.{◌≡◌, ◌≢◌, ℕ, List, length, Some, Result, IfOk}
use Rattle.postscript_base.specs.declared.compact1.operator.Operator.TheVariants as operators
use Rattle.postscript_base.specs.Tape.Outcome.{Got, Answers}
use Rattle.postscript_base.specs.declared.error.Error.{Error}
use Rattle.postscript_c.specs.FontWidths.{TellsWidths}
use Rattle.postscript_c.specs.declared.font.PsfFont.{PsfFont}
use Rattle.postscript_c.specs.Places.{Places, placed, places}
use Rattle.postscript_base.specs.Index.{opened}
use Rattle.postscript_view.specs.Order.{view}
use Rattle.postscript_view.specs.Contents.{View}
use Rattle.postscript_view.specs.Select.{offset_of}

pub record AreOf (bytes : List ℕ) (v : View) (p : Places) : Type 0 where
  pub codes : (next : ℕ) × (opened bytes p.char_strings ≡ Got v.char_strings next)
  pub globals : (next : ℕ) × (opened bytes p.global_subroutines ≡ Got v.tables.subroutines next)
  pub glyphs : p.glyphs ≡ length v.char_strings

-- FDSelect of a CID-keyed font is at the offset in its Top DICT, unless the offset for C is 0.
abbrev pub NamesSelection : PsfFont → View → Type 0
NamesSelection font v = font.is_cid ≢ 0 → font.fd_select ≢ 0 → offset_of v.tables.dictionary operators.FDSelect ≡ Some font.fd_select

-- The result of opening a font: its offsets and its widths, with a limit of 20,000,000 units, or an error. If the font can be opened as a
-- FontView, they agree with it.
pub record OpensFont (bytes : List ℕ) (answer : Result PsfFont Error) : Type 0 where
  pub reads : Answers placed answer 0 (places bytes 0)
  pub widths : IfOk answer (λ font. TellsWidths bytes font)
  pub limit : IfOk answer (λ font. font.limit ≡ 20000000)
  pub same : IfOk answer (λ font. (v : View) (next : ℕ) → view bytes 0 ≡ Got v next → AreOf bytes v (placed font))
  pub selection : IfOk answer (λ font. (v : View) (next : ℕ) → view bytes 0 ≡ Got v next → NamesSelection font v)
