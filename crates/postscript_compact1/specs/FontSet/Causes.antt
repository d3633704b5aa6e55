-- Why a font is rejected: this step fails with the error, and each step before it succeeds as the layout says.
use Rattle.std.specs.Prelude.{◌≡◌, ◌↔◌, ◌⊎◌, ℕ, ◌+◌, ◌≤◌, List}
use Rattle.postscript_base.specs.Error.{code}
use Rattle.postscript_base.specs.Refusal.{out_of_range_offset}
use Rattle.postscript_base.specs.RefusalOf.{refusal_of}
use Rattle.postscript_base.specs.Tape.Outcome.{RefusedAs}
use Rattle.postscript_base.specs.Compact1.Dictionary.{Dictionary}
use Rattle.postscript_base.specs.Compact1.Header.{header}
use Rattle.postscript_base.specs.declared.compact1.header.Header.{Header}
use Rattle.postscript_base.specs.declared.error.Error.{Error}
use Rattle.postscript_compact1.specs.Index.{Index, index}
use Rattle.postscript_compact1.specs.IndexAt.{IsIndex}
use Rattle.postscript_compact1.specs.ItemsLaw.{AreDictionaries, HasRefused}
use Rattle.postscript_compact1.specs.declared.font_set.manner.Manner.{Manner}
use Rattle.postscript_compact1.specs.declared.font_set.manner.Manner.TheVariants.{Strict, Lenient}
use Rattle.postscript_compact1.specs.FontSet.Font.{Tables, Font}
use Rattle.postscript_compact1.specs.Computed.Order.{font, lenient_font}
use Rattle.postscript_compact1.specs.FontSet.Layout.{AreTables, IsFont, IsLenientFont}
use Rattle.postscript_compact1.specs.FontSet.Parts.{IsPlace, Stands}
use Rattle.postscript_compact1.specs.FontSet.PartCauses.{RefusedAt, NoParts}

pub data NoTables (e : Error) (bytes : List ℕ) (place : ℕ) : Type 0 where
  OfNames : RefusedAt e index bytes place → NoTables e bytes place
  OfItems : (names : Index) (behind : ℕ) → IsIndex bytes place names behind → RefusedAs e (index bytes behind) → NoTables e bytes place
  OfDictionaries : (names items : Index) (behind next : ℕ) → IsIndex bytes place names behind → IsIndex bytes behind items next →
      HasRefused items.items (refusal_of e) → NoTables e bytes place
  OfStringList : (names items : Index) (maps : List Dictionary) (behind next : ℕ) → IsIndex bytes place names behind →
      IsIndex bytes behind items next → AreDictionaries items.items maps → RefusedAs e (index bytes next) → NoTables e bytes place
  OfGlobalList : (names items strings : Index) (maps : List Dictionary) (behind next at : ℕ) → IsIndex bytes place names behind →
      IsIndex bytes behind items next → AreDictionaries items.items maps → IsIndex bytes next strings at → RefusedAs e (index bytes at) →
      NoTables e bytes place

pub data NoFontBy (manner : Manner) (e : Error) (bytes : List ℕ) (start : ℕ) : Type 0 where
  OfHeader : RefusedAs e (header bytes start) → NoFontBy manner e bytes start
  HeaderSize : (h : Header) (at : ℕ) → Stands header bytes start h at → refusal_of e ≡ out_of_range_offset →
      (IsPlace (start + h.header_size) → ⊥) → NoFontBy manner e bytes start
  OfTables : (h : Header) (at : ℕ) → Stands header bytes start h at → IsPlace (start + h.header_size) →
      NoTables e bytes (start + h.header_size) → NoFontBy manner e bytes start
  OfParts : (h : Header) (at : ℕ) (tables : Tables) (behind : ℕ) → Stands header bytes start h at → IsPlace (start + h.header_size) →
      AreTables bytes (start + h.header_size) tables behind → NoParts manner e bytes start tables.dictionaries →
      NoFontBy manner e bytes start

abbrev pub NoFont : Error → List ℕ → ℕ → Type 0
NoFont e bytes start = NoFontBy Strict e bytes start

abbrev pub NoLenientFont : Error → List ℕ → ℕ → Type 0
NoLenientFont e bytes start = NoFontBy Lenient e bytes start

-- A law: a reading fails with an error exactly if this is the cause of the first step that fails, and so does a lenient reading. Two causes
-- at one offset give the same `Refusal`, or both errors have the number 1 or 2, for an offset past the end. If there is a cause, there is
-- no font.
pub record RefusesLayout : Type 0 where
  pub both_ways : (e : Error) (bytes : List ℕ) (start : ℕ) → RefusedAs e (font bytes start) ↔ NoFont e bytes start
  pub leniently : (e : Error) (bytes : List ℕ) (start : ℕ) → RefusedAs e (lenient_font bytes start) ↔ NoLenientFont e bytes start
  pub alone : (manner : Manner) (e g : Error) (bytes : List ℕ) (start : ℕ) → NoFontBy manner e bytes start →
      NoFontBy manner g bytes start → (refusal_of e ≡ refusal_of g) ⊎ ((code e ≤ 2) × (code g ≤ 2))
  pub no_font : (e : Error) (bytes : List ℕ) (start : ℕ) (f : Font) (next : ℕ) → NoFont e bytes start → IsFont bytes start f next → ⊥
  pub no_lenient_font : (e : Error) (bytes : List ℕ) (start : ℕ) (f : Font) → NoLenientFont e bytes start → IsLenientFont bytes start f → ⊥
