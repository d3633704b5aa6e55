-- The part of a glyph. It is the part of the font, or in a CID-keyed font the part by the glyph's Font DICT.
use Rattle.std.specs.Prelude.{◌≡◌, ◌≢◌, ◌⊎◌, ℕ, ◌<◌, ◌≤◌, ℤ, pos, List}
use Rattle.postscript_base.specs.Error.{code}
use Rattle.postscript_base.specs.declared.error.Error.{Error}
use Rattle.postscript_base.specs.declared.error.Error.TheVariants.{Memory}
use Rattle.postscript_c.specs.CidParts.{HasCidPart, LacksDictionary, NoPart}
use Rattle.postscript_c.specs.declared.font.PsfFont.{PsfFont}
use Rattle.postscript_c.specs.declared.part.PsfPart.{PsfPart}

abbrev pub IsPartIn : (bytes : List ℕ) (font : PsfFont) (glyph : ℕ) (part : PsfPart) → Type 0
IsPartIn bytes font glyph part = (font.is_cid ≡ 0 → part ≡ font.part) × (font.is_cid ≢ 0 → HasCidPart bytes font glyph part)

-- The status of a glyph without a part. It is 31 if there is no such glyph, 42 if the glyph has no Font DICT, or otherwise the status of
-- the error.
pub data TellsNoPart (bytes : List ℕ) (font : PsfFont) (glyph : ℕ) (status : ℤ) : Type 0 where
  no_glyph : status ≡ pos 31 → font.glyphs ≤ glyph → LacksDictionary bytes font glyph → TellsNoPart bytes font glyph status
  no_dictionary : status ≡ pos 42 → glyph < font.glyphs → LacksDictionary bytes font glyph → TellsNoPart bytes font glyph status
  refused : (e : Error) → status ≡ pos (code e) → (e ≢ Memory → NoPart e bytes font glyph) → TellsNoPart bytes font glyph status

-- Only a glyph of a CID-keyed font may have no part.
abbrev pub IsPartless : (bytes : List ℕ) (font : PsfFont) (glyph : ℕ) (status : ℤ) → Type 0
IsPartless bytes font glyph status = (font.is_cid ≢ 0) × TellsNoPart bytes font glyph status

-- The result for a glyph by its part. If the glyph has none, the status says why, and all outputs are unchanged.
abbrev pub TellsByPart : (bytes : List ℕ) (font : PsfFont) (glyph : ℕ) (status : ℤ) → (PsfPart → Type 0) → (same : Type 0) → Type 0
TellsByPart bytes font glyph status tells same = ((part : PsfPart) × IsPartIn bytes font glyph part × tells part)
    ⊎ (IsPartless bytes font glyph status × same)
