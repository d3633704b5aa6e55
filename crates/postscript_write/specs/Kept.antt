-- The glyphs of `kept_glyphs` are the glyphs of a subset.
use Rattle.std.specs.Prelude.{List, ℕ, Bool, true, false, Some, map}
use Rattle.postscript_view.specs.declared.font.FontView.{FontView}
use Rattle.postscript_write.specs.Components.{AreKept, IsOpened, IsSubset}
use Rattle.postscript_write.specs.Drawings.{DrawsTheSame, IsSourceAt, KeepsDrawings, Likeness}
use Rattle.postscript_write.specs.Making.{IsCutFont}
use Rattle.postscript_write.specs.SameGlyphs.{IsSameGlyph, KeepsGlyphs}
use Rattle.postscript_write.specs.Sources.{IsWritten, chosen}

-- a subset is made of the listed glyphs, in this order
abbrev pub KeptAreWritten : Type 0
KeptAreWritten = (named bytes flat kept : List ℕ) → AreKept named bytes kept → IsSubset IsCutFont chosen named bytes flat →
    IsWritten IsCutFont (λ glyphs. map Some kept) bytes flat

-- Glyph i of the new font is made of the glyph at index i in the list: it is drawn as that glyph, and has its charstring without calls, its
-- advance, and its name or CID.
pub record HasKept (bytes flat kept : List ℕ) : Type 0 where
  pub written : IsWritten IsCutFont (λ glyphs. map Some kept) bytes flat
  pub drawn : KeepsDrawings (λ glyphs. map Some kept) bytes flat
  pub same : KeepsGlyphs (λ glyphs. map Some kept) bytes flat

-- this holds for each list of the kept glyphs
abbrev pub HasAllKept : (named bytes flat : List ℕ) → Type 0
HasAllKept named bytes flat = (kept : List ℕ) → AreKept named bytes kept → HasKept bytes flat kept

-- Each glyph in the list has its number in the new font, and is related to the old glyph, however the two fonts are opened.
abbrev pub AreInPlace : Likeness → (bytes flat kept : List ℕ) → Type 0
AreInPlace IsLike bytes flat kept = (old new : FontView) (i glyph : ℕ) → IsOpened bytes old → IsOpened flat new →
    IsSourceAt (map Some kept) i glyph → IsLike old new glyph glyph

pub record HasKeptInPlace (bytes flat kept : List ℕ) : Type 0 where
  pub drawn : AreInPlace DrawsTheSame bytes flat kept
  pub same : AreInPlace IsSameGlyph bytes flat kept

abbrev pub HasAllInPlace : (named bytes flat : List ℕ) → Type 0
HasAllInPlace named bytes flat = (kept : List ℕ) → AreKept named bytes kept → HasKeptInPlace bytes flat kept

-- the same for glyphs with new numbers, or with their old ones
abbrev pub HasAllBy : (retain_gids : Bool) → (named bytes flat : List ℕ) → Type 0
HasAllBy true named bytes flat = HasAllInPlace named bytes flat
HasAllBy false named bytes flat = HasAllKept named bytes flat
