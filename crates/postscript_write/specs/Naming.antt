-- Names, CIDs and codes of the new glyphs (Technical Note 5176, sections 12 and 13).
use Rattle.std.specs.Prelude.{◌≡◌, ◌↔◌, ℕ, ◌<◌, List, Option, Some, None, length, slice_index_or}
use Rattle.postscript_compact1.specs.declared.encoding.Encoding.TheVariants.{Standard}
use Rattle.postscript_view.specs.Encoding.{Gives}
use Rattle.postscript_view.specs.Encodings.{IsEncodingOf}
use Rattle.postscript_view.specs.Naming.{Names}
use Rattle.postscript_view.specs.Contents.{View}
use Rattle.postscript_view.specs.declared.char_set.CharSetView.{CharSetView}
use Rattle.postscript_view.specs.declared.encoding.Codes.{Codes}
use Rattle.postscript_view.specs.declared.encoding.Codes.TheVariants.{Predefined, Listed, Ranges}
use Rattle.postscript_view.specs.declared.encoding.EncodingView.{EncodingView}
use Rattle.postscript_write.specs.Glyphs.{Sources}

-- A new glyph has the SIDs, or in a CID-keyed font the CIDs, of the glyph that it is made of. An empty glyph has those of the old glyph
-- with the same number.
abbrev pub SameName : CharSetView → Option ℕ → CharSetView → (i : ℕ) → Type 0
SameName old None new i = (identifier : ℕ) → Names old i identifier ↔ Names new i identifier
SameName old (Some glyph) new i = (identifier : ℕ) → Names old glyph identifier ↔ Names new i identifier

abbrev pub SameNames : CharSetView → Sources → CharSetView → Type 0
SameNames old sources new = (i : ℕ) → i < length sources → SameName old (slice_index_or sources i None) new i

-- encodings with the same content
abbrev pub SameCodes : Codes → Codes → Type 0
SameCodes (Predefined old) (Predefined new) = new ≡ old
SameCodes (Listed old) (Listed new) = new.now ≡ old.now
SameCodes (Ranges old) (Ranges new) = new.now ≡ old.now
SameCodes _ _ = ⊥

pub record SameEncoding (old new : EncodingView) : Type 0 where
  pub codes : SameCodes old.codes new.codes
  pub supplements : new.supplements.now ≡ old.supplements.now

-- if glyphs get new numbers, the standard encoding replaces a custom one, and a predefined one is unchanged
abbrev pub codes_for : Codes → Codes
codes_for (Predefined encoding) = Predefined encoding
codes_for (Listed codes) = Predefined Standard
codes_for (Ranges ranges) = Predefined Standard

pub record GivesWay (bytes : List ℕ) (old : View) (flat : List ℕ) (new : View) : Type 0 where
  pub old_encoding : EncodingView
  pub new_encoding : EncodingView
  pub was : IsEncodingOf old_encoding bytes old.tables.dictionary
  pub is : IsEncodingOf new_encoding flat new.tables.dictionary
  pub codes : new_encoding.codes ≡ codes_for old_encoding.codes

-- Each glyph has its old codes, even if it is empty now.
pub record KeepsCodes (sources : Sources) (bytes : List ℕ) (old : View) (flat : List ℕ) (new : View)
    (old_set new_set : CharSetView) : Type 0 where
  pub old_encoding : EncodingView
  pub new_encoding : EncodingView
  pub was : IsEncodingOf old_encoding bytes old.tables.dictionary
  pub is : IsEncodingOf new_encoding flat new.tables.dictionary
  pub codes : (code glyph : ℕ) → glyph < length sources →
      Gives old_encoding old_set code glyph ↔ Gives new_encoding new_set code glyph
