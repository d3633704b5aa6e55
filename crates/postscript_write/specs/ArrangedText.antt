-- The bytes of the tables and the pieces of a new font (Technical Note 5176, "CFF Data Layout").
use Rattle.std.specs.Prelude.{All, ◌≡◌, ℕ, ◌+◌, ◌<◌, ◌^◌, List, [], ◌∷◌, ◌++◌, length, Option, Some, None, Bool, true, false, IsSome, Vec}
use Rattle.std.specs.declared.alloc.Global.{Global}
use Rattle.postscript_base.specs.declared.compact1.operator.Operator.TheVariants.{FDArray}
use Rattle.postscript_base.specs.Compact1.Dictionary.{Dictionary}
use Rattle.postscript_base.specs.Index.Lent.{items_of}
use Rattle.postscript_type2.specs.Program.Routines.{texts}
use Rattle.postscript_view.specs.Layout.{NamesIndex}
use Rattle.postscript_view.specs.declared.font.FontView.{FontView}
use Rattle.postscript_write.specs.Dictionaries.{IsHeld, IsWithPlaces}
use Rattle.postscript_write.specs.DictionarySizes.{HasSize}
use Rattle.postscript_write.specs.Index.{FitsIndex, index_text}
use Rattle.postscript_write.specs.Once.{KeepsOrder}
use Rattle.postscript_write.specs.Pieces.{Piece, named_places, pieces_of, pieces_text}
use Rattle.postscript_write.specs.Privates.{AreFontDictionaries, AreSized, privates_text}
use Rattle.postscript_write.specs.declared.dictionaries.Place.{Place}
use Rattle.postscript_write.specs.declared.layout.Glyphs.{Glyphs}
use Rattle.postscript_write.specs.declared.layout.Private.{Private}

-- a font with an FDSelect has an INDEX of Font DICTs
abbrev pub dictionaries_text : (select : Option (Vec ℕ Global)) → (dictionaries : List (List ℕ)) → List ℕ
dictionaries_text (Some select) dictionaries = index_text dictionaries
dictionaries_text None dictionaries = []

-- The Font DICTs of a font with an FDSelect: the old ones, but with these Private DICTs, the first of which is at an offset.
abbrev pub NamePrivates : (bytes : List ℕ) → Dictionary → (select : Option (Vec ℕ Global)) → List (Option Private) → (place : ℕ) →
    (dictionaries : List (List ℕ)) → Type 0
NamePrivates bytes map select privates place dictionaries =
    IsSome select → (items : List (List ℕ)) → NamesIndex bytes map FDArray items → AreFontDictionaries items privates place dictionaries

-- they have the sizes of the old Font DICTs with these Private DICTs
abbrev pub AreSizedFor : (bytes : List ℕ) → Dictionary → List (Option Private) → (dictionaries : List (List ℕ)) → Type 0
AreSizedFor bytes map privates dictionaries =
    (items : List (List ℕ)) × NamesIndex bytes map FDArray items × AreSized items privates dictionaries

-- the Top DICT of a font without FDSelect has the offset of its only Private DICT
abbrev pub is_single : (select : Option (Vec ℕ Global)) → List (Option Private) → Bool
is_single None (Some private ∷ []) = true
is_single _ _ = false

-- the pieces of a font with these glyphs
abbrev pub pieces_for : Glyphs → (char_strings : List ℕ) → List (Option Private) → (dictionaries : List (List ℕ)) → List Piece
pieces_for glyphs char_strings privates dictionaries =
    pieces_of glyphs char_strings (is_single glyphs.select privates) (privates_text privates)
    (dictionaries_text glyphs.select dictionaries)

-- The tables: the header, of version 1.0, with four-byte offsets; names, the Top DICT, strings, and no subroutines.
abbrev pub tables_text : (names : List (List ℕ)) (dictionary : List ℕ) (strings : List (List ℕ)) → List ℕ
tables_text names dictionary strings =
    (1 ∷ 0 ∷ 4 ∷ 4 ∷ [])
    ++ (index_text names
    ++ (index_text (dictionary ∷ [])
    ++ (index_text strings
    ++ index_text [])))

-- The text of a DICT with new offsets, which fits into an INDEX.
pub record IsPlacedText (text : List ℕ) (places : List Place) (out : List ℕ) : Type 0 where
  pub placed : IsWithPlaces text places out
  pub sized : HasSize text places (length out)
  pub order : KeepsOrder text places out
  pub fits : FitsIndex (out ∷ [])

-- The tables of a font whose pieces begin at an offset. If the pieces end before 2^64, the Top DICT has their offsets. All INDEXes fit.
pub record AreTablesOf (font : FontView) (dictionary : List ℕ) (glyphs : Glyphs) (pieces : List Piece) (start : ℕ) (out : List ℕ) :
    Type 0 where
  pub placed : List ℕ
  pub text : out ≡ tables_text (items_of font.names) placed (texts glyphs.strings.texts.items)
  pub places : start + length (pieces_text pieces) < 2 ^ 64 → IsWithPlaces dictionary (named_places glyphs.standard start pieces) placed
  pub sized : start + length (pieces_text pieces) < 2 ^ 64 →
      HasSize dictionary (named_places glyphs.standard start pieces) (length placed)
  pub order : start + length (pieces_text pieces) < 2 ^ 64 →
      KeepsOrder dictionary (named_places glyphs.standard start pieces) placed
  pub held : start + length (pieces_text pieces) < 2 ^ 64 → All IsHeld (named_places glyphs.standard start pieces)
  pub names_fit : FitsIndex (items_of font.names)
  pub dictionary_fits : FitsIndex (placed ∷ [])
  pub strings_fit : FitsIndex (texts glyphs.strings.texts.items)
