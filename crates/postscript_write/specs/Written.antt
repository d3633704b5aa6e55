-- A written font (Technical Note 5176, "CFF Data Layout").
use Rattle.std.specs.Prelude.{All, ◌≡◌, ℕ, ◌<◌, ◌^◌, Option, List, [], ◌∷◌, IsSome, ◌++◌, length}
use Rattle.postscript_base.specs.Compact1.Dictionary.{Dictionary}
use Rattle.postscript_base.specs.Compact1.DictionaryLaw.{IsDictionary}
use Rattle.postscript_base.specs.Index.{number_at}
use Rattle.postscript_base.specs.Index.Lent.{items_of}
use Rattle.postscript_base.specs.declared.compact1.operator.Operator.TheVariants.{Private}
use Rattle.postscript_type2.specs.Program.Routines.{texts}
use Rattle.postscript_view.specs.Layout.{AreParts, AreTables}
use Rattle.postscript_view.specs.Value.{parts_shown, view_shown}
use Rattle.postscript_view.specs.declared.font.FontView.{FontView}
use Rattle.postscript_write.specs.ArrangedText.{NamePrivates, pieces_for, tables_text}
use Rattle.postscript_write.specs.Dictionaries.{IsHeld, IsWithPlaces}
use Rattle.postscript_write.specs.Index.{FitsIndex, index_text}
use Rattle.postscript_write.specs.Once.{KeepsOrder, TellsRosFirst}
use Rattle.postscript_write.specs.Pieces.{named_places, pieces_text, place_in}
use Rattle.postscript_write.specs.Privates.{AreOwnPrivates, NoneIsNamed}
use Rattle.postscript_write.specs.Renumbered.{IsRenamed, all_renamed}
use Rattle.postscript_write.specs.declared.layout.Glyphs.{Glyphs}
use Rattle.postscript_write.specs.declared.layout.Private.{Private as OwnPrivate}

-- Tables, and pieces after them, with these charstrings and Private DICTs. Their Top DICT is another one with the offsets of the pieces.
pub record IsPut (font : FontView) (glyphs : Glyphs) (char_strings : List ℕ) (privates : List (Option OwnPrivate)) (dictionary out : List ℕ) :
    Type 0 where
  pub dictionaries : List (List ℕ)
  pub placed : List ℕ
  pub start : ℕ
  pub begins : length (tables_text (items_of font.names) placed (texts glyphs.strings.texts.items)) ≡ start
  pub text : out ≡ tables_text (items_of font.names) placed (texts glyphs.strings.texts.items)
      ++ pieces_text (pieces_for glyphs char_strings privates dictionaries)
  pub small : length out < 2 ^ 64
  pub names_fit : FitsIndex (items_of font.names)
  pub dictionary_fits : FitsIndex (placed ∷ [])
  pub strings_fit : FitsIndex (texts glyphs.strings.texts.items)
  pub dictionaries_fit : IsSome glyphs.select → FitsIndex dictionaries
  pub places : IsWithPlaces dictionary (named_places glyphs.standard start (pieces_for glyphs char_strings privates dictionaries)) placed
  pub order : KeepsOrder dictionary (named_places glyphs.standard start (pieces_for glyphs char_strings privates dictionaries)) placed
  pub held : All IsHeld (named_places glyphs.standard start (pieces_for glyphs char_strings privates dictionaries))
  pub private_places : NamePrivates font.bytes.now font.dictionary glyphs.select privates
      (place_in start (pieces_for glyphs char_strings privates dictionaries) Private) dictionaries

-- A written font with these charstrings. Its Top DICT is the old one with new SIDs and offsets.
pub record IsPutTogether (font : FontView) (glyphs : Glyphs) (codes : List (List ℕ)) (out : List ℕ) : Type 0 where
  pub privates : List (Option OwnPrivate)
  pub dictionary : List ℕ
  pub put : IsPut font glyphs (index_text codes) privates dictionary out
  pub ros_first : TellsRosFirst dictionary
  pub char_strings_fit : FitsIndex codes
  pub are_own : AreParts font.bytes.now font.dictionary (parts_shown font.parts.items) →
      AreOwnPrivates (parts_shown font.parts.items) privates
  pub none_named : NoneIsNamed font.dictionary (parts_shown font.parts.items) privates
  pub renamed : AreTables font.bytes.now (number_at font.bytes.now 2 1) 0 (view_shown font).tables →
      (new : Dictionary) × IsDictionary dictionary 0 new × IsRenamed font.dictionary (all_renamed glyphs.strings font.dictionary) new
