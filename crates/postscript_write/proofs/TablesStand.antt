-- The tables that are written, and other indices, stand where they begin.
use Rattle.std.proofs.Common.{◌≡◌, refl, sym, subst, inl, inr, ℕ, ◌+◌, ◌<◌, ◌^◌, List, [], ◌∷◌, ◌++◌, length, map, Option, Some, None, Vec, arith, ap, ◌∙◌}
use Rattle.std.specs.List.{Contains, concat}
use Rattle.std.specs.Prelude.{IsSome}
use Rattle.std.specs.declared.alloc.Global.{Global}
use Rattle.postscript_base.specs.Compact1.Dictionary.{Dictionary}
use Rattle.postscript_base.specs.Compact1.DictionaryLaw.{IsDictionary}
use Rattle.postscript_base.specs.Index.{IsIndex, IsOpened}
use Rattle.postscript_base.specs.Index.Lent.{items_of}
use Rattle.postscript_type2.specs.Program.Routines.{texts}
use Rattle.postscript_view.specs.Layout.{AreTables, IsIndexAt}
use Rattle.postscript_view.specs.declared.font.FontView.{FontView}
use Rattle.postscript_write.specs.ArrangedText.{dictionaries_text, tables_text}
use Rattle.postscript_write.specs.Fonts.{HasHeader}
use Rattle.postscript_write.specs.Index.{FitsIndex, index_text}
use Rattle.postscript_write.specs.Texts.{TextStands}
use Rattle.postscript_write.specs.Dictionaries.{IsPlaced}
use Rattle.postscript_base.specs.declared.compact1.operator.Operator.TheVariants.{ROS}
use Rattle.postscript_write.specs.Once.{AreDistinct, IsToldOnce, TellsRosFirst}
use Rattle.postscript_write.specs.Renumbered.{IsRenamed, all_renamed}
use Rattle.postscript_write.specs.declared.dictionaries.Place.{Place}
use Rattle.postscript_write.specs.declared.layout.Glyphs.{Glyphs}
use Rattle.postscript_write.proofs.IndexStands.{writes_indices}
use Rattle.postscript_write.proofs.Pieces.{AllStand, all_end, all_stand, behind_all}
use Rattle.postscript_write.proofs.Rests.{none_fit}

pub is_opened : (bytes : List ℕ) (place : ℕ) (items : List (List ℕ)) (next : ℕ) → IsIndex bytes place items next →
    IsOpened bytes place items next
is_opened bytes place items next (inl empty) = inl empty
is_opened bytes place items next (inr filled) = inr (record { laid = filled.laid; slices = filled.slices })

opened_there : (items : List (List ℕ)) (bytes : List ℕ) (place : ℕ) → FitsIndex items → TextStands (index_text items) bytes place →
    IsOpened bytes place items (place + length (index_text items))
opened_there items bytes place fits stands =
    is_opened bytes place items (place + length (index_text items)) (writes_indices items bytes place fits stands)

pub index_there : (items : List (List ℕ)) (bytes : List ℕ) (place : ℕ) → length bytes < 2 ^ 64 → FitsIndex items →
    TextStands (index_text items) bytes place → IsIndexAt bytes place items
index_there items bytes place small fits stands =
    let within = stands.within in
    (place + length (index_text items), omega (arith, within, small), opened_there items bytes place fits stands)

pub dictionaries_there : (select : Option (Vec ℕ Global)) (dictionaries : List (List ℕ)) (bytes : List ℕ) (place : ℕ) →
    length bytes < 2 ^ 64 → (IsSome select → FitsIndex dictionaries) → TextStands (dictionaries_text select dictionaries) bytes place →
    IsSome select →
    IsIndexAt bytes place dictionaries
dictionaries_there (Some s) dictionaries bytes place small fits stands some = index_there dictionaries bytes place small (fits some) stands
dictionaries_there None dictionaries bytes place small fits stands some = absurd (cc)

pub header_is : (out behind : List ℕ) (names strings : List (List ℕ)) (placed : List ℕ) →
    out ≡ tables_text names placed strings ++ behind → HasHeader out
header_is out behind names strings placed is = subst HasHeader (sym is) refl

-- the tables, one by one
abbrev pub tables : (names : List (List ℕ)) (dictionary : List ℕ) (strings : List (List ℕ)) → List (List ℕ)
tables names dictionary strings =
    (1 ∷ 0 ∷ 4 ∷ 4 ∷ []) ∷ index_text names ∷ index_text (dictionary ∷ []) ∷ index_text strings ∷ index_text [] ∷ []

are_text : (names strings : List (List ℕ)) (dictionary : List ℕ) →
    concat (tables names dictionary strings) ≡ tables_text names dictionary strings
unfolding index_text
are_text names strings dictionary = refl

pub tables_length : (names strings : List (List ℕ)) (dictionary : List ℕ) →
    behind_all 0 (tables names dictionary strings) ≡ length (tables_text names dictionary strings)
tables_length names strings dictionary =
    omega (arith, all_end (tables names dictionary strings) 0, ap length (are_text names strings dictionary))

pub tables_there : (out behind : List ℕ) (names strings : List (List ℕ)) (placed : List ℕ) → out ≡ tables_text names placed strings ++ behind →
    AllStand (tables names placed strings) out 0
tables_there out behind names strings placed is =
    all_stand (tables names placed strings) out 0
    (record { within = omega arith; behind = behind; there = is ∙ ap (λ xs. xs ++ behind) (sym (are_text names strings placed)) })

pub tables_are : (out behind : List ℕ) (names strings : List (List ℕ)) (placed : List ℕ) (new : Dictionary) →
    out ≡ tables_text names placed strings ++ behind → FitsIndex names → FitsIndex (placed ∷ []) → FitsIndex strings → IsDictionary placed 0 new →
    (are : AreTables out 4 0 (record { names = names; dictionary = new; strings = strings; subroutines = [] })) × (are.item ≡ placed)
tables_are out behind names strings placed new is names_fit placed_fits strings_fit dictionary =
    let stand = tables_there out behind names strings placed is in (
      record {
        dictionaries = placed ∷ [];
        item = placed;
        names_next = _;
        dictionaries_next = _;
        strings_next = _;
        next = _;
        are_names = opened_there names out 4 names_fit stand.1.0;
        are_dictionaries = opened_there (placed ∷ []) out _ placed_fits stand.1.1.0;
        are_strings = opened_there strings out _ strings_fit stand.1.1.1.0;
        are_subroutines = opened_there [] out _ (none_fit [] refl) stand.1.1.1.1.0;
        there = refl;
        is_dictionary = dictionary;
      },
      refl,
    )

-- The tables stand behind the header, with the strings of glyphs and no subroutines. Their dictionary is that of the font, but with the new
-- identifiers of strings, and with places.
pub record TablesStand (font : FontView) (glyphs : Glyphs) (places : List Place) (out : List ℕ) : Type 0 where
  pub header : HasHeader out
  pub named : Dictionary
  pub new : Dictionary
  pub renamed : IsRenamed font.dictionary (all_renamed glyphs.strings font.dictionary) named
  pub placed : IsPlaced named places new
  pub are : AreTables out 4 0 (record {
    names = items_of font.names;
    dictionary = new;
    strings = texts glyphs.strings.texts.items;
    subroutines = [];
  })
  pub once : AreDistinct (map (λ place. place.operator) places) → IsToldOnce are.item
  pub ros : (Contains (map (λ place. place.operator) places) ROS → ⊥) → TellsRosFirst are.item
