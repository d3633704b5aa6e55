-- What is written has room.
use Rattle.std.proofs.Common.{ap, ℕ, ◌+◌, ◌^◌, ◌<◌, ◌≤◌, List, [], ◌∷◌, length, length-append, Bool, arith, rules}
use Rattle.std.specs.Prelude.{All}
use Rattle.postscript_base.specs.Index.Lent.{items_of}
use Rattle.postscript_type2.specs.Program.Routines.{texts}
use Rattle.postscript_view.specs.declared.font.FontView.{FontView}
use Rattle.postscript_write.specs.ArrangedText.{AreTablesOf}
use Rattle.postscript_write.specs.DictionarySizes.{places_size}
use Rattle.postscript_write.specs.Index.{FitsIndex, index_text}
use Rattle.postscript_write.specs.Dictionaries.{IsHeld}
use Rattle.postscript_write.specs.Pieces.{Piece, named_places, pieces_of, pieces_text}
use Rattle.postscript_write.specs.Privates.{IsSomeDictionary}
use Rattle.postscript_write.specs.Renumbered.{all_renamed}
use Rattle.postscript_write.specs.Room.{HasFew, HasRoom, index_room}
use Rattle.postscript_write.specs.declared.dictionaries.Place.{Place}
use Rattle.postscript_write.specs.declared.layout.Glyphs.{Glyphs}
use Rattle.postscript_write.proofs.Few.{all_bytes}
use Rattle.postscript_write.proofs.OneCharSet.{set_length}
use Rattle.postscript_write.proofs.Pieces.{all_end, texts_in}
use Rattle.postscript_write.proofs.Room.{index_most, named_few, named_held, renamed_few, they_fit}
use Rattle.postscript_write.proofs.TablesStand.{tables_length}
use Rattle.postscript_write.proofs.Without.{sized_within}

pub index_within : (items : List (List ℕ)) → length (index_text items) ≤ index_room items
index_within items = omega (arith, index_most items, all_bytes items)

-- names, strings and codes
pub names_fit : (font : FontView) (glyphs : Glyphs) (codes : List (List ℕ)) → HasRoom font glyphs codes → FitsIndex (items_of font.names)
names_fit font glyphs codes room =
    let all = room.all in they_fit (items_of font.names) room.few_names (omega (arith, all, all_bytes (items_of font.names)))

pub strings_fit : (font : FontView) (glyphs : Glyphs) (codes : List (List ℕ)) → HasRoom font glyphs codes →
    FitsIndex (texts glyphs.strings.texts.items)
strings_fit font glyphs codes room =
    let all = room.all in they_fit (texts glyphs.strings.texts.items) room.few_strings
    (omega (arith, all, all_bytes (texts glyphs.strings.texts.items)))

pub codes_fit : (font : FontView) (glyphs : Glyphs) (codes : List (List ℕ)) → HasRoom font glyphs codes → FitsIndex codes
codes_fit font glyphs codes room = let all = room.all in they_fit codes room.few_codes (omega (arith, all, all_bytes codes))

-- at most so many bytes have the tables
abbrev pub tables_room : FontView → Glyphs → ℕ
tables_room font glyphs = index_room (items_of font.names) + index_room (texts glyphs.strings.texts.items) + (length font.bytes.now + 160)

-- these tables are not refused, but for memory
abbrev pub RefusesTables : FontView → Glyphs → (dictionary : List ℕ) → List Piece → (start : ℕ) → Type 0
RefusesTables font glyphs dictionary pieces start =
    IsSomeDictionary dictionary → start + length (pieces_text pieces) < 2 ^ 64 → All IsHeld (named_places glyphs.standard start pieces) →
    length dictionary + places_size (named_places glyphs.standard start pieces) < 2 ^ 31 → FitsIndex (items_of font.names) →
    FitsIndex (texts glyphs.strings.texts.items) → ⊥

module _ (font : FontView) (glyphs : Glyphs) (codes : List (List ℕ)) (char_strings : List ℕ) (single : Bool) (privates array dictionary : List ℕ)
    (start : ℕ) (room : HasRoom font glyphs codes) (few : HasFew font codes char_strings privates) (most : length array ≤ 21000000)
    (long : length dictionary ≤ length font.bytes.now + places_size (all_renamed glyphs.strings font.dictionary))
    (begins : start ≤ tables_room font glyphs) where
  abbrev pieces : List Piece
  pieces = pieces_of glyphs char_strings single privates array

  abbrev named : List Place
  named = named_places glyphs.standard start pieces

  -- the pieces end before 2^31
  pub end_within : start + length (pieces_text pieces) < 2 ^ 31
  end_within =
      let all = room.all in
      let some = few.privates in
      let strings = few.char_strings in
      omega (arith, all_end (texts_in pieces) start, set_length glyphs.char_set, all, strings, some, most, begins)

  dictionary_within : length dictionary + places_size named ≤ length font.bytes.now + 143
  dictionary_within = omega (arith, long, renamed_few glyphs.strings font.dictionary, named_few glyphs.standard pieces start)

  -- so have the tables
  pub tables_end : (out : List ℕ) → AreTablesOf font dictionary glyphs pieces start out → length out ≤ tables_room font glyphs
  unfolding index_text
  tables_end out are =
      let names : List (List ℕ) = items_of font.names in
      let strings : List (List ℕ) = texts glyphs.strings.texts.items in
      let placed : List ℕ = are.placed in
      omega (
        arith,
        ap length are.text,
        sized_within dictionary named (length placed) (are.sized (omega (arith, end_within))),
        dictionary_within,
        index_within names,
        index_within strings,
        index_most (placed ∷ []),
        length-append placed [],
        tables_length names strings placed,
      )

  -- they are not refused, but for memory
  pub tables_written : IsSomeDictionary dictionary → RefusesTables font glyphs dictionary pieces start → ⊥
  tables_written some refuses =
      let all = room.all in
      refuses some (omega (arith, end_within))
      (named_held glyphs.standard pieces start
      (search rules, (search rules, (search rules, (search rules, (search rules, (search rules, (search rules, tt))))))) end_within)
      (omega (arith, dictionary_within, all)) (names_fit font glyphs codes room) (strings_fit font glyphs codes room)
