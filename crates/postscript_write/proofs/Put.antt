-- What is put together: its pieces stand, and its dictionary names them.
use Rattle.std.proofs.Common.{◌≡◌, refl, take, sym, ap, subst, ◌∙◌, ℕ, ◌+◌, ◌<◌, ◌≤◌, List, [], ◌∷◌, ◌++◌, length, length-append, map, get_or, pos, Vec, Option, Some, None, Bool, true, false, arith, if◌then◌else◌}
use Rattle.std.specs.Ordering.{eq_by_cmp}
use Rattle.std.specs.Option.{is_some, option_or}
use Rattle.std.specs.Prelude.{All, IsSome}
use Rattle.std.specs.declared.alloc.Global.{Global}
use Rattle.std.proofs.lemmas.List.{append-nil, map-append}
use Rattle.postscript_base.specs.Compact1.Decimal.{Decimal}
use Rattle.postscript_base.specs.Compact1.DictionaryLaw.{last_of}
use Rattle.postscript_base.specs.Compact1.Operators.{operator_cmp}
use Rattle.postscript_base.specs.Compact1.Number.{whole}
use Rattle.postscript_base.specs.Index.{number_at}
use Rattle.postscript_base.specs.Index.Lent.{items_of}
use Rattle.postscript_base.specs.declared.compact1.operator.Operator.{Operator}
use Rattle.postscript_base.specs.declared.compact1.operator.Operator.TheVariants.{CharSet, CharStrings, Encoding, FDArray, FDSelect, Private}
use Rattle.postscript_type2.specs.Program.Routines.{texts}
use Rattle.postscript_view.specs.Layout.{AreTables, IsIndexAt}
use Rattle.postscript_view.specs.Value.{view_shown}
use Rattle.postscript_view.specs.declared.font.FontView.{FontView}
use Rattle.postscript_write.specs.ArrangedText.{dictionaries_text, is_single, pieces_for, tables_text}
use Rattle.postscript_write.specs.Dictionaries.{IsHeld, operation_of}
use Rattle.postscript_write.specs.Index.{index_text}
use Rattle.postscript_write.specs.Once.{IsToldOnce, TellsRosFirst}
use Rattle.postscript_write.specs.Parts.{naming}
use Rattle.postscript_write.specs.Pieces.{Piece, named_places, piece_if, pieces_text, place_at, place_in, place_of, places, ranges_set, standard_place, text_of}
use Rattle.postscript_write.specs.Privates.{private_offset, private_text, privates_text}
use Rattle.postscript_write.specs.Texts.{TextStands}
use Rattle.postscript_write.specs.Written.{IsPutTogether}
use Rattle.postscript_write.specs.declared.dictionaries.Place.{Place}
use Rattle.postscript_write.specs.declared.layout.Glyphs.{Glyphs}
use Rattle.postscript_write.specs.declared.layout.Private.{Private as OwnPrivate}
use Rattle.postscript_write.proofs.Arranged.{private_there}
use Rattle.postscript_write.proofs.NamedAgain.{AreApart}
use Rattle.postscript_write.proofs.Operators.{each_is, parted}
use Rattle.postscript_write.proofs.OneCharSet.{of_both, one_named, set_at}
use Rattle.postscript_write.proofs.Pieces.{AllHeld, AllStand, AreTold, all_held, all_right, all_stand, all_told, behind_all, is_other, none_named, one_other, places_more, texts_in}
use Rattle.postscript_write.proofs.PlacesNamed.{before, behind, last_append, named_by}
use Rattle.postscript_write.proofs.Standing.{stands_amid}
use Rattle.postscript_write.proofs.TablesStand.{TablesStand, dictionaries_there, header_is, index_there, tables_are}

standard_other : (operator : Operator) (standard : Bool) → eq_by_cmp operator_cmp operator Encoding ≡ false →
    named_by (standard_place standard) operator ≡ None
standard_other operator true different = ap (λ b. if b then Some (operation_of (place_at Encoding 0)).1 else None) different
standard_other operator false different = refl

in_front : (front xs : List Place) (operator : Operator) →
    named_by (front ++ xs) operator ≡ option_or (named_by xs operator) (named_by front operator)
in_front front xs operator =
    ap (λ os. last_of os operator) (map-append operation_of front xs) ∙ last_append (map operation_of front) (map operation_of xs) operator

-- the piece of private dictionaries, and that of font dictionaries
abbrev pub private_piece : (select : Option (Vec ℕ Global)) → List (Option OwnPrivate) → Piece
private_piece select privates =
    record { operator = Private; named = is_single select privates; counted = true; text = privates_text privates }

abbrev pub array_piece : (select : Option (Vec ℕ Global)) → (dictionaries : List (List ℕ)) → Piece
array_piece select dictionaries =
    record { operator = FDArray; named = is_some select; counted = false; text = dictionaries_text select dictionaries }

module _ {font : FontView} {glyphs : Glyphs} {codes : List (List ℕ)} {out : List ℕ} (w : IsPutTogether font glyphs codes out) where
  abbrev pub pieces : List Piece
  pieces = pieces_for glyphs (index_text codes) w.privates w.put.dictionaries

  -- where the piece of an operator stands
  abbrev pub place : Operator → ℕ
  place operator = place_in w.put.start pieces operator

  abbrev pub named : List Place
  named = named_places glyphs.standard w.put.start pieces

  abbrev tables : List ℕ
  tables = tables_text (items_of font.names) w.put.placed (texts glyphs.strings.texts.items)

  behind_tables : TextStands (pieces_text pieces) out w.put.start
  behind_tables = subst (λ n. TextStands (pieces_text pieces) out n) w.put.begins (subst (λ bs. TextStands (pieces_text pieces) bs (length tables))
      (ap (λ xs. tables ++ xs) (append-nil (pieces_text pieces)) ∙ sym w.put.text) (stands_amid tables (pieces_text pieces) []))

  pub stand : AllStand (texts_in pieces) out w.put.start
  stand = all_stand (texts_in pieces) out w.put.start behind_tables

  pub each_held : AllHeld pieces w.put.start
  each_held = all_held pieces w.put.start (all_right IsHeld (standard_place glyphs.standard) (places w.put.start pieces) w.put.held)

  pub end_is : w.put.start + length (pieces_text pieces) ≡ length out
  end_is = let begins = w.put.begins in omega (arith, ap length w.put.text, length-append tables (pieces_text pieces), begins)

  pub some_tables : 4 ≤ w.put.start
  some_tables = let begins = w.put.begins in omega (arith, begins)

  -- the pieces without the last one
  abbrev front : List Piece
  front = take 6 pieces

  abbrev last : Piece
  last = piece_if CharSet (ranges_set glyphs.char_set)

  abbrev pub last_place : ℕ
  last_place = behind_all w.put.start (texts_in front)

  places_are : places w.put.start pieces ≡ places w.put.start front ++ place_of last last_place
  places_are = places_more front last w.put.start

  -- the offsets that the Top DICT has
  told : AreTold front (places w.put.start front) w.put.start
  told = all_told front w.put.start refl

  past_last : {x : Option (List Decimal)} (operator : Operator) → eq_by_cmp operator_cmp operator CharSet ≡ false →
      named_by (places w.put.start front) operator ≡ x → named_by (places w.put.start pieces) operator ≡ x
  past_last operator other is =
      ap (λ xs. named_by xs operator) places_are
      ∙ behind (places w.put.start front) (place_of last last_place) operator (one_other last last_place operator other) ∙ is

  past_standard : {x : Option (List Decimal)} (operator : Operator) → eq_by_cmp operator_cmp operator Encoding ≡ false →
      named_by (places w.put.start pieces) operator ≡ x → named_by named operator ≡ x
  past_standard operator other is =
      before (standard_place glyphs.standard) (places w.put.start pieces) operator (standard_other operator glyphs.standard other) ∙ is

  pub none_by : (operator : Operator) → is_other operator pieces ≡ true → named_by named operator ≡ None
  none_by operator other =
      past_standard operator (parted (eq_by_cmp operator_cmp operator Encoding) _ other).0 (none_named pieces w.put.start operator other)

  pub encoding_named : named_by named Encoding ≡ named_by
      (standard_place glyphs.standard ++ place_of (piece_if Encoding glyphs.encoding) w.put.start) Encoding
  encoding_named =
      let standard : List Place = standard_place glyphs.standard in
      let own : List Place = place_of (piece_if Encoding glyphs.encoding) w.put.start in
      in_front standard (places w.put.start pieces) Encoding ∙ ap (λ x. option_or x (named_by standard Encoding)) (past_last Encoding refl told.0)
      ∙ sym (in_front standard own Encoding)

  pub select_named : named_by named FDSelect ≡ named_by (place_of (piece_if FDSelect glyphs.select) (place FDSelect)) FDSelect
  select_named = past_standard FDSelect refl (past_last FDSelect refl told.1.0)

  pub char_strings_named : named_by named CharStrings ≡ Some (whole (pos (place CharStrings)) ∷ [])
  char_strings_named = past_standard CharStrings refl (past_last CharStrings refl told.1.1.1.0)

  pub private_named : named_by named Private ≡ named_by (place_of (private_piece glyphs.select w.privates) (place Private)) Private
  private_named = past_standard Private refl (past_last Private refl told.1.1.1.1.0)

  pub array_named : named_by named FDArray ≡ named_by (place_of (array_piece glyphs.select w.put.dictionaries) (place FDArray)) FDArray
  array_named = past_standard FDArray refl (past_last FDArray refl told.1.1.1.1.1.0)

  -- the offset of the charset
  abbrev pub set_place : ℕ
  set_place = set_at glyphs.char_set (place CharSet) last_place

  pub set_named : named_by named CharSet ≡ named_by (place_of (piece_if CharSet glyphs.char_set) set_place) CharSet
  set_named =
      past_standard CharSet refl
      (ap (λ xs. named_by xs CharSet) places_are ∙ in_front (places w.put.start front) (place_of last last_place) CharSet
      ∙ ap (option_or (named_by (place_of last last_place) CharSet)) told.1.1.0 ∙ one_named glyphs.char_set (place CharSet) last_place)

  pub set_text : TextStands (text_of glyphs.char_set) out set_place
  set_text =
      of_both (λ text n. TextStands (text_of text) out n) glyphs.char_set (place CharSet) last_place stand.1.1.0 stand.1.1.1.1.1.1.0

  pub set_held : All IsHeld (place_of (piece_if CharSet glyphs.char_set) set_place)
  set_held =
      of_both (λ text n. All IsHeld (place_of (piece_if CharSet text) n)) glyphs.char_set (place CharSet) last_place each_held.1.1.0
      each_held.1.1.1.1.1.1.0

  pub set_late : 3 ≤ set_place
  set_late =
      of_both (λ text n. 3 ≤ n) glyphs.char_set (place CharSet) last_place (omega (arith, some_tables)) (omega (arith, some_tables))

  pub name_apart : AreApart named
  name_apart operator is = none_by operator (each_is (λ o. is_other o pieces) naming refl operator is)

  -- the tables
  pub tables_stand : AreTables font.bytes.now (number_at font.bytes.now 2 1) 0 (view_shown font).tables → TablesStand font glyphs named out
  tables_stand are =
      let renamed = w.renamed are in
      let new = w.put.places renamed.0 renamed.1 in
      let names : List (List ℕ) = items_of font.names in
      let strings : List (List ℕ) = texts glyphs.strings.texts.items in
      let there = tables_are out (pieces_text pieces) names strings w.put.placed new.0 w.put.text w.put.names_fit w.put.dictionary_fits
      w.put.strings_fit new.1 in
      record {
        header = header_is out (pieces_text pieces) names strings w.put.placed w.put.text;
        named = renamed.0;
        new = new.0;
        renamed = renamed.2;
        placed = new.2;
        are = there.0;
        once = λ differ. subst IsToldOnce (sym there.1) (w.put.order.once differ);
        ros = λ apart. subst TellsRosFirst (sym there.1) (w.put.order.ros apart w.ros_first);
      }

  pub codes_stand : IsIndexAt out (place CharStrings) codes
  codes_stand = index_there codes out (place CharStrings) w.put.small w.char_strings_fit stand.1.1.1.0

  pub dictionaries_stand : IsSome glyphs.select → IsIndexAt out (place FDArray) w.put.dictionaries
  dictionaries_stand =
      dictionaries_there glyphs.select w.put.dictionaries out (place FDArray) w.put.small w.put.dictionaries_fit stand.1.1.1.1.1.0

  pub privates_stand : (number : ℕ) → number < length w.privates →
      TextStands (private_text (get_or w.privates number None)) out (private_offset (place Private) w.privates number)
  privates_stand number less = private_there w.privates number out (place Private) less stand.1.1.1.1.0
