-- No byte stands beside the parts of what is written.
use Rattle.std.proofs.Common.{◌≡◌, refl, sym, ap, subst, ◌∙◌, ℕ, pos, ◌+◌, ◌<◌, List, [], ◌∷◌, ◌++◌, length, length-append, length-drop, drop, get_or, Option, Some, None, arith}
use Rattle.std.specs.Option.{option_or, unwrap_or}
use Rattle.std.specs.Prelude.{IsSome, slice_get}
use Rattle.std.proofs.lemmas.List.{append-nil}
use Rattle.postscript_base.specs.Compact1.Defaults.{first_of, first_two_of, look}
use Rattle.postscript_base.specs.Compact1.Dictionary.{Dictionary}
use Rattle.postscript_base.specs.Compact1.DictionaryLaw.{IsDictionary}
use Rattle.postscript_base.specs.Compact1.Number.{whole}
use Rattle.postscript_base.specs.Index.Lent.{items_of}
use Rattle.postscript_base.specs.declared.compact1.operator.Operator.TheVariants.{CharSet, CharStrings, Encoding, FDArray, FDSelect, Private, ROS}
use Rattle.postscript_type2.specs.Program.Routines.{texts}
use Rattle.postscript_view.specs.Contents.{PrivateDict, View}
use Rattle.postscript_view.specs.Layout.{AreParts, ArePartsOf, IsLaidOut, NamesIndex}
use Rattle.postscript_view.specs.Layout.AreParts.{OfFont, OfFontDictionaries}
use Rattle.postscript_view.specs.Value.{parts_shown}
use Rattle.postscript_view.specs.declared.font.FontView.{FontView}
use Rattle.postscript_write.specs.ArrangedText.{tables_text}
use Rattle.postscript_write.specs.Given.{AreGiven}
use Rattle.postscript_write.specs.Index.{FitsIndex}
use Rattle.postscript_write.specs.LaidOut.{SelectsExactly}
use Rattle.postscript_write.specs.Pieces.{piece_if, pieces_text, place_of, ranges_set, standard_place, text_of}
use Rattle.postscript_write.specs.Privates.{private_offset, private_text, privates_text}
use Rattle.postscript_write.specs.Room.{IsRead}
use Rattle.postscript_write.specs.Texts.{TextStands}
use Rattle.postscript_write.specs.Whole.{HasNoByteBeside, IndexEnds, NamedEnds, OtherSetEnds, PrivatesEnd, TablesEnd}
use Rattle.postscript_write.specs.Written.{IsPutTogether}
use Rattle.postscript_write.specs.declared.layout.Glyphs.{Glyphs}
use Rattle.postscript_write.specs.declared.layout.Private.{Private as OwnPrivate}
use Rattle.postscript_write.proofs.Arranged.{keyed_items, named_opened, all_dictionaries}
use Rattle.postscript_write.proofs.Heads.{dictionaries_are}
use Rattle.postscript_write.proofs.IndexStands.{writes_indices}
use Rattle.postscript_write.proofs.LaidOut.{array_there, char_strings_there, has_only, header_there, keyed_is, look_named, ros_is}
use Rattle.postscript_write.proofs.NamedEnds.{array_ends, char_set_ends, encoding_ends, offset_is, own_look, select_ends}
use Rattle.postscript_write.proofs.OneCharSet.{EndsBytes, ranges_last}
use Rattle.postscript_write.proofs.PartsWritten.{has_dictionary}
use Rattle.postscript_write.proofs.Pieces.{all_end as texts_end, texts_in}
use Rattle.postscript_write.proofs.PlacesNamed.{named_by, kept_of, whole_is}
use Rattle.postscript_write.proofs.PrivatesStand.{EndsBehind, all_end, one_dictionary, private_ends}
use Rattle.postscript_write.proofs.Put.{privates_stand, dictionaries_stand, encoding_named, end_is, each_held, last_place, named, pieces, place, select_named, set_held, set_late, set_named, set_place, set_text, some_tables, stand}
use Rattle.postscript_write.proofs.Rests.{none_fit}
use Rattle.postscript_write.proofs.TablesStand.{TablesStand, tables_length, tables_there}

tables_end : (out behind : List ℕ) (names strings : List (List ℕ)) (placed : List ℕ) → out ≡ tables_text names placed strings ++ behind →
    FitsIndex names → FitsIndex (placed ∷ []) → FitsIndex strings → TablesEnd out 0 (length (tables_text names placed strings))
tables_end out behind names strings placed is names_fit placed_fits strings_fit =
    let stand = tables_there out behind names strings placed is in (
      _,
      (names, writes_indices names out 4 names_fit stand.1.0),
      (
        _,
        (placed ∷ [], writes_indices (placed ∷ []) out _ placed_fits stand.1.1.0, refl),
        (
          _,
          (strings, writes_indices strings out _ strings_fit stand.1.1.1.0),
          (_, ([], writes_indices [] out _ (none_fit [] refl) stand.1.1.1.1.0), sym (tables_length names strings placed)),
        ),
      ),
    )

-- a text that stands last ends with the bytes
pub last_there : (text out : List ℕ) (place : ℕ) (stands : TextStands text out place) → place + length text ≡ length out → drop place out ≡ text
last_there text out place stands end =
    let long : length (drop place out) ≡ length text + length stands.behind = ap length stands.there ∙ length-append text stands.behind in
    let nothing : length stands.behind ≡ 0 = omega (arith, long, end, length-drop place out) in
    stands.there ∙ ap (λ xs. text ++ xs) (none stands.behind nothing) ∙ append-nil text
  where
    none : (xs : List ℕ) → length xs ≡ 0 → xs ≡ []
    none [] e = refl
    none (x ∷ xs) e = absurd (omega (arith, e))

module _ {font : FontView} {glyphs : Glyphs} {codes : List (List ℕ)} {out : List ℕ} (w : IsPutTogether font glyphs codes out)
    (t : TablesStand font glyphs (named w) out) where
  -- the private dictionaries of a CID-keyed font
  keyed_each : (items : List (List ℕ)) → IsRead font → IsSome glyphs.select → NamesIndex font.bytes.now font.dictionary FDArray items →
      ArePartsOf font.bytes.now items (parts_shown font.parts.items) →
      (length w.privates ≡ length w.put.dictionaries) × ((k : ℕ) (own : Dictionary) → k < length w.put.dictionaries → IsDictionary
      (get_or w.put.dictionaries k []) 0 own → EndsBehind out own (get_or w.privates k None) (private_offset (place w Private) w.privates k))
  keyed_each items read some names are =
      let start : ℕ = place w Private in
      let parts = parts_shown font.parts.items in
      let own = w.are_own read.laid.parts in
      let fonts = w.put.private_places some items names in
      let long = (all_dictionaries font.bytes.now items parts are).1 in (
        own.many ∙ sym long ∙ sym fonts.many,
        λ k map less is.
            let within : k < length items = subst (λ n. k < n) fonts.many less in
            let has = has_dictionary font.bytes.now items parts k are within in
            let new = fonts.each k has.map within has.is in
            let same : new.0 ≡ map = one_dictionary (get_or w.put.dictionaries k []) new.0 map new.1 is in
            let private : Option OwnPrivate = get_or w.privates k None in
            let unnamed = λ (e : private ≡ None). subst (λ m. first_two_of (look (unwrap_or m font.dictionary) Private) ≡ None) has.font
            (w.none_named k has.part has.there e) in
            subst (λ m. EndsBehind out m private (private_offset start w.privates k)) same
            (private_ends out has.map new.0 has.part private (private_offset start w.privates k) (new.2 Private) (fonts.held k within) unnamed
            (privates_stand w k (let many = own.many in omega (arith, within, long, many))) (own.each k has.part has.there)),
      )

  privates_end : (parts : List PrivateDict) → IsRead font → SelectsExactly font glyphs → AreParts out t.new parts →
      PrivatesEnd out t.new parts (place w Private) (place w FDArray)
  privates_end parts read exactly are = by are
    where
      at : ℕ
      at = place w Private

      single : (part : PrivateDict) (ps : List (Option OwnPrivate)) → part.font ≡ None → length ps ≡ 1 →
          EndsBehind out t.new (get_or ps 0 None) at → PrivatesEnd out t.new (part ∷ []) at (at + length (privates_text ps))
      single part [] no_font many ends = absurd (omega (arith, many))
      single part (p ∷ q ∷ ps) no_font many ends = absurd (omega (arith, many))
      single part (p ∷ []) no_font many ends =
          (_, subst (λ f. EndsBehind out (unwrap_or f t.new) p at) (sym no_font) ends, omega (arith, length-append (private_text p) []))

      plain : look font.dictionary ROS ≡ None → (part : PrivateDict) → part.font ≡ None → (IsSome glyphs.select → ⊥) →
          AreParts font.bytes.now font.dictionary (parts_shown font.parts.items) →
          PrivatesEnd out t.new (part ∷ []) at (at + length (privates_text w.privates))
      plain none part no_font unselected (OfFont was no_ros is one) =
          let has = has_only w t was read unselected none is.1 one in
          single part w.privates no_font has.many
          (private_ends out font.dictionary t.new was (get_or w.privates 0 None) at has.is has.held has.none
          (let first : private_offset at w.privates 0 ≡ at = omega arith in let many = has.many in
          subst (λ n. TextStands (private_text (get_or w.privates 0 None)) out n) first (privates_stand w 0 (omega (arith, many)))) has.own)
      plain none part no_font unselected (OfFontDictionaries items has_ros names old) =
          let never = subst IsSome none has_ros in absurd (cc)

      by : AreParts out t.new parts → PrivatesEnd out t.new parts at (at + length (privates_text w.privates))
      by (OfFont part no_ros is list) =
          let unselected = λ (some : IsSome glyphs.select). let never = subst IsSome no_ros ((keyed_is w t exactly).0 some) in absurd (cc) in
          subst (λ ps. PrivatesEnd out t.new ps at (at + length (privates_text w.privates))) (sym list)
          (plain (sym (ros_is w t) ∙ no_ros) part is.1 unselected read.laid.parts)
      by (OfFontDictionaries items has_ros names parts_are) =
          let some = (keyed_is w t exactly).1 has_ros in
          let old = keyed_items font.bytes.now font.dictionary (parts_shown font.parts.items) (subst IsSome (ros_is w t) has_ros)
          read.laid.parts in
          let each = keyed_each old.0 read some old.1 old.2 in
          let stands = dictionaries_stand w some in
          let is = array_there w t some in
          let same = named_opened out t.new FDArray (place w FDArray) stands.0 w.put.dictionaries items
          (whole (pos (place w FDArray)), ap first_of is.0, whole_is (place w FDArray) is.1) stands.2 names in
          all_end t.new out w.put.dictionaries parts w.privates at (subst (λ (xs : List (List ℕ)). ArePartsOf out xs parts) (sym same) parts_are)
          each.0 each.1

  pub encoding_look : look t.new Encoding ≡ option_or
      (named_by (standard_place glyphs.standard ++ place_of (piece_if Encoding glyphs.encoding) w.put.start) Encoding)
      (look font.dictionary Encoding)
  encoding_look = look_named w t Encoding (encoding_named w) (kept_of font.dictionary Encoding refl refl refl) refl

  pub set_look : look t.new CharSet ≡ option_or (named_by (place_of (piece_if CharSet glyphs.char_set) (set_place w)) CharSet)
      (look font.dictionary CharSet)
  set_look = look_named w t CharSet (set_named w) (kept_of font.dictionary CharSet refl refl refl) refl

  set_end : last_place w + length (text_of (ranges_set glyphs.char_set)) ≡ length out
  set_end = texts_end (texts_in (pieces w)) w.put.start ∙ end_is w

  pub set_last : EndsBytes glyphs.char_set out (set_place w)
  set_last =
      ranges_last glyphs.char_set out (place w CharSet) (last_place w)
      (last_there (text_of (ranges_set glyphs.char_set)) out (last_place w) (stand w).1.1.1.1.1.1.0 set_end)

  none_beside : (parts : List PrivateDict) (names strings subroutines : List (List ℕ)) → IsRead font → SelectsExactly font glyphs →
      AreGiven font glyphs (length codes) → AreParts out t.new parts →
      HasNoByteBeside out (record {
        tables = record { names = names; dictionary = t.new; strings = strings; subroutines = subroutines };
        char_strings = codes;
        parts = parts;
      })
  none_beside parts names strings subroutines read exactly given are =
      let keyed = keyed_is w t exactly in
      let h = each_held w in
      let s = stand w in
      let start = some_tables w in
      let char_strings = char_strings_there w t in
      let array = λ (some : IsSome glyphs.select). array_there w t some in
      let of_tables = subst (TablesEnd out 0) w.put.begins
      (tables_end out (pieces_text (pieces w)) (items_of font.names) (texts glyphs.strings.texts.items) w.put.placed w.put.text
      w.put.names_fit w.put.dictionary_fits w.put.strings_fit) in
      let of_encoding = encoding_ends font.dictionary t.new out glyphs.encoding glyphs.standard w.put.start encoding_look h.0
      (omega (arith, start)) s.0 given.encoding in
      let of_select = select_ends t.new out glyphs.select (length codes) (place w FDSelect) (look t.named FDSelect)
      (own_look (named w) t.named t.new FDSelect t.placed (select_named w)) h.1.0 keyed.0 keyed.1 s.1.0 given.select in
      let of_codes : NamedEnds t.new CharStrings (IndexEnds out) (place w CharStrings) (place w Private) = (
        offset_is t.new CharStrings (place w CharStrings) char_strings.1 char_strings.0,
        (codes, writes_indices codes out (place w CharStrings) w.char_strings_fit s.1.1.1.0),
      ) in
      let of_array = array_ends t.new out glyphs.select w.put.dictionaries (place w FDArray) array keyed.0 keyed.1 w.put.dictionaries_fit
      s.1.1.1.1.1.0 in
      let of_sets = char_set_ends font.dictionary t.new out glyphs.char_set (length codes) (place w CharSet) (last_place w) set_look
      (set_held w) (set_late w) (set_text w) set_last given.char_set in
      let of_ranges = subst (OtherSetEnds out t.new (length codes) (last_place w)) set_end of_sets.1 in (
        w.put.start,
        of_tables,
        (
          place w FDSelect,
          of_encoding,
          (
            place w CharSet,
            of_select,
            (
              place w CharStrings,
              of_sets.0,
              (
                place w Private,
                of_codes,
                (place w FDArray, privates_end parts read exactly are, (last_place w, of_array, (length out, of_ranges, refl))),
              ),
            ),
          ),
        ),
      )

  -- the dictionary that is read is the one that is written
  pub dictionary_is : (view : View) → IsLaidOut out 0 view → t.new ≡ view.tables.dictionary
  dictionary_is view laid =
      let header = header_there out t.header in
      let first : slice_get t.are.dictionaries 0 ≡ Some laid.tables.item = dictionaries_are out view.tables 4 t.are.names_next
      t.are.dictionaries_next (items_of font.names) t.are.dictionaries laid.tables (sym header.1) t.are.are_names t.are.are_dictionaries in
      let both : Some t.are.item ≡ Some laid.tables.item = sym t.are.there ∙ first in
      let same : t.are.item ≡ laid.tables.item = cc in
      one_dictionary laid.tables.item t.new view.tables.dictionary
      (subst (λ (xs : List ℕ). IsDictionary xs 0 t.new) same t.are.is_dictionary) laid.tables.is_dictionary

  pub none_beside_view : (view : View) → IsLaidOut out 0 view → view.char_strings ≡ codes → IsRead font → SelectsExactly font glyphs →
      AreGiven font glyphs (length codes) → HasNoByteBeside out view
  none_beside_view view laid are read exactly given =
      let same = dictionary_is view laid in
      subst (λ m. HasNoByteBeside out (record {
        tables = record { names = view.tables.names; dictionary = m; strings = view.tables.strings; subroutines = view.tables.subroutines };
        char_strings = view.char_strings;
        parts = view.parts;
      })) same
      (subst (λ (cs : List (List ℕ)). HasNoByteBeside out (record {
        tables = record {
          names = view.tables.names;
          dictionary = t.new;
          strings = view.tables.strings;
          subroutines = view.tables.subroutines;
        };
        char_strings = cs;
        parts = view.parts;
      })) (sym are)
      (none_beside view.parts view.tables.names view.tables.strings view.tables.subroutines read exactly given
      (subst (λ m. AreParts out m view.parts) (sym same) laid.parts)))
