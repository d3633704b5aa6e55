-- The parts of a font that is written stand where its dictionary says.
use Rattle.std.proofs.Common.{◌≡◌, refl, sym, ap, subst, ◌∙◌, ℕ, pos, ◌<◌, ◌≤◌, ◌^◌, List, [], ◌∷◌, length, get_or, Option, Some, None, Vec, true, arith, rules}
use Rattle.std.specs.Option.{option_or, unwrap_or}
use Rattle.std.specs.Prelude.{All, IsSome, slice_get}
use Rattle.std.specs.declared.alloc.Global.{Global}
use Rattle.std.proofs.lemmas.List.{append-nil}
use Rattle.std.proofs.lemmas.List.Elements.{All-from_get_or}
use Rattle.postscript_base.specs.Compact1.Decimal.{Decimal}
use Rattle.postscript_base.specs.Compact1.Defaults.{first_of, first_two_of, look}
use Rattle.postscript_base.specs.Compact1.Number.{whole}
use Rattle.postscript_base.specs.Index.{number_at}
use Rattle.postscript_base.specs.Index.Lent.{items_of}
use Rattle.postscript_base.specs.Numbers.{big_endian}
use Rattle.postscript_base.specs.declared.compact1.operator.Operator.{Operator}
use Rattle.postscript_base.specs.declared.compact1.operator.Operator.TheVariants.{CharStringType, CharStrings, FDArray, Private, ROS}
use Rattle.postscript_type2.specs.Program.Routines.{texts}
use Rattle.postscript_view.specs.Cids.{IsCidKeyed}
use Rattle.postscript_view.specs.Contents.{PrivateDict, Tables}
use Rattle.postscript_view.specs.Layout.{AreCharStrings, AreParts, ArePartsOf, AreTables, NamesIndex}
use Rattle.postscript_view.specs.Layout.AreParts.{OfFont, OfFontDictionaries}
use Rattle.postscript_view.specs.Sizes.{IsKeyed}
use Rattle.postscript_view.specs.Value.{parts_shown}
use Rattle.postscript_view.specs.declared.font.FontView.{FontView}
use Rattle.postscript_write.specs.Dictionaries.{IsHeld}
use Rattle.postscript_write.specs.Fonts.{HasHeader}
use Rattle.postscript_write.specs.LaidOut.{IsLaidOutOf, SelectsExactly, StandardIsAlone}
use Rattle.postscript_write.specs.Once.{IsToldOnce, TellsRosFirst}
use Rattle.postscript_write.specs.Parts.{naming}
use Rattle.postscript_write.specs.Pieces.{place_of}
use Rattle.postscript_write.specs.Privates.{IsOwnPrivate, place_of_private, private_offset, private_text}
use Rattle.postscript_write.specs.Renumbered.{IsKept, all_renamed}
use Rattle.postscript_write.specs.Room.{IsRead}
use Rattle.postscript_write.specs.Texts.{TextStands}
use Rattle.postscript_write.specs.Written.{IsPutTogether}
use Rattle.postscript_write.specs.declared.layout.Glyphs.{Glyphs}
use Rattle.postscript_write.specs.declared.layout.Private.{Private as OwnPrivate}
use Rattle.postscript_write.proofs.Arranged.{all_dictionaries, keyed_items, named_opened}
use Rattle.postscript_write.proofs.Distinct.{distinct_named, ros_not_named}
use Rattle.postscript_write.proofs.NamedEnds.{own_look, place_held}
use Rattle.postscript_write.proofs.Operators.{is_none_of}
use Rattle.postscript_write.proofs.PartsWritten.{HasPartsLike, keyed_parts, plain_parts}
use Rattle.postscript_write.proofs.PlacesNamed.{named_by, kept_of, not_renamed, stays_renamed, whole_is}
use Rattle.postscript_write.proofs.Put.{array_named, array_piece, char_strings_named, codes_stand, dictionaries_stand, each_held, named, none_by, pieces, place, private_named, private_piece, privates_stand, tables_stand}
use Rattle.postscript_write.proofs.Says.{font_says, places_are}
use Rattle.postscript_write.proofs.TablesStand.{TablesStand}

-- FDArray names the place of the font dictionaries
pub array_low : (select : Option (Vec ℕ Global)) (dictionaries : List (List ℕ)) (n : ℕ) →
    All IsHeld (place_of (array_piece select dictionaries) n) → IsSome select →
    (named_by (place_of (array_piece select dictionaries) n) FDArray ≡ Some (whole (pos n) ∷ [])) × (n < 2 ^ 31)
array_low None dictionaries n held some = absurd (cc)
array_low (Some select) dictionaries n held some = (refl, place_held FDArray n held)

-- a font that is not CID-keyed names its only private dictionary
pub only_one : (select : Option (Vec ℕ Global)) (privates : List (Option OwnPrivate)) (n : ℕ) → (IsSome select → ⊥) →
    length privates ≡ 1 → place_of (private_piece select privates) n ≡ place_of_private (get_or privates 0 None) n
only_one (Some select) privates n none many = absurd (none refl)
only_one None [] n none many = absurd (omega (arith, many))
only_one None (None ∷ []) n none many = refl
only_one None (Some private ∷ []) n none many =
    ap (λ (xs : List ℕ). record { operator = Private; size = Some (length xs); offset = n } ∷ []) (append-nil private.text.items)
only_one None (p ∷ q ∷ ps) n none many = absurd (omega (arith, many))

module _ {font : FontView} {glyphs : Glyphs} {codes : List (List ℕ)} {out : List ℕ} (w : IsPutTogether font glyphs codes out)
    (t : TablesStand font glyphs (named w) out) where
  -- of the operators that are not renamed the dictionary says what the places do
  pub look_named : {x : Option (List Decimal)} (operator : Operator) → named_by (named w) operator ≡ x →
      IsKept font.dictionary operator → is_none_of operator naming ≡ true →
      look t.new operator ≡ option_or x (look font.dictionary operator)
  look_named {x = x} operator is apart none =
      own_look (named w) t.named t.new operator t.placed is
      ∙ ap (option_or x)
      (stays_renamed font.dictionary t.named (all_renamed glyphs.strings font.dictionary) operator t.renamed apart
      (not_renamed glyphs.strings font.dictionary operator none))

  pub ros_is : look t.new ROS ≡ look font.dictionary ROS
  ros_is = look_named ROS (none_by w ROS refl) (kept_of font.dictionary ROS refl refl refl) refl

  pub keyed_is : SelectsExactly font glyphs → (IsSome glyphs.select → IsCidKeyed t.new) × (IsCidKeyed t.new → IsSome glyphs.select)
  keyed_is exactly = (λ some. subst IsSome (sym ros_is) (exactly.0 some), λ keyed. exactly.1 (subst IsSome ros_is keyed))

  -- the private dictionary of a font that is not CID-keyed
  pub record HasOnly (part : PrivateDict) (private : Option OwnPrivate) : Type 0 where
    pub is : look t.new Private ≡ option_or (named_by (place_of_private private (place w Private)) Private) (look font.dictionary Private)
    pub held : All IsHeld (place_of_private private (place w Private))
    pub own : IsOwnPrivate part private
    pub many : length w.privates ≡ 1
    pub none : private ≡ None → first_two_of (look font.dictionary Private) ≡ None

  pub has_only : (part : PrivateDict) → IsRead font → (IsSome glyphs.select → ⊥) → look font.dictionary ROS ≡ None → part.font ≡ None →
      parts_shown font.parts.items ≡ part ∷ [] → HasOnly part (get_or w.privates 0 None)
  has_only part read unselected no_ros no_font one =
      let own = w.are_own read.laid.parts in
      let many : length w.privates ≡ 1 = own.many ∙ ap length one in
      let there : slice_get (parts_shown font.parts.items) 0 ≡ Some part = ap (λ ps. slice_get ps 0) one in
      let same = only_one glyphs.select w.privates (place w Private) unselected many in
      record {
        is = look_named Private (private_named w ∙ ap (λ ps. named_by ps Private) same) (record { private = λ has. let never = subst IsSome no_ros has in absurd (cc); select = λ _. (λ same. absurd (cc), λ same. absurd (cc)) })
            refl;
        held = subst (All IsHeld) same (each_held w).1.1.1.1.0;
        own = own.each 0 part there;
        many = many;
        none = λ e. subst (λ m. first_two_of (look (unwrap_or m font.dictionary) Private) ≡ None) no_font (w.none_named 0 part there e);
      }

  plain : (part : PrivateDict) → IsRead font → (IsSome glyphs.select → ⊥) → look font.dictionary ROS ≡ None →
      part.font ≡ None → parts_shown font.parts.items ≡ part ∷ [] → HasPartsLike out t.new (parts_shown font.parts.items)
  plain part read unselected no_ros no_font one =
      let private : Option OwnPrivate = get_or w.privates 0 None in
      let has = has_only part read unselected no_ros no_font one in
      let many = has.many in
      let first : private_offset (place w Private) w.privates 0 ≡ place w Private = omega arith in
      let stand = subst (λ n. TextStands (private_text private) out n) first (privates_stand w 0 (omega (arith, many))) in
      subst (HasPartsLike out t.new) (sym one)
      (plain_parts out font.dictionary t.new part private (place w Private) no_font (ros_is ∙ no_ros) has.is has.held stand has.own has.none)

  -- FDArray names the font dictionaries
  pub array_there : IsSome glyphs.select → (look t.new FDArray ≡ Some (whole (pos (place w FDArray)) ∷ [])) × (place w FDArray < 2 ^ 31)
  array_there some =
      let low = array_low glyphs.select w.put.dictionaries (place w FDArray) (each_held w).1.1.1.1.1.0 some in
      (own_look (named w) t.named t.new FDArray t.placed (array_named w ∙ low.0), low.1)

  keyed : (items : List (List ℕ)) → IsRead font → IsSome glyphs.select → IsSome (look font.dictionary ROS) →
      NamesIndex font.bytes.now font.dictionary FDArray items →
      ArePartsOf font.bytes.now items (parts_shown font.parts.items) → HasPartsLike out t.new (parts_shown font.parts.items)
  keyed items read some has_ros names are =
      let parts = parts_shown font.parts.items in
      let is = array_there some in
      keyed_parts font.bytes.now out font.dictionary t.new items w.put.dictionaries parts w.privates (place w Private)
      (subst IsSome (sym ros_is) has_ros)
      (place w FDArray, (whole (pos (place w FDArray)), ap first_of is.0, whole_is (place w FDArray) is.1), dictionaries_stand w some) are
      (all_dictionaries font.bytes.now items parts are).1 (w.put.private_places some items names) (w.are_own read.laid.parts) w.none_named
      (privates_stand w)

  pub char_strings_there : (look t.new CharStrings ≡ Some (whole (pos (place w CharStrings)) ∷ [])) × (place w CharStrings < 2 ^ 31)
  char_strings_there = (
    own_look (named w) t.named t.new CharStrings t.placed (char_strings_named w),
    place_held CharStrings (place w CharStrings) (each_held w).1.1.1.0,
  )

  char_strings : IsRead font → AreCharStrings out t.new codes
  char_strings read =
      let same = look_named CharStringType (none_by w CharStringType refl) (kept_of font.dictionary CharStringType refl refl refl) refl in
      let type = read.laid.char_strings.type in
      let is = char_strings_there in
      record {
        type = (type.0, ap first_of same ∙ type.1, type.2);
        named = (place w CharStrings, (whole (pos (place w CharStrings)), ap first_of is.0, whole_is (place w CharStrings) is.1), codes_stand w);
      }

  -- the font dictionaries that are written tell each operator once
  pub dictionaries_once : IsRead font → IsSome glyphs.select → IsKeyed font.dictionary → (items : List (List ℕ)) →
      NamesIndex out t.new FDArray items → All IsToldOnce items
  dictionaries_once read some keyed items names =
      let is = array_there some in
      let olds = keyed_items font.bytes.now font.dictionary (parts_shown font.parts.items) keyed read.laid.parts in
      let fonts = w.put.private_places some olds.0 olds.1 in
      let own : NamesIndex out t.new FDArray w.put.dictionaries =
      (place w FDArray, (whole (pos (place w FDArray)), ap first_of is.0, whole_is (place w FDArray) is.1), dictionaries_stand w some) in
      let same = named_opened out t.new FDArray (place w FDArray) own.2.0 w.put.dictionaries items own.1 own.2.2 names in
      subst (All IsToldOnce) same
      (All-from_get_or IsToldOnce w.put.dictionaries [] (λ i less. let many = fonts.many in fonts.once i (omega (arith, less, many))))

pub header_there : (out : List ℕ) → HasHeader out → (3 ≤ length out) × (number_at out 2 1 ≡ 4)
unfolding number_at
header_there [] h = absurd (cc)
header_there (a ∷ []) h = absurd (cc)
header_there (a ∷ b ∷ []) h = absurd (cc)
header_there (a ∷ b ∷ d ∷ []) h = absurd (cc)
header_there (a ∷ b ∷ d ∷ e ∷ out) h =
    let third : d ≡ 4 = cc in
    (omega arith, ap (λ n. big_endian (n ∷ [])) third)

-- what is written is laid out
pub laid_out : (font : FontView) (glyphs : Glyphs) (codes : List (List ℕ)) (out : List ℕ) → IsPutTogether font glyphs codes out →
    IsRead font → SelectsExactly font glyphs → IsLaidOutOf font glyphs codes out
laid_out font glyphs codes out w read exactly = record {
  view = record {
    tables = record { names = items_of font.names; dictionary = t.new; strings = texts glyphs.strings.texts.items; subroutines = [] };
    char_strings = codes;
    parts = parts.parts;
  };
  laid = record {
    header = header.0;
    tables = there.0;
    char_strings = char_strings w t read;
    parts = parts.are;
  };
  strings = refl;
  char_strings = refl;
  repeats = record {
    names = refl;
    no_global = refl;
    dictionary = font_says glyphs.strings font.dictionary t.named t.new (named w) (places_are glyphs.standard w.put.start (pieces w)
        (search rules, (search rules, (search rules, (search rules, (search rules, (search rules, (search rules, tt))))))))
        t.renamed t.placed;
    parts = parts.like;
  };
  dictionary_once = there.1;
  ros = there.2;
  dictionaries_once = λ keyed. let some = (keyed_is w t exactly).1 keyed in dictionaries_once w t read some (exactly.0 some);
}
  where
    t : TablesStand font glyphs (named w) out
    t = tables_stand w read.laid.tables

    header : (3 ≤ length out) × (number_at out 2 1 ≡ 4)
    header = header_there out t.header

    tables : Tables
    tables = record { names = items_of font.names; dictionary = t.new; strings = texts glyphs.strings.texts.items; subroutines = [] }

    there : (are : AreTables out (number_at out 2 1) 0 tables) × (StandardIsAlone glyphs → IsToldOnce are.item) × TellsRosFirst are.item
    there = subst (λ n. (are : AreTables out n 0 tables) × (StandardIsAlone glyphs → IsToldOnce are.item) × TellsRosFirst are.item)
        (sym header.1) (t.are, λ alone. t.once (distinct_named glyphs w.put.start _ _ _ _ alone), t.ros (ros_not_named glyphs.standard w.put.start glyphs _ _ _ _))

    by : AreParts font.bytes.now font.dictionary (parts_shown font.parts.items) → HasPartsLike out t.new (parts_shown font.parts.items)
    by (OfFont part no_ros_there is one) =
        plain w t part read (λ some. let never = subst IsSome no_ros_there (exactly.0 some) in absurd (cc)) no_ros_there is.1 one
    by (OfFontDictionaries items has_ros names are) =
        keyed w t items read (exactly.1 has_ros) has_ros names are

    parts : HasPartsLike out t.new (parts_shown font.parts.items)
    parts = by read.laid.parts
