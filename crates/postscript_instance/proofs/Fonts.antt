-- The tables that are written are fonts with the intended names and Font DICTs.
use Rattle.std.proofs.Common.{◌≡◌, refl, sym, ap, subst, ◌∙◌, inl, inr, ℕ, zero, suc, pos, ◌+◌, ◌-◌, ◌^◌, ◌<◌, ◌≤◌, List, [], ◌∷◌, ◌++◌, length, length-drop, drop, get_or, Option, Some, None, Bor, Vec, rules, arith}
use Rattle.std.specs.List.{concat, range_with_len}
use Rattle.std.specs.Option.{MatchOption}
use Rattle.std.specs.Prelude.{All, IsSome, slice_get}
use Rattle.std.specs.declared.alloc.Global.{Global}
use Rattle.std.proofs.lemmas.List.{length-map}
use Rattle.std.proofs.lemmas.List.Elements.{All-cons, All-drop, All-nil}
use Rattle.std.proofs.lemmas.List.FromFn.{get_or-range_with_len, length-range_with_len}
use Rattle.std.proofs.lemmas.Option.{slice_get-get_or, slice_get_within}
use Rattle.postscript_base.specs.Compact1.Decimal.{Decimal, to_i32}
use Rattle.postscript_base.specs.Compact1.Defaults.{decimal, first_of, look}
use Rattle.postscript_base.specs.Compact1.Dictionary.{Dictionary, dictionary_of}
use Rattle.postscript_base.specs.Compact1.DictionaryLaw.{last_of}
use Rattle.postscript_base.specs.Compact1.Operation.{Operation}
use Rattle.postscript_base.specs.Index.{number_at}
use Rattle.postscript_base.specs.declared.compact1.operator.Operator.TheVariants.{CharSet, CharStringType, CharStrings, FDArray, FDSelect, Private, ROS}
use Rattle.postscript_compact1.specs.FontSet.Parts.{HasFirst}
use Rattle.postscript_cff2.specs.Shown.{view_shown}
use Rattle.postscript_cff2.specs.declared.font.Font.{Font}
use Rattle.postscript_type2.specs.Program.Routines.{texts}
use Rattle.postscript_view.specs.Cids.{IsCidKeyed}
use Rattle.postscript_view.specs.Contents.{View}
use Rattle.postscript_view.specs.Layout.{AreCharStrings, AreTables, OfFont, OfFontDictionaries}
use Rattle.postscript_view.specs.CharSets.{CharSetStandsAt}
use Rattle.postscript_view.specs.Naming.{Names, NamesBehind}
use Rattle.postscript_view.specs.Select.{offset_of}
use Rattle.postscript_view.specs.Strings.{HasName, string_of}
use Rattle.postscript_write.specs.ArrangedText.{tables_text}
use Rattle.postscript_write.specs.Index.{FitsIndex, index_text}
use Rattle.postscript_write.specs.Texts.{TextStands}
use Rattle.postscript_write.proofs.OperationsStand.{writes_operations}
use Rattle.postscript_write.proofs.Places.{nat_cases}
use Rattle.postscript_write.proofs.Room.{index_most, single_fits, they_fit}
use Rattle.postscript_write.proofs.Standing.{stands_within}
use Rattle.postscript_write.proofs.TablesStand.{index_there, tables_are}
use Rattle.postscript_instance.specs.Dictionaries.{HasDictionary}
use Rattle.postscript_instance.specs.Encoded.{AreIdentified, AreLow, HasRoom, HaveFontDicts, IsFontOf, IsKeyedBytes, IsNamedBytes, IsSelectText, IsSetText, font_dicts, keyed_places, keyed_text, named_places, named_text}
use Rattle.postscript_instance.specs.Naming.{AreCids, AreNames}
use Rattle.postscript_instance.specs.Whole.{IsDict, IsPrivate, adobe, identity, integers, keyed_operations, matrix_operation, named_operations}
use Rattle.postscript_instance.specs.declared.layout.Places.{Places}
use Rattle.postscript_instance.specs.declared.naming.Identifiers.{Identifiers}
use Rattle.postscript_instance.specs.declared.naming.Naming.{Naming}
use Rattle.postscript_instance.proofs.Laying.{dicts-fit, dicts-length, dicts-size, five-length, five-stand, keyed-dict, keyed-length, keyed-strings-fit, named-dict, named-length, tables-sum, three-length, three-stand}
use Rattle.postscript_instance.proofs.Numbered.{identifiers-of, names-behind, set-of, stands-at}
use Rattle.postscript_instance.proofs.Opened.{are-parts, are-plain, has-first, has-locals, has-offset, is-plain, looked, many-parts, part-of, parts-of, unlooked}
use Rattle.postscript_instance.proofs.Sets.{begins, select-byte, select-length}

is-some : {X : Type 0} {o : Option X} {x : X} → o ≡ Some x → IsSome o
is-some {X = X} {o = o} {x = x} is = subst IsSome (sym is) here
  where
    here : IsSome (Some x)
    here = search rules

is-none : {X : Type 0} {o : Option X} → o ≡ None → IsSome o → ⊥
is-none {X = X} {o = o} is some = by (subst IsSome is some)
  where
    by : IsSome {T = X} None → ⊥
    by h = search rules

-- what the Top DICTs have
keyed-codes : (m : Option (List Decimal)) (n set select codes array : ℕ) →
    last_of (keyed_operations m n set select codes array) CharStrings ≡ Some (integers (codes ∷ []))
keyed-codes None n set select codes array = refl
keyed-codes (Some x) n set select codes array = refl

keyed-set : (m : Option (List Decimal)) (n set select codes array : ℕ) →
    last_of (keyed_operations m n set select codes array) CharSet ≡ Some (integers (set ∷ []))
keyed-set None n set select codes array = refl
keyed-set (Some x) n set select codes array = refl

keyed-select : (m : Option (List Decimal)) (n set select codes array : ℕ) →
    last_of (keyed_operations m n set select codes array) FDSelect ≡ Some (integers (select ∷ []))
keyed-select None n set select codes array = refl
keyed-select (Some x) n set select codes array = refl

keyed-array : (m : Option (List Decimal)) (n set select codes array : ℕ) →
    last_of (keyed_operations m n set select codes array) FDArray ≡ Some (integers (array ∷ []))
keyed-array None n set select codes array = refl
keyed-array (Some x) n set select codes array = refl

keyed-ros : (m : Option (List Decimal)) (n set select codes array : ℕ) →
    last_of (keyed_operations m n set select codes array) ROS ≡ Some (integers (391 ∷ 392 ∷ 0 ∷ []))
keyed-ros None n set select codes array = refl
keyed-ros (Some x) n set select codes array = refl

keyed-type : (m : Option (List Decimal)) (n set select codes array : ℕ) →
    last_of (keyed_operations m n set select codes array) CharStringType ≡ None
keyed-type None n set select codes array = refl
keyed-type (Some x) n set select codes array = refl

named-codes : (m : Option (List Decimal)) (set codes size private : ℕ) →
    last_of (named_operations m set codes size private) CharStrings ≡ Some (integers (codes ∷ []))
named-codes None set codes size private = refl
named-codes (Some x) set codes size private = refl

named-set : (m : Option (List Decimal)) (set codes size private : ℕ) →
    last_of (named_operations m set codes size private) CharSet ≡ Some (integers (set ∷ []))
named-set None set codes size private = refl
named-set (Some x) set codes size private = refl

named-private : (m : Option (List Decimal)) (set codes size private : ℕ) →
    last_of (named_operations m set codes size private) Private ≡ Some (integers (size ∷ private ∷ []))
named-private None set codes size private = refl
named-private (Some x) set codes size private = refl

named-ros : (m : Option (List Decimal)) (set codes size private : ℕ) → last_of (named_operations m set codes size private) ROS ≡ None
named-ros None set codes size private = refl
named-ros (Some x) set codes size private = refl

named-type : (m : Option (List Decimal)) (set codes size private : ℕ) →
    last_of (named_operations m set codes size private) CharStringType ≡ None
named-type None set codes size private = refl
named-type (Some x) set codes size private = refl

-- charstrings are of Type 2, at their offset
of-type-2 : (os : List Operation) → last_of os CharStringType ≡ None → HasFirst (dictionary_of os) CharStringType (pos 2)
unfolding to_i32
of-type-2 os none = (decimal (pos 2) (pos 0), ap first_of (unlooked os CharStringType none), refl)

are-codes : (os : List Operation) (codes : List (List ℕ)) (bytes : List ℕ) (place : ℕ) → last_of os CharStringType ≡ None →
    last_of os CharStrings ≡ Some (integers (place ∷ [])) → place < 2 ^ 31 → length bytes < 2 ^ 64 → FitsIndex codes →
    TextStands (index_text codes) bytes place → AreCharStrings bytes (dictionary_of os) codes
are-codes os codes bytes place type named low small fits stands = record {
  type = of-type-2 os type;
  named = (place, has-first os CharStrings place named low, index_there codes bytes place small fits stands);
}

-- the header has four bytes
four-bytes : (out front behind : List ℕ) (rest : List ℕ) → out ≡ front ++ behind → front ≡ 1 ∷ 0 ∷ 4 ∷ 4 ∷ rest → number_at out 2 1 ≡ 4
unfolding number_at
four-bytes out front behind rest is begins = ap (λ xs. number_at xs 2 1) (is ∙ ap (λ xs. xs ++ behind) begins)

-- numbers that fit into two bytes
range-low : (a n : ℕ) → a + n ≤ 65536 → All (λ k. k < 65536) (range_with_len a n)
range-low a zero small = All-nil (λ k. k < 65536)
range-low a (suc n) small =
    All-cons (λ k. k < 65536) a (range_with_len (a + 1) n) (omega (arith, small)) (range-low (a + 1) n (omega (arith, small)))

-- the CID of a glyph
cid-of : (text out : List ℕ) (place glyphs glyph : ℕ) → (is : IsSetText (range_with_len 1 (glyphs - 1)) text) → TextStands text out place →
    glyphs < 2 ^ 16 → glyph < glyphs → Names (set-of (identifiers-of (range_with_len 1 (glyphs - 1)) text is out place glyphs) glyphs) glyph glyph
cid-of text out place glyphs zero is stands few less = record { there = less; told = inl (refl, refl) }
cid-of text out place glyphs (suc k) is stands few less =
    let numbers : List ℕ = range_with_len 1 (glyphs - 1) in
    let many = length-range_with_len 1 (glyphs - 1) in
    let before : suc k - 1 ≡ k = omega arith in
    let number : 1 + k ≡ suc k = omega arith in
    let got : slice_get numbers k ≡ Some (suc k) =
    slice_get-get_or numbers k 0 (omega (arith, many, less))
    ∙ ap Some (get_or-range_with_len 1 (glyphs - 1) k 0 (omega (arith, less)) ∙ number) in
    let named = names-behind numbers text is out place glyphs k (suc k) many stands (range-low 1 (glyphs - 1) (omega (arith, few))) got in
    record {
      there = less;
      told = inr (omega arith, subst (λ g. NamesBehind (identifiers-of numbers text is out place glyphs) g (suc k)) (sym before) named);
    }

-- the Font DICT of a glyph
dictionary-of : (font : Font) (glyphs glyph : ℕ) (text bytes : List ℕ) (view : View) (place number : ℕ) → (is : IsSelectText font glyphs text) →
    glyph < glyphs → slice_get is.numbers glyph ≡ Some number → number < length view.parts → length view.char_strings ≡ glyphs →
    TextStands text bytes place → offset_of view.tables.dictionary FDSelect ≡ Some place → HasDictionary bytes view glyph number
dictionary-of font glyphs glyph text bytes view place number is less got there counted stands named =
    record {
      there = there;
      selected = elim (nat_cases 1 (length view.parts)) [
        | inl many ↦ inr (
          λ one. omega (arith, one, many),
          (
            place,
            named,
            inl (record {
              format = begins text bytes is.numbers place 0 stands is.is;
              within = omega (arith, stands_within text stands, select-length font glyphs text is, counted);
              there = omega (arith, less, counted);
              dictionary = sym (select-byte font glyphs text bytes place glyph number is stands got);
            }),
          ),
        )
        | inr few ↦ inl (omega (arith, few, there), omega (arith, few, there))
      ];
    }

pub keyed-font : (font : Font) (naming : Naming) (matrix : List ℕ) (m : Option (List Decimal)) (codes privates : List (Vec ℕ Global))
    (out : List ℕ) → IsKeyedBytes font naming.font.now matrix codes privates out → HasRoom naming.font.now matrix codes privates →
    IsDict matrix (matrix_operation m) → length privates ≡ length (view_shown font).font_dictionaries → All IsPrivate (texts privates) →
    naming.glyphs ≡ None → IsFontOf font naming (texts codes) out
keyed-font font naming matrix m codes privates out b room dict counted are no_names =
    let name : List ℕ = naming.font.now in
    let cs : List ℕ = index_text (texts codes) in
    let ps : List ℕ = concat (texts privates) in
    let n : ℕ = length codes in
    let p : Places = keyed_places b.start b.set b.select cs ps in
    let top : List ℕ = keyed_text matrix n p in
    let strings : List (List ℕ) = adobe ∷ identity ∷ [] in
    let dicts : List (List ℕ) = font_dicts (texts privates) p.private in
    let array : List ℕ = index_text dicts in
    let front : List ℕ = tables_text (name ∷ []) top strings in
    let many_codes : length (texts codes) ≡ n = length-map codes (λ v. v.items) in
    let many_privates : length (texts privates) ≡ length privates = length-map privates (λ v. v.items) in
    let sum = room.small in
    let few_codes = room.few_codes in
    let few_privates = room.few_privates in
    let small = b.small in
    let low : AreLow p = record {
      char_set = omega (arith, small);
      select = omega (arith, small);
      char_strings = omega (arith, small);
      private = omega (arith, small);
      array = omega (arith, small);
    } in
    let os : List Operation = keyed_operations m n p.char_set p.select p.char_strings p.array in
    let map : Dictionary = dictionary_of os in
    let stand = five-stand out front b.set b.select cs ps array b.start b.begins b.is in
    let end = five-length out front b.set b.select cs ps array b.start b.begins b.is in
    let short : length out < 2 ^ 64 = omega (
      arith,
      end,
      small,
      index_most dicts,
      dicts-length (texts privates) p.private,
      dicts-size (texts privates) p.private,
      many_privates,
      few_privates,
    ) in
    let codes_fit : FitsIndex (texts codes) = they_fit (texts codes) (omega (arith, many_codes, few_codes)) (omega (arith, sum)) in
    let dicts_fit : FitsIndex dicts = dicts-fit (texts privates) p.private (omega (arith, many_privates, few_privates)) in
    let head = (tables_are out _ (name ∷ []) strings top map b.is (single_fits name (omega (arith, sum)))
    (single_fits top (omega (arith, sum, keyed-length matrix n p))) keyed-strings-fit
    (writes_operations.all top os (keyed-dict matrix m n p dict (omega (arith, few_codes)) low))).0 in
    let parts = parts-of (texts privates) p.private are in
    let many_parts : length parts ≡ length privates = many-parts (texts privates) p.private are ∙ many_privates in
    let view : View = record {
      tables = record { names = name ∷ []; dictionary = map; strings = strings; subroutines = [] };
      char_strings = texts codes;
      parts = parts;
    } in
    let keyed : IsCidKeyed map = is-some (looked os ROS (integers (391 ∷ 392 ∷ 0 ∷ [])) (keyed-ros m n p.char_set p.select p.char_strings p.array)) in
    let set = identifiers-of (range_with_len 1 (n - 1)) b.set b.is_set out b.start n in
    record {
      view = view;
      stands = record {
        header = omega (arith, end, b.begins, tables-sum name top strings);
        tables = subst (λ k. AreTables out k 0 view.tables) (sym (four-bytes out front _ _ b.is refl)) head;
        char_strings = are-codes os (texts codes) out p.char_strings (keyed-type m n p.char_set p.select p.char_strings p.array)
            (keyed-codes m n p.char_set p.select p.char_strings p.array) low.char_strings short codes_fit stand.2;
        parts = OfFontDictionaries dicts keyed (
          p.array,
          has-first os FDArray p.array (keyed-array m n p.char_set p.select p.char_strings p.array) low.array,
          index_there dicts out p.array short dicts_fit stand.4,
        )
            (are-parts (texts privates) out p.private are (omega (arith, small)) stand.3);
      };
      are_codes = refl;
      none = refl;
      parts = are-plain (texts privates) p.private are;
      called = record {
        name = refl;
        set = set-of set n;
        is = record {
          identifiers = (
            b.start,
            has-offset os CharSet b.start (keyed-set m n p.char_set p.select p.char_strings p.array) low.char_set,
            inr (inr (inr (
              omega (arith, b.begins, tables-sum name top strings),
              subst (λ k. CharSetStandsAt set out b.start k) (sym many_codes)
                  (stands-at (range_with_len 1 (n - 1)) b.set b.is_set out b.start n (length-range_with_len 1 (n - 1)) stand.0),
            ))),
          );
          counted = sym many_codes;
        };
        glyphs = subst (λ names. MatchOption names (AreCids view (set-of set n) (length (texts codes)))
            (λ names. AreNames view (set-of set n) names.now (length names.now))) (sym no_names) (record {
              keyed = keyed;
              each = λ glyph less. cid-of b.set out b.start n glyph b.is_set stand.0 few_codes (omega (arith, less, many_codes));
            });
      };
      dictionaries = λ glyph less.
          let one = b.is_select.each glyph (omega (arith, less, many_codes)) in (
            one.0,
            one.2.0,
            dictionary-of font n glyph b.select out view p.select one.0 b.is_select (omega (arith, less, many_codes)) one.1
                (let below = one.2.1 in omega (arith, below, many_parts, counted)) many_codes stand.1
                (has-offset os FDSelect p.select (keyed-select m n p.char_set p.select p.char_strings p.array) low.select),
          );
    }

same-number : (a b : ℕ) → Some a ≡ Some b → a ≡ b
same-number a b e = cc

-- the SIDs after the first
behind-first : (numbers : List ℕ) (glyph n : ℕ) → 0 < glyph → slice_get numbers glyph ≡ Some n → slice_get (drop 1 numbers) (glyph - 1) ≡ Some n
behind-first [] glyph n some is = absurd (cc)
behind-first (x ∷ numbers) zero n some is = absurd (omega (arith, some))
behind-first (x ∷ numbers) (suc k) n some is = let before : suc k - 1 ≡ k = omega arith in ap (slice_get numbers) before ∙ is

low-by : (numbers : List ℕ) → ((k n : ℕ) → slice_get numbers k ≡ Some n → n < 65536) → All (λ n. n < 65536) numbers
low-by [] each = All-nil (λ n. n < 65536)
low-by (x ∷ numbers) each =
    All-cons (λ n. n < 65536) x numbers (each 0 x refl) (low-by numbers (λ k n is. each (suc k) n is))

all-low : (names : List (Bor (List ℕ))) (strings : List (List ℕ)) (numbers : List ℕ) → AreIdentified names strings numbers →
    All (λ n. n < 65536) (drop 1 numbers)
all-low names strings numbers are = All-drop (λ n. n < 65536) 1 numbers (low-by numbers (λ k n is.
    let within = slice_get_within numbers k n is in
    let name : Bor (List ℕ) = get_or names k (record { ref_ptr = (0, 0); now = [] }) in
    let got : slice_get names k ≡ Some name = slice_get-get_or names k (record { ref_ptr = (0, 0); now = [] }) (omega (arith, within, are.counted)) in
    let one = are.each k name got in
    let same : one.0 ≡ n = same-number one.0 n (sym one.1 ∙ is) in
    let low = one.3 in omega (arith, low, same)))

-- the name of a glyph
name-of : (ids : Identifiers) (names : List (Bor (List ℕ))) (view : View) (text out : List ℕ) (place glyph : ℕ) (name : Bor (List ℕ)) →
    (is : IsSetText (drop 1 ids.numbers.items) text) → AreIdentified names (texts ids.strings.items) ids.numbers.items →
    TextStands text out place → (IsCidKeyed view.tables.dictionary → ⊥) → view.tables.strings ≡ texts ids.strings.items →
    length view.char_strings ≡ length names → 0 < glyph → glyph < length names → slice_get names glyph ≡ Some name →
    HasName view (set-of (identifiers-of (drop 1 ids.numbers.items) text is out place (length names)) (length names)) glyph name.now
name-of ids names view text out place glyph name is are stands unkeyed strings many some less got =
    let numbers : List ℕ = drop 1 ids.numbers.items in
    let one = are.each glyph name got in
    let counted : length numbers ≡ length names - 1 = length-drop 1 ids.numbers.items ∙ ap (λ k. k - 1) are.counted in
    let there : slice_get numbers (glyph - 1) ≡ Some one.0 = behind-first ids.numbers.items glyph one.0 some one.1 in
    record {
      not_keyed = unkeyed;
      there = omega (arith, many, less);
      string = (
        one.0,
        record {
          there = less;
          told = inr (some, names-behind numbers text is out place (length names) (glyph - 1) one.0 counted stands (all-low names _ _ are) there);
        },
        ap (λ strings. string_of strings one.0) strings ∙ one.2,
      );
    }

pub named-font : (font : Font) (naming : Naming) (names : Bor (List (Bor (List ℕ)))) (matrix : List ℕ) (m : Option (List Decimal))
    (ids : Identifiers) (codes : List (Vec ℕ Global)) (private out : List ℕ) →
    IsNamedBytes naming.font.now matrix ids codes private out →
    length codes < 2 ^ 16 → length ids.strings.items < 2 ^ 16 → length names.now ≡ length codes →
    length naming.font.now + length (concat (texts ids.strings.items)) + length (concat (texts codes)) + length private + length matrix < 2000000000 →
    IsDict matrix (matrix_operation m) → IsPrivate private → AreIdentified names.now (texts ids.strings.items) ids.numbers.items →
    length (view_shown font).font_dictionaries ≡ 1 → HaveFontDicts font (length codes) →
    naming.glyphs ≡ Some names → IsFontOf font naming (texts codes) out
named-font font naming names matrix m ids codes private out b few_codes few_strings counted sum dict is_private identified one_dictionary have is_names =
    let name : List ℕ = naming.font.now in
    let strings : List (List ℕ) = texts ids.strings.items in
    let cs : List ℕ = index_text (texts codes) in
    let n : ℕ = length names.now in
    let p : Places = named_places b.start b.set cs in
    let top : List ℕ = named_text matrix (length private) p in
    let front : List ℕ = tables_text (name ∷ []) top strings in
    let many_codes : length (texts codes) ≡ n = length-map codes (λ v. v.items) ∙ sym counted in
    let many_strings : length strings ≡ length ids.strings.items = length-map ids.strings.items (λ v. v.items) in
    let small = b.small in
    let low : AreLow p = record {
      char_set = omega (arith, small);
      select = omega arith;
      char_strings = omega (arith, small);
      private = omega (arith, small);
      array = omega arith;
    } in
    let os : List Operation = named_operations m p.char_set p.char_strings (length private) p.private in
    let map : Dictionary = dictionary_of os in
    let stand = three-stand out front b.set cs private b.start b.begins b.is in
    let end = three-length out front b.set cs private b.start b.begins b.is in
    let codes_fit : FitsIndex (texts codes) = they_fit (texts codes) (omega (arith, many_codes, counted, few_codes)) (omega (arith, sum)) in
    let head = (tables_are out _ (name ∷ []) strings top map b.is (single_fits name (omega (arith, sum)))
    (single_fits top (omega (arith, sum, named-length matrix (length private) p)))
    (they_fit strings (omega (arith, many_strings, few_strings)) (omega (arith, sum)))
    (writes_operations.all top os (named-dict matrix m (length private) p dict (omega (arith, small)) low))).0 in
    let part = part-of private is_private None in
    let view : View = record {
      tables = record { names = name ∷ []; dictionary = map; strings = strings; subroutines = [] };
      char_strings = texts codes;
      parts = part ∷ [];
    } in
    let no_ros : look map ROS ≡ None = unlooked os ROS (named-ros m p.char_set p.char_strings (length private) p.private) in
    let unkeyed : IsCidKeyed map → ⊥ = λ keyed. is-none no_ros keyed in
    let numbers : List ℕ = drop 1 ids.numbers.items in
    let behind_first : length numbers ≡ n - 1 = length-drop 1 ids.numbers.items ∙ ap (λ k. k - 1) identified.counted in
    let set = identifiers-of numbers b.set b.is_set out b.start n in
    record {
      view = view;
      stands = record {
        header = omega (arith, end, b.begins, tables-sum name top strings);
        tables = subst (λ k. AreTables out k 0 view.tables) (sym (four-bytes out front _ _ b.is refl)) head;
        char_strings = are-codes os (texts codes) out p.char_strings (named-type m p.char_set p.char_strings (length private) p.private)
            (named-codes m p.char_set p.char_strings (length private) p.private) low.char_strings (omega (arith, end, small)) codes_fit stand.1;
        parts = OfFont part no_ros (
          has-locals private out os p.private None is_private
              (named-private m p.char_set p.char_strings (length private) p.private) (omega (arith, small)) low.private stand.2,
          refl,
        ) refl;
      };
      are_codes = refl;
      none = refl;
      parts = (is-plain private is_private None, tt);
      called = record {
        name = refl;
        set = set-of set n;
        is = record {
          identifiers = (
            b.start,
            has-offset os CharSet b.start (named-set m p.char_set p.char_strings (length private) p.private) low.char_set,
            inr (inr (inr (
              omega (arith, b.begins, tables-sum name top strings),
              subst (λ k. CharSetStandsAt set out b.start k) (sym many_codes) (stands-at numbers b.set b.is_set out b.start n behind_first stand.0),
            ))),
          );
          counted = sym many_codes;
        };
        glyphs = subst (λ names. MatchOption names (AreCids view (set-of set n) (length (texts codes)))
            (λ names. AreNames view (set-of set n) names.now (length names.now))) (sym is_names) (record {
              each = λ glyph called some less got.
                  name-of ids names.now view b.set out b.start glyph called b.is_set identified stand.0 unkeyed refl many_codes some less got;
            });
      };
      dictionaries = λ glyph less.
          let one = have glyph (omega (arith, less, many_codes, counted)) in
          let below = one.1.1 in
          let zero : one.0 ≡ 0 = omega (arith, below, one_dictionary) in
          (one.0, one.1.0, record { there = omega (arith, zero); selected = inl (refl, zero) });
    }
