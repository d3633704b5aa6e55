-- What a font that is read in place has, where whole fonts are read so too.
use Rattle.std.proofs.Common.{◌≡◌, sym, ap, subst, ◌∙◌, ℕ, ◌+◌, ◌<◌, List, [], ◌∷◌, length, Some, arith}
use Rattle.std.specs.Prelude.{All, slice_get}
use Rattle.std.proofs.lemmas.Option.{none-some, same_Some}
use Rattle.postscript_base.specs.Compact1.Dictionary.{Dictionary}
use Rattle.postscript_base.specs.Compact1.DictionaryLaw.{IsDictionary}
use Rattle.postscript_base.specs.Compact1.Header.{header}
use Rattle.postscript_base.specs.Index.{IsOpened, number_at}
use Rattle.postscript_base.specs.Numbers.{number}
use Rattle.postscript_base.specs.Tape.Outcome.{Got}
use Rattle.postscript_base.specs.declared.compact1.header.Header.{Header}
use Rattle.postscript_base.specs.declared.compact1.operator.Operator.TheVariants.{CharStrings}
use Rattle.postscript_base.proofs.Opening.{opens_indices}
use Rattle.postscript_compact1.specs.FontSet.Font.{Part}
use Rattle.postscript_compact1.specs.FontSet.Parts.{AreParts, HasCharSet, HasEncoding, IsPart}
use Rattle.postscript_compact1.specs.Index.{Index}
use Rattle.postscript_compact1.specs.IndexAt.{IsIndex}
use Rattle.postscript_compact1.specs.ItemsLaw.{AreDictionaries}
use Rattle.postscript_compact1.specs.declared.char_set.CharSet.{CharSet}
use Rattle.postscript_compact1.specs.declared.encoding.Encoding.{Encoding}
use Rattle.postscript_compact1.proofs.Steps.{Done, Step, accepted}
use Rattle.postscript_view.specs.Contents.{View}
use Rattle.postscript_view.specs.Layout.{IsLaidOut}
use Rattle.postscript_view.proofs.Agreeing.{index_opens}
use Rattle.postscript_write.specs.Readings.{HasLenientFont}
use Rattle.postscript_write.proofs.Arranged.{one_first}
use Rattle.postscript_write.proofs.Heads.{same_open}
use Rattle.postscript_write.proofs.PrivatesStand.{one_dictionary}
use Rattle.postscript_write.proofs.StrictCharSet.{number_got}
use Rattle.postscript_write.proofs.StrictIndex.{items_some}

-- the third byte is the size of the header
third_byte : (bytes : List ℕ) (h : Header) (next : ℕ) → header bytes 0 ≡ Got h next → h.header_size ≡ number_at bytes 2 1
unfolding header
third_byte bytes h next e =
    let s = accepted (Step (number 1) (λ major. Step (number 1) (λ minor. Step (number 1) (λ header_size. Step (number 1) (λ offset_size.
    Done (record { major = major; minor = minor; header_size = header_size; offset_size = offset_size })))))) bytes 0 h next e in
    let first = number_got 1 bytes 0 s.0 s.1 (omega arith) s.2 in
    let second = number_got 1 bytes s.1 s.3.0 s.3.1 (omega arith) s.3.2 in
    let third = number_got 1 bytes s.3.1 s.3.3.0 s.3.3.1 (omega arith) s.3.3.2 in
    let there : s.3.1 ≡ 2 = omega (arith, first.2, second.2) in
    sym (ap (λ (h : Header). h.header_size) s.3.3.3.3.0) ∙ third.1 ∙ ap (λ p. number_at bytes p 1) there

-- an INDEX that a whole font is read with is the one that is opened there
same_items : (bytes : List ℕ) (place at next behind : ℕ) (index : Index) (items : List (List ℕ)) → place ≡ at →
    IsIndex bytes place index next → IsOpened bytes at items behind → (index.items ≡ items) × (next ≡ behind)
same_items bytes place at next behind index items same is opened =
    same_open bytes place index.items items next behind
    ((opens_indices bytes place index.items next).0 (index_opens bytes place index next is))
    (subst (λ p. IsOpened bytes p items behind) (sym same) opened)

-- the part of the first dictionary
first_part : (manner : _) (bytes : List ℕ) (items : List (List ℕ)) (maps : List Dictionary) (parts : List Part) (place next : ℕ)
    (item : List ℕ) (map : Dictionary) → AreDictionaries items maps → slice_get items 0 ≡ Some item → IsDictionary item 0 map →
    AreParts manner bytes 0 maps parts place next → (part : Part) × (behind : ℕ) × IsPart manner bytes 0 map part behind
first_part manner bytes [] maps parts place next item map are there is have = absurd (none-some item there)
first_part manner bytes (i ∷ items) [] parts place next item map are there is have = absurd are
first_part manner bytes (i ∷ items) (m ∷ maps) [] place next item map are there is have = absurd have
first_part manner bytes (i ∷ items) (m ∷ maps) (p ∷ parts) place next item map are there is have =
    let own : IsDictionary item 0 m = subst (λ (xs : List ℕ). IsDictionary xs 0 m) (same_Some i item there) are.0 in
    (p, have.0, subst (λ m. IsPart manner bytes 0 m p have.0) (one_dictionary item m map own is) have.1)

-- Names and strings have a byte at least, the encoding is predefined, and the char set names each glyph.
pub record HasForWhole (bytes : List ℕ) (font : View) : Type 0 where
  pub names : All (λ item. 0 < length item) font.tables.names
  pub strings : All (λ item. 0 < length item) font.tables.strings
  pub encoding : Encoding
  pub is_encoding : HasEncoding font.tables.dictionary encoding
  pub set : CharSet
  pub is_set : HasCharSet bytes 0 (length font.char_strings) font.tables.dictionary set

pub has_for_whole : (bytes : List ℕ) (font : View) → IsLaidOut bytes 0 font → HasLenientFont bytes → HasForWhole bytes font
has_for_whole bytes font laid was =
    let r = was.1.1 in
    let a = r.are_tables in
    let t = laid.tables in
    let map = font.tables.dictionary in
    let some : List (List ℕ) → Type 0 = All (λ item. 0 < length item) in
    let start : ℕ = 0 + was.0.header.header_size in
    let size = third_byte bytes was.0.header r.header_next r.header in
    let names = same_items bytes start (number_at bytes 2 1) a.names_next t.names_next a.names font.tables.names
    (omega (arith, size)) a.are_names t.are_names in
    let maps = same_items bytes a.names_next t.names_next a.dictionaries_next t.dictionaries_next a.dictionaries t.dictionaries names.1
    a.are_items
    t.are_dictionaries in
    let strings = same_items bytes a.dictionaries_next t.dictionaries_next a.strings_next t.strings_next r.tables.strings
    font.tables.strings maps.1
    a.are_strings t.are_strings in
    let there : slice_get a.dictionaries.items 0 ≡ Some t.item = ap (λ (xs : List (List ℕ)). slice_get xs 0) maps.0 ∙ t.there in
    let first = first_part _ bytes a.dictionaries.items r.tables.dictionaries r.parts r.behind was.1.0 t.item map a.are_dictionaries there
    t.is_dictionary r.are_parts in
    let part = first.0 in
    let own = first.2 in
    let codes = own.char_strings in
    let named = laid.char_strings.named in
    let at : 0 + codes.0 ≡ named.0 = omega (arith, one_first map CharStrings codes.0 named.0 codes.1 named.1) in
    let same = same_items bytes (0 + codes.0) named.0 own.char_strings_next named.2.0 part.char_strings font.char_strings at codes.4
    named.2.2 in
    record {
      names = subst some names.0 (items_some bytes start a.names a.names_next a.are_names);
      strings = subst some strings.0 (items_some bytes a.dictionaries_next r.tables.strings a.strings_next a.are_strings);
      encoding = part.encoding;
      is_encoding = own.encoding;
      set = part.char_set;
      is_set = subst (λ n. HasCharSet bytes 0 n map part.char_set) (ap length same.0) own.char_set;
    }
